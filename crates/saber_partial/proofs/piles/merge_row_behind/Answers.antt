use Rattle.std.proofs.Common.{◌≡◌, ◌++◌, ◌∷◌, [], ◌-◌, suc, length, take, sym, subst, ◌∙◌, ap, arith}
use Rattle.saber_plan.specs.Parts.{Part}
use Rattle.saber_partial.specs.Piles.{piled_part, CanPile}
use Rattle.saber_partial.proofs.PileFacts.{joined, last_is, last_set}
use Rattle.saber_partial.proofs.piles.merge_row_behind.Goals as goal

pub merge_row-requires : goal.merge_row-requires
merge_row-requires g c =
    let ps = c.args.parts.now.items in
    let i = c.args.parts.now.len - 1 in
    let some = c.requires.some in
    let same = c.args.parts.now.ok.0 in
    let long : length ps ≡ suc i = omega (arith, some, same) in
    (joined ps (take i ps) c.in-Some.last.now c.args.part.now (last_is ps i c.in-Some.last.now long c.in-Some.ensures.value) c.requires.can c.requires.room).two

pub returns-in-Ok-clause-all : goal.returns-in-Ok-clause-all
returns-in-Ok-clause-all g c =
    let ps = c.args.parts.now.items in
    let i = c.args.parts.now.len - 1 in
    let some = c.requires.some in
    let same = c.args.parts.now.ok.0 in
    let long : length ps ≡ suc i = omega (arith, some, same) in
    let j = joined ps (take i ps) c.in-Some.last.now c.args.part.now (last_is ps i c.in-Some.last.now long c.in-Some.ensures.value) c.requires.can c.requires.room in
    ap piled_part (last_set ps i c.merge_row.new.self long ∙ ap (λ (p : Part). take i ps ++ p ∷ []) c.in-Ok.ensures.ok) ∙ j.all

pub returns-in-Ok-clause-can : goal.returns-in-Ok-clause-can
returns-in-Ok-clause-can g c =
    let ps = c.args.parts.now.items in
    let i = c.args.parts.now.len - 1 in
    let some = c.requires.some in
    let same = c.args.parts.now.ok.0 in
    let long : length ps ≡ suc i = omega (arith, some, same) in
    let j = joined ps (take i ps) c.in-Some.last.now c.args.part.now (last_is ps i c.in-Some.last.now long c.in-Some.ensures.value) c.requires.can c.requires.room in
    subst CanPile (sym (last_set ps i c.merge_row.new.self long ∙ ap (λ (p : Part). take i ps ++ p ∷ []) c.in-Ok.ensures.ok)) j.can
