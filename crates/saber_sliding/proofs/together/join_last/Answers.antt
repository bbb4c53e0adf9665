use Rattle.std.proofs.Common.{◌≡◌, ◌-◌, suc, length, slice_set, ◌∙◌, ap, arith}
use Rattle.std.proofs.lemmas.Result.{on_ok_weaker}
use Rattle.saber_plan.specs.Parts.{Part}
use Rattle.saber_sliding.proofs.Joining.{last_can, last_set}
use Rattle.saber_sliding.proofs.together.join_last.Goals as goal

pub merge_row-requires : goal.merge_row-requires
merge_row-requires g c =
    let es = c.args.back.now.items in
    let i = c.args.back.now.len - 1 in
    let some = c.in-Some.ensures.item in
    let same = c.args.back.now.ok.0 in
    let long : length es ≡ suc i = omega (arith, some, same) in
    last_can es i c.in-Some.last.now c.args.part.now long c.in-Some.ensures.value c.requires

pub returns-clause-back : goal.returns-clause-back
returns-clause-back g c =
    let es = c.args.back.now.items in
    let i = c.args.back.now.len - 1 in
    let d = c.in-Some.last.now in
    let some = c.in-Some.ensures.item in
    let same = c.args.back.now.ok.0 in
    let long : length es ≡ suc i = omega (arith, some, same) in
    on_ok_weaker c.merge_row.result (λ new. ap (λ (m : Part). slice_set es i (d.0, m)) new ∙ last_set es i d c.args.part.now long c.in-Some.ensures.value) c.merge_row.ensures.ok
