use Rattle.std.proofs.Common.{◌≡◌, List, ℤ, [], ◌∷◌, sym, ap, ◌∙◌, subst, Some}
use Rattle.std.specs.FinMap.{get}
use Rattle.std.specs.List.{insert}
use Rattle.std.proofs.lemmas.Result.{on_ok_weaker}
use Rattle.saber_plan.specs.Trees.{tree_of}
use Rattle.saber_plan.specs.Parts.{Part, Numbers, numbers}
use Rattle.saber_plan.specs.Tasks.{full}
use Rattle.saber_partial.specs.Tallies.{with_row, FitsAt}
use Rattle.saber_partial.specs.Sorted.{part_of, Rises}
use Rattle.saber_partial.proofs.Layouts.{entry_in_full, suits_there}
use Rattle.saber_partial.proofs.Merging.{either}
use Rattle.saber_partial.proofs.Rising.{read_at, wrote_rises, wrote_part, filled_rises, filled_part}
use Rattle.saber_partial.proofs.groups.Partial.add.Goals as goal

pub add_row-requires-clause-can : goal.add_row-requires-clause-can
add_row-requires-clause-can c = λ d.
    let es = c.self.inside.groups.entries in
    let k = c.args.key.now in
    c.requires.room.at _ (ap (λ (m : Part). get m k) (sym c.self.view_is) ∙ read_at es k c.in-Ok.i d c.self.invariant c.in-Ok.ensures.there)

pub invariant_of-self : goal.invariant_of-self
invariant_of-self c =
    let v = numbers (tree_of c.args.aggregates.now).aggregates (c.args.row.now.values ∷ []) in
    let d : List ℤ × Numbers = (c.args.key.now, v) in
    wrote_rises c.self.inside.groups.entries c.add_row.new.self.entries c.args.key.now c.in-Ok.i d v c.self.invariant c.in-Ok.ensures.there (c.add_row.ensures.joined d)

pub returns-in-Ok-clause-ok : goal.returns-in-Ok-clause-ok
returns-in-Ok-clause-ok c =
    let v = numbers (tree_of c.args.aggregates.now).aggregates (c.args.row.now.values ∷ []) in
    let d : List ℤ × Numbers = (c.args.key.now, v) in
    wrote_part c.self.inside.groups.entries c.add_row.new.self.entries c.args.key.now c.in-Ok.i d v c.self.invariant c.in-Ok.ensures.there (c.add_row.ensures.joined d)
    ∙ ap (λ (m : Part). with_row m c.args.key.now v) c.self.view_is

pub insert_first-requires-clause-suits : goal.insert_first-requires-clause-suits
insert_first-requires-clause-suits c =
    let t = c.self.inside.groups in
    let v = numbers (tree_of c.args.aggregates.now).aggregates (c.args.row.now.values ∷ []) in
    let some = entry_in_full t.entries (subst (λ (p : Part). full p ≡ Some p) (sym c.self.view_is) (c.is_empty.ensures.some c.if-is_empty.false)) in
    let fits = subst (λ (p : Part). FitsAt p c.args.key.now v) (sym c.self.view_is) c.requires.room in
    suits_there t.layout t.entries c.args.key.now (tree_of c.args.aggregates.now).aggregates c.args.row.now.values c.has_one_layout.ensures.each c.self.invariant fits some

pub invariant_of-self-in-Err : goal.invariant_of-self-in-Err
invariant_of-self-in-Err c =
    let es = c.self.inside.groups.entries in
    let gs = c.insert_first.new.self.entries in
    let k = c.args.key.now in
    let i = c.in-Err.i in
    let v = numbers (tree_of c.args.aggregates.now).aggregates (c.args.row.now.values ∷ []) in
    either c.insert_first.result (gs ≡ insert es i (k, v)) (gs ≡ es) (Rises gs) c.insert_first.ensures.ok c.insert_first.ensures.err
    (λ new. filled_rises es gs k i v c.self.invariant c.in-Err.ensures.missing new) (λ same. subst Rises (sym same) c.self.invariant)

pub returns-in-Err-clause-ok : goal.returns-in-Err-clause-ok
returns-in-Err-clause-ok c =
    let es = c.self.inside.groups.entries in
    let gs = c.insert_first.new.self.entries in
    let k = c.args.key.now in
    let i = c.in-Err.i in
    let v = numbers (tree_of c.args.aggregates.now).aggregates (c.args.row.now.values ∷ []) in
    on_ok_weaker {P = gs ≡ insert es i (k, v)} {Q = part_of gs ≡ with_row c.args.self.now k v} c.insert_first.result
    (λ new. filled_part es gs k i v c.self.invariant c.in-Err.ensures.missing new ∙ ap (λ (m : Part). with_row m k v) c.self.view_is) c.insert_first.ensures.ok
