use Rattle.std.proofs.Common.{[], ◌∷◌, ◌++◌, sym, ◌∙◌, ap, subst}
use Rattle.std.specs.List.{AllByRecursion}
use Rattle.saber_plan.specs.Parts.{Part}
use Rattle.saber_partial.specs.Tallies.{CanMerge}
use Rattle.saber_sliding.specs.Entries.{Entries}
use Rattle.saber_sliding.specs.Stacks.{parts_of, side_by_side}
use Rattle.saber_sliding.proofs.Stacked.{side_parts, side_push}
use Rattle.saber_sliding.proofs.stack.Stack.push.Goals as goal

pub push-requires-2-clause-alike : goal.push-requires-2-clause-alike
push-requires-2-clause-alike c =
    let s = c.self.inside in
    let p = c.args.part.now in
    subst (AllByRecursion (λ (q : Part). CanMerge q p)) (side_parts s.numbers.items s.parts c.self.invariant)
    (subst (λ (es : Entries). AllByRecursion (λ (q : Part). CanMerge q p) (parts_of es)) (sym c.self.view_is) c.requires.alike)

pub returns-in-Ok-clause-ok : goal.returns-in-Ok-clause-ok
returns-in-Ok-clause-ok c =
    let s = c.self.inside in
    let n = c.args.number in
    let p = c.args.part.now in
    (λ i. side_by_side (c.in_ok-push.ensures.items i) (c.in-Ok.ensures.ok i)) ∙ side_push s.numbers.items s.parts n p c.self.invariant
    ∙ ap (λ (es : Entries). es ++ (n, p) ∷ []) c.self.view_is
