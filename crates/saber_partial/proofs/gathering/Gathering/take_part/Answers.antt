use Rattle.std.proofs.Common.{Result, Ok, Err, OnOk, sym, subst, ◌∙◌, ap, ap₂}
use Rattle.saber_plan.specs.Parts.{Part, merge, no_part}
use Rattle.saber_plan.specs.Facts.Parts.{merge-empty_left}
use Rattle.saber_partial.specs.Piles.{Pile}
use Rattle.saber_partial.specs.Tallies.{CanMerge}
use Rattle.saber_partial.specs.MergeFacts.{can_none}
use Rattle.saber_partial.specs.Young.{young_part}
use Rattle.saber_partial.proofs.gathering.Gathering.take_part.Goals as goal

on_ok : {T E P : Type 0} (r : Result T E) → P → OnOk r P
on_ok (Ok x) p = p
on_ok (Err x) p = tt

pub invariant_of-self-then-is_empty : goal.invariant_of-self-then-is_empty
invariant_of-self-then-is_empty c =
    let pile = c.self.inside.pile.part in
    (subst (CanMerge pile) (sym (ap (young_part c.take_part.new.self.order) c.in_ok-part.ensures.none)) (can_none pile), c.take_part.ensures.order)

pub returns-then-is_empty-clause-part : goal.returns-then-is_empty-clause-part
returns-then-is_empty-clause-part c =
    let s = c.self.inside in
    let young = young_part s.young.order s.young.groups.entries in
    c.in_ok-part.ensures.part ∙ sym (ap (λ (p : Part). merge p young) (c.is_empty.ensures c.if-is_empty.true) ∙ merge-empty_left young) ∙ c.self.view_is

pub returns-then-is_empty-clause-none : goal.returns-then-is_empty-clause-none
returns-then-is_empty-clause-none c =
    ap₂ merge (c.is_empty.ensures c.if-is_empty.true) (ap (young_part c.take_part.new.self.order) c.in_ok-part.ensures.none) ∙ merge-empty_left no_part

pub invariant_of-self-in_err-take_in : goal.invariant_of-self-in_err-take_in
invariant_of-self-in_err-take_in c =
    let pile = c.take_in.new.self.part in
    (subst (CanMerge pile) (sym (ap (young_part c.take_part.new.self.order) c.in_ok-part.ensures.none)) (can_none pile), c.take_part.ensures.order)

pub invariant_of-self-2 : goal.invariant_of-self-2
invariant_of-self-2 c =
    let pile = c.replace-all.new.dest.part in
    (subst (CanMerge pile) (sym (ap (young_part c.take_part.new.self.order) c.in_ok-part.ensures.none)) (can_none pile), c.take_part.ensures.order)

pub returns-clause-none : goal.returns-clause-none
returns-clause-none c =
    on_ok c.into_part.result (ap₂ merge (ap (λ (p : Pile). p.part) c.replace-all.ensures.after ∙ c.empty.ensures.part) (ap (young_part c.take_part.new.self.order) c.in_ok-part.ensures.none) ∙ merge-empty_left no_part)
