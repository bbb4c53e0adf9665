use Rattle.std.proofs.Common.{◌≡◌, ◌∙◌, ap, ap₂, sym, subst, subst₂, List, Some, IfOk}
use Rattle.std.specs.List.{AllByRecursion}
use Rattle.saber_plan.specs.declared.expressions.Product.{Product}
use Rattle.saber_plan.specs.Answers as a
use Rattle.saber_plan.specs.Trees.{tree_of}
use Rattle.saber_plan.specs.Parts.{Part, merge, part_answers}
use Rattle.saber_plan.specs.Facts.Parts.{merge-empty_left, merge-empty_right}
use Rattle.saber_plan.specs.Tasks.{full}
use Rattle.saber_partial.specs.Printing.{answers_under, IsLone}
use Rattle.saber_partial.specs.Sorted.{weave}
use Rattle.saber_partial.specs.Tallies.{CanMerge}
use Rattle.saber_partial.proofs.Fitting.{items_are_lone}
use Rattle.saber_partial.proofs.Layouts.{one_layout, entry_in_full}
use Rattle.saber_partial.proofs.Listed.{part_listed}
use Rattle.saber_partial.proofs.Rising.{can_all}
use Rattle.saber_partial.proofs.Weaving.{weave_rises, weave_merge}
use Rattle.saber_partial.proofs.groups.Partial.answers_with.Goals as goal

pub returns-then-is_empty-clause-ok : goal.returns-then-is_empty-clause-ok
returns-then-is_empty-clause-ok g c =
    let mine = c.args.self.now in
    let same = sym (ap (merge mine) (c.is_empty.ensures.none c.if-is_empty.true) ∙ merge-empty_right mine) in
    subst (λ (p : Part). IfOk c.answers.result (λ a. a ≡ part_answers (tree_of c.args.plan.now) p)) same c.answers.ensures

pub returns-then-is_empty-2-clause-ok : goal.returns-then-is_empty-2-clause-ok
returns-then-is_empty-2-clause-ok g c =
    let theirs = c.args.later.now in
    let same = sym (ap (λ (p : Part). merge p theirs) (c.is_empty-2.ensures.none c.if-is_empty-2.true) ∙ merge-empty_left theirs) in
    subst (λ (p : Part). IfOk c.answers-then-is_empty-2.result (λ a. a ≡ part_answers (tree_of c.args.plan.now) p)) same c.answers-then-is_empty-2.ensures

pub answers_woven-requires-clause-alike : goal.answers_woven-requires-clause-alike
answers_woven-requires-clause-alike g c =
    let es = c.self.inside.groups.entries in
    let fs = c.later.inside.groups.entries in
    let both = subst₂ CanMerge (sym c.self.view_is) (sym c.later.view_is) c.requires.can in
    let mine = entry_in_full es (subst (λ (p : Part). full p ≡ Some p) (sym c.self.view_is) (c.is_empty-2.ensures.some c.if-is_empty-2.false)) in
    let theirs = entry_in_full fs (subst (λ (p : Part). full p ≡ Some p) (sym c.later.view_is) (c.is_empty.ensures.some c.if-is_empty.false)) in
    one_layout c.self.inside.groups.layout c.later.inside.groups.layout es fs c.has_one_layout.ensures.layout c.has_one_layout-2.ensures.layout
    c.has_one_layout.ensures.each c.has_one_layout-2.ensures.each c.self.invariant c.later.invariant both mine theirs

pub answers_woven-requires-clause-items : goal.answers_woven-requires-clause-items
answers_woven-requires-clause-items g c =
    subst (AllByRecursion IsLone) (sym c.items.ensures.is) (items_are_lone (tree_of c.args.plan.now) c.items.ensures.checked c.requires.group)

pub answers_woven-requires-clause-can : goal.answers_woven-requires-clause-can
answers_woven-requires-clause-can g c =
    let both = subst₂ CanMerge (sym c.self.view_is) (sym c.later.view_is) c.requires.can in
    can_all c.self.inside.groups.entries c.later.inside.groups.entries c.self.invariant c.later.invariant (record { at = both.at })

pub returns-clause-ok : goal.returns-clause-ok
returns-clause-ok g c =
    let es = c.self.inside.groups.entries in
    let fs = c.later.inside.groups.entries in
    let q = tree_of c.args.plan.now in
    let part = weave_merge es fs c.self.invariant c.later.invariant ∙ ap₂ merge c.self.view_is c.later.view_is in
    let rises = weave_rises es fs c.self.invariant c.later.invariant in
    let all = ap (λ (is : List (List Product)). answers_under is (weave es fs)) c.items.ensures.is
    ∙ part_listed q (weave es fs) c.requires.group rises ∙ ap (part_answers q) part in
    subst (λ (l : a.Answers). IfOk c.answers_woven.result (λ a. a ≡ l)) all c.answers_woven.ensures
