use Rattle.std.proofs.Common.{◌≡◌, ◌++◌, ◌∙◌, ap, ap₂, sym, subst, subst₂, List, Some}
use Rattle.std.specs.List.{AllByRecursion}
use Rattle.std.specs.Result.{OnOk}
use Rattle.saber_plan.specs.declared.expressions.Product.{Product}
use Rattle.saber_plan.specs.Trees.{tree_of}
use Rattle.saber_plan.specs.Parts.{Part, merge, part_lines}
use Rattle.saber_plan.specs.Facts.Parts.{merge-empty_left, merge-empty_right}
use Rattle.saber_plan.specs.Tasks.{full}
use Rattle.saber_partial.specs.Printing.{lines_for, IsLone}
use Rattle.saber_partial.specs.Sorted.{weave}
use Rattle.saber_partial.specs.Tallies.{CanMerge}
use Rattle.saber_partial.proofs.Fitting.{items_are_lone}
use Rattle.saber_partial.proofs.Layouts.{one_layout, entry_in_full}
use Rattle.saber_partial.proofs.Lined.{part_lined}
use Rattle.saber_partial.proofs.Rising.{can_all}
use Rattle.saber_partial.proofs.Weaving.{weave_rises, weave_merge}
use Rattle.saber_partial.proofs.groups.Partial.lines_with.Goals as goal

pub returns-then-is_empty-clause-ok : goal.returns-then-is_empty-clause-ok
returns-then-is_empty-clause-ok g c =
    let mine = c.args.self.now in
    let same = sym (ap (merge mine) (c.is_empty.ensures.none c.if-is_empty.true) ∙ merge-empty_right mine) in
    subst (λ (p : Part). OnOk c.lines.result (c.lines.new.out.items ≡ c.args.out.now.items ++ part_lines (tree_of c.args.plan.now) c.args.window p)) same
    c.lines.ensures.ok

pub returns-then-is_empty-2-clause-ok : goal.returns-then-is_empty-2-clause-ok
returns-then-is_empty-2-clause-ok g c =
    let theirs = c.args.later.now in
    let same = sym (ap (λ (p : Part). merge p theirs) (c.is_empty-2.ensures.none c.if-is_empty-2.true) ∙ merge-empty_left theirs) in
    subst (λ (p : Part). OnOk c.lines-then-is_empty-2.result (c.lines-then-is_empty-2.new.out.items ≡ c.args.out.now.items ++ part_lines (tree_of c.args.plan.now) c.args.window p)) same
    c.lines-then-is_empty-2.ensures.ok

pub write_all_woven-requires-clause-alike : goal.write_all_woven-requires-clause-alike
write_all_woven-requires-clause-alike g c =
    let es = c.self.inside.groups.entries in
    let fs = c.later.inside.groups.entries in
    let both = subst₂ CanMerge (sym c.self.view_is) (sym c.later.view_is) c.requires.can in
    let mine = entry_in_full es (subst (λ (p : Part). full p ≡ Some p) (sym c.self.view_is) (c.is_empty-2.ensures.some c.if-is_empty-2.false)) in
    let theirs = entry_in_full fs (subst (λ (p : Part). full p ≡ Some p) (sym c.later.view_is) (c.is_empty.ensures.some c.if-is_empty.false)) in
    one_layout c.self.inside.groups.layout c.later.inside.groups.layout es fs c.has_one_layout.ensures.layout c.has_one_layout-2.ensures.layout
    c.has_one_layout.ensures.each c.has_one_layout-2.ensures.each c.self.invariant c.later.invariant both mine theirs

pub write_all_woven-requires-clause-items : goal.write_all_woven-requires-clause-items
write_all_woven-requires-clause-items g c =
    subst (AllByRecursion IsLone) (sym c.items.ensures.is) (items_are_lone (tree_of c.args.plan.now) c.items.ensures.checked c.requires.group)

pub write_all_woven-requires-clause-can : goal.write_all_woven-requires-clause-can
write_all_woven-requires-clause-can g c =
    let both = subst₂ CanMerge (sym c.self.view_is) (sym c.later.view_is) c.requires.can in
    can_all c.self.inside.groups.entries c.later.inside.groups.entries c.self.invariant c.later.invariant (record { at = both.at })

pub returns-in-Ok-clause-ok : goal.returns-in-Ok-clause-ok
returns-in-Ok-clause-ok g c =
    let es = c.self.inside.groups.entries in
    let fs = c.later.inside.groups.entries in
    let out = c.args.out.now.items in
    let q = tree_of c.args.plan.now in
    let w = c.args.window in
    let part = weave_merge es fs c.self.invariant c.later.invariant ∙ ap₂ merge c.self.view_is c.later.view_is in
    let rises = weave_rises es fs c.self.invariant c.later.invariant in
    c.in-Ok.ensures.ok
    ∙ ap (λ (is : List (List Product)). out ++ lines_for w is (weave es fs)) c.items.ensures.is
    ∙ ap (λ l. out ++ l) (part_lined q w (weave es fs) c.requires.group rises ∙ ap (part_lines q w) part)
