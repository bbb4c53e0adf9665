use Rattle.std.proofs.Common.{◌≡◌, sym, ◌∙◌, ap, subst, subst₂, Some}
use Rattle.saber_plan.specs.Parts.{Part, merge}
use Rattle.saber_plan.specs.Facts.Parts.{merge-empty_right}
use Rattle.saber_plan.specs.Tasks.{full}
use Rattle.saber_partial.specs.Tallies.{CanMerge}
use Rattle.saber_partial.proofs.Layouts.{one_layout, entry_in_full}
use Rattle.saber_partial.proofs.groups.Partial.take_all.Goals as goal

pub returns-then-is_empty : goal.returns-then-is_empty
returns-then-is_empty c = sym (ap (merge c.args.self.now) (c.is_empty.ensures.none c.if-is_empty.true) ∙ merge-empty_right c.args.self.now)

pub take_in-requires-clause-alike : goal.take_in-requires-clause-alike
take_in-requires-clause-alike c =
    let s = c.self.inside.groups in
    let o = c.other.inside.groups in
    let both = subst₂ CanMerge (sym c.self.view_is) (sym c.other.view_is) c.requires.can in
    let mine = entry_in_full s.entries (subst (λ (p : Part). full p ≡ Some p) (sym c.self.view_is) c.requires.some) in
    let theirs = entry_in_full o.entries (subst (λ (p : Part). full p ≡ Some p) (sym c.other.view_is) (c.is_empty.ensures.some c.if-is_empty.false)) in
    one_layout s.layout o.layout s.entries o.entries c.has_one_layout.ensures.layout c.has_one_layout-2.ensures.layout c.has_one_layout.ensures.each c.has_one_layout-2.ensures.each c.self.invariant c.other.invariant both mine theirs

pub take_in-requires-clause-can : goal.take_in-requires-clause-can
take_in-requires-clause-can c = let both = subst₂ CanMerge (sym c.self.view_is) (sym c.other.view_is) c.requires.can in record { at = both.at }
