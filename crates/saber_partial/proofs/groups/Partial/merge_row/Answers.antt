use Rattle.std.proofs.Common.{◌≡◌, [], ◌∷◌, sym, ◌∙◌, ap, ap₂, subst, subst₂, Some, arith}
use Rattle.std.specs.Result.{OnOk}
use Rattle.saber_plan.specs.Parts.{Part, merge}
use Rattle.saber_plan.specs.Facts.Parts.{merge-empty_left}
use Rattle.saber_plan.specs.Tasks.{full}
use Rattle.saber_partial.specs.declared.layout.Layout.{Layout}
use Rattle.saber_partial.specs.Flat.{entry_in, IsRow}
use Rattle.saber_partial.specs.Sorted.{alone, part_of, JoinsFit}
use Rattle.saber_partial.specs.Tallies.{CanMerge}
use Rattle.saber_partial.proofs.FlatRows.{row_layout}
use Rattle.saber_partial.proofs.Layouts.{one_layout, entry_in_full}
use Rattle.saber_partial.proofs.groups.Partial.merge_row.Goals as goal

pub returns-then-is_empty-clause-ok : goal.returns-then-is_empty-clause-ok
returns-then-is_empty-clause-ok g c =
    let p = c.args.part.now in
    subst (λ (m : Part). OnOk c.set_to_row.result (c.set_to_row.new.self ≡ m))
    (sym (merge-empty_left p) ∙ ap (λ (m : Part). merge m p) (sym (c.is_empty.ensures.none c.if-is_empty.true))) c.set_to_row.ensures

pub take_in_row-requires-clause-row : goal.take_in_row-requires-clause-row
take_in_row-requires-clause-row g c =
    let s = c.self.inside.groups in
    let l = c.part.inside.layout.now in
    let r = c.part.inside.row.now in
    let both = subst₂ CanMerge (sym c.self.view_is) (sym c.part.view_is) c.requires in
    let some = entry_in_full s.entries (subst (λ (p : Part). full p ≡ Some p) (sym c.self.view_is) (c.is_empty.ensures.some c.if-is_empty.false)) in
    let same = one_layout s.layout l s.entries (entry_in l r ∷ []) c.has_one_layout.ensures.layout c.part.invariant.0 c.has_one_layout.ensures.each (row_layout l r c.part.invariant.0 c.part.invariant.1, tt) c.self.invariant tt both some (omega arith) in
    subst (λ (k : Layout). IsRow k r) (sym same) c.part.invariant.1

pub take_in_row-requires-clause-can : goal.take_in_row-requires-clause-can
take_in_row-requires-clause-can g c =
    let s = c.self.inside.groups in
    let l = c.part.inside.layout.now in
    let r = c.part.inside.row.now in
    let both = subst₂ CanMerge (sym c.self.view_is) (sym c.part.view_is) c.requires in
    let some = entry_in_full s.entries (subst (λ (p : Part). full p ≡ Some p) (sym c.self.view_is) (c.is_empty.ensures.some c.if-is_empty.false)) in
    let same = one_layout s.layout l s.entries (entry_in l r ∷ []) c.has_one_layout.ensures.layout c.part.invariant.0 c.has_one_layout.ensures.each (row_layout l r c.part.invariant.0 c.part.invariant.1, tt) c.self.invariant tt both some (omega arith) in
    subst (λ (k : Layout). JoinsFit (part_of s.entries) (alone (entry_in k r))) (sym same) (record { at = both.at })

pub returns-clause-ok : goal.returns-clause-ok
returns-clause-ok g c =
    let s = c.self.inside.groups in
    let l = c.part.inside.layout.now in
    let r = c.part.inside.row.now in
    let both = subst₂ CanMerge (sym c.self.view_is) (sym c.part.view_is) c.requires in
    let some = entry_in_full s.entries (subst (λ (p : Part). full p ≡ Some p) (sym c.self.view_is) (c.is_empty.ensures.some c.if-is_empty.false)) in
    let same = one_layout s.layout l s.entries (entry_in l r ∷ []) c.has_one_layout.ensures.layout c.part.invariant.0 c.has_one_layout.ensures.each (row_layout l r c.part.invariant.0 c.part.invariant.1, tt) c.self.invariant tt both some (omega arith) in
    subst (λ (m : Part). OnOk c.take_in_row.result (part_of c.take_in_row.new.groups.entries ≡ m))
    (ap₂ merge c.self.view_is (ap (λ (k : Layout). alone (entry_in k r)) same ∙ c.part.view_is)) c.take_in_row.ensures.ok
