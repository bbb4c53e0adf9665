use Rattle.std.proofs.Common.{◌≡◌, ℕ, ◌+◌, ◌-◌, List, Some, get_or, ◌∷◌, [], take, refl, sym, subst, subst₂, arith}
use Rattle.std.proofs.lemmas.Option.{get_or_from_slice_get}
use Rattle.std.specs.List.{slice_get}
use Rattle.saber_plan.specs.declared.rows.Row.{Row}
use Rattle.saber_plan.specs.Trees.{tree_of}
use Rattle.saber_plan.specs.Windows.{mark_after}
use Rattle.saber_plan.specs.Parts.{group_part, no_part}
use Rattle.saber_plan.specs.Facts.Rows.{left_small, right_small, few_rows, row_at}
use Rattle.saber_group.specs.SliceParts.{IsSlice}
use Rattle.saber_group.proofs.RowsTogether.{lies}
use Rattle.saber_group.proofs.Running.{SliceTo, starts_at, slice_nil, slice_more, slice_is}
use Rattle.saber_partial.proofs.Counted.{groups_are_of_rows, small_merge}
use Rattle.saber_laws.proofs.CutLaws.{no_rows_no_part}
use Rattle.saber_group.proofs.GroupPlans.{has_window}
use Rattle.saber_group.proofs.group.Group.slice_from.Goals as goal

is_row : (rows : List Row) (k : ℕ) (x : Row) → Some x ≡ slice_get rows k → x ≡ get_or rows k x
is_row rows k x there = sym (get_or_from_slice_get rows k x x (sym there))

pub row_windows-first-requires-clause-left : goal.row_windows-first-requires-clause-left
row_windows-first-requires-clause-left c = let b = c.args.batch.now in left_small (tree_of c.args.self.now) b.before c.args.mark.now b.rows.now c.args.from c.requires.fits c.requires.mark

pub row_windows-first-requires-clause-right : goal.row_windows-first-requires-clause-right
row_windows-first-requires-clause-right c = let b = c.args.batch.now in right_small (tree_of c.args.self.now) b.before c.args.mark.now b.rows.now c.args.from c.requires.fits c.requires.mark

pub loop-i-init : goal.loop-i-init
loop-i-init c =
    let q = tree_of c.args.self.now in
    let b = c.args.batch.now in
    record {
      low = omega arith;
      slice = slice_nil q b.before b.rows.now c.args.from c.row_windows-first.result.0 c.row_windows-first.result.1 c.args.part.now (no_rows_no_part q).of_groups c.requires.none;
    }

pub add_row-requires-clause-row : goal.add_row-requires-clause-row
add_row-requires-clause-row c =
    let b = c.args.batch.now in
    let within = c.slice_end-end.ensures.within in
    row_at (tree_of c.args.self.now) b.before b.rows.now c.loop-i.i c.row.result (omega (arith, within, c.loop-i-test.true)) (is_row b.rows.now c.loop-i.i c.row.result c.row.ensures) c.requires.fits

pub add_row-requires-clause-room : goal.add_row-requires-clause-room
add_row-requires-clause-room c =
    let q = tree_of c.args.self.now in
    let b = c.args.batch.now in
    let x = c.row.result in
    let within = c.slice_end-end.ensures.within in
    let few = few_rows q (has_window c.args.self.now c.self.view_is c.self.invariant.0 c.self.invariant.1).window.stream (has_window c.args.self.now c.self.view_is c.self.invariant.0 c.self.invariant.1).window.streams b.before b.rows.now c.requires.fits in
    small_merge q (c.loop-i.i - c.args.from) 1 c.loop-i.part (group_part q (x.values ∷ [])) c.loop-i.invariant.slice.few (groups_are_of_rows q (x.values ∷ [])) (omega (arith, within, few, c.loop-i-test.true))

pub loop-i-preserved : goal.loop-i-preserved
loop-i-preserved c =
    let q = tree_of c.args.self.now in
    let b = c.args.batch.now in
    let w = c.row_windows-first.result in
    let i = c.loop-i.i in
    let x = c.row.result in
    let low = c.loop-i.invariant.low in
    let below = c.loop-i-test.true in
    let within = c.slice_end-end.ensures.within in
    let lie = lies q b.before c.args.mark.now b.rows.now c.args.from c.slice_end-end.result i w.0 w.1 c.row-row.result x c.slice_end-end.ensures.together c.requires.mark c.row-row.ensures
    (record { begins = c.row_windows-first.ensures.first; ends = c.row_windows-first.ensures.past }) low below c.row.ensures in
    record {
      low = omega (arith, low);
      slice = subst (SliceTo q b.before b.rows.now c.args.from (i + 1) w.0 w.1) (sym c.in_ok-add_row.ensures)
          (slice_more q (has_window c.args.self.now c.self.view_is c.self.invariant.0 c.self.invariant.1).fits b.before b.rows.now c.args.from i w.0 w.1 c.loop-i.part x (mark_after b.before (take i b.rows.now))
          low (omega (arith, below, within)) (few_rows q (has_window c.args.self.now c.self.view_is c.self.invariant.0 c.self.invariant.1).window.stream (has_window c.args.self.now c.self.view_is c.self.invariant.0 c.self.invariant.1).window.streams b.before b.rows.now c.requires.fits) (is_row b.rows.now i x c.row.ensures) refl lie.begins lie.ends c.loop-i.invariant.slice);
    }

pub returns-clause-slice : goal.returns-clause-slice
returns-clause-slice c =
    let q = tree_of c.args.self.now in
    let b = c.args.batch.now in
    let w = c.row_windows-first.result in
    let end = c.slice_end-end.result in
    let all : c.loop-i.i ≡ end = omega arith in
    subst (IsSlice q b.before b.rows.now c.args.from end w.0 w.1) (sym c.in_ok-take_part.ensures.part)
    (slice_is q b.before b.rows.now c.args.from end w.0 w.1 c.loop-i.part
    (starts_at q (has_window c.args.self.now c.self.view_is c.self.invariant.0 c.self.invariant.1).window (has_window c.args.self.now c.self.view_is c.self.invariant.0 c.self.invariant.1).fits b.before b.rows.now c.args.from c.row-row.result c.args.mark.now w.0 w.1
    c.requires.fits c.requires.there (is_row b.rows.now c.args.from c.row-row.result c.row-row.ensures) c.requires.mark c.row_windows-first.ensures.first c.row_windows-first.ensures.past)
    c.slice_end-end.ensures.more c.slice_end-end.ensures.within (subst (λ n. SliceTo q b.before b.rows.now c.args.from n w.0 w.1 c.loop-i.part) all c.loop-i.invariant.slice))

pub returns-then-end-from-clause-slice : goal.returns-then-end-from-clause-slice
returns-then-end-from-clause-slice c =
    let q = tree_of c.args.self.now in
    let b = c.args.batch.now in
    let k = c.args.from in
    let w = c.row_windows-first.result in
    let x = c.row-row.result in
    let end = c.slice_end-end.result in
    let win = (has_window c.args.self.now c.self.view_is c.self.invariant.0 c.self.invariant.1).window in
    let is = is_row b.rows.now k x c.row-row.ensures in
    let none = slice_nil q b.before b.rows.now k w.0 w.1 no_part (no_rows_no_part q).of_groups refl in
    let one = slice_more q (has_window c.args.self.now c.self.view_is c.self.invariant.0 c.self.invariant.1).fits b.before b.rows.now k k w.0 w.1 no_part x c.args.mark.now
    (omega arith) c.requires.there (few_rows q win.stream win.streams b.before b.rows.now c.requires.fits) is c.requires.mark c.row_windows-first.ensures.first c.row_windows-first.ensures.past none in
    slice_is q b.before b.rows.now k end w.0 w.1 c.in_ok-part_of_row.field-0
    (starts_at q win (has_window c.args.self.now c.self.view_is c.self.invariant.0 c.self.invariant.1).fits b.before b.rows.now k x c.args.mark.now w.0 w.1
    c.requires.fits c.requires.there is c.requires.mark c.row_windows-first.ensures.first c.row_windows-first.ensures.past)
    c.slice_end-end.ensures.more c.slice_end-end.ensures.within
    (subst₂ (λ n p. SliceTo q b.before b.rows.now k n w.0 w.1 p) (sym c.if-end-from.true) (sym c.in_ok-part_of_row.ensures) one)
