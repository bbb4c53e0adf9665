use Rattle.std.proofs.Common.{◌≡◌, ℕ, ◌+◌, ◌-◌, List, Some, get_or, ◌∷◌, [], take, refl, sym, ◌∙◌, subst, arith}
use Rattle.std.proofs.lemmas.Option.{get_or_from_slice_get}
use Rattle.std.specs.List.{slice_get}
use Rattle.saber_plan.specs.declared.rows.Row.{Row}
use Rattle.saber_plan.specs.Trees.{tree_of}
use Rattle.saber_plan.specs.Windows.{mark_after}
use Rattle.saber_plan.specs.Parts.{group_part, no_part}
use Rattle.saber_plan.specs.Facts.Rows.{left_small, right_small, few_rows, row_at}
use Rattle.saber_group.specs.SliceParts.{IsSlice}
use Rattle.saber_group.proofs.RowsTogether.{lies}
use Rattle.saber_group.proofs.Running.{SliceTo, starts_at, slice_nil, slice_more, slice_is}
use Rattle.saber_partial.proofs.Counted.{groups_are_of_rows, small_merge}
use Rattle.saber_laws.proofs.CutLaws.{no_rows_no_part}
use Rattle.saber_partial.specs.Ones.{AreOf}
use Rattle.saber_group.specs.SliceLists.{Grew}
use Rattle.saber_group.proofs.SlicesGiven.{at_is, at_stands, at_grew, at_all}
use Rattle.saber_group.proofs.GroupPlans.{has_window}
use Rattle.saber_group.proofs.group.Group.span_from.Goals as goal

is_row : (rows : List Row) (k : ℕ) (x : Row) → Some x ≡ slice_get rows k → x ≡ get_or rows k x
is_row rows k x there = sym (get_or_from_slice_get rows k x x (sym there))

pub row_windows-first-requires-clause-left : goal.row_windows-first-requires-clause-left
row_windows-first-requires-clause-left c = let b = c.args.batch.now in left_small (tree_of c.args.self.now) b.before c.args.mark.now b.rows.now c.args.from c.requires.fits c.requires.mark

pub row_windows-first-requires-clause-right : goal.row_windows-first-requires-clause-right
row_windows-first-requires-clause-right c = let b = c.args.batch.now in right_small (tree_of c.args.self.now) b.before c.args.mark.now b.rows.now c.args.from c.requires.fits c.requires.mark

pub loop-i-init : goal.loop-i-init
loop-i-init c =
    let q = tree_of c.args.self.now in
    let b = c.args.batch.now in
    record {
      low = omega arith;
      done = refl;
      slice = slice_nil q b.before b.rows.now c.args.from c.row_windows-first.result.0 c.row_windows-first.result.1 c.args.part.now.last (no_rows_no_part q).of_groups c.requires.none;
    }

pub add_one-requires-clause-row : goal.add_one-requires-clause-row
add_one-requires-clause-row c =
    let b = c.args.batch.now in
    let within = c.slice_end-end.ensures.within in
    row_at (tree_of c.args.self.now) b.before b.rows.now c.loop-i.i c.row.result (omega (arith, within, c.loop-i-test.true)) (is_row b.rows.now c.loop-i.i c.row.result c.row.ensures) c.requires.fits

pub add_one-requires-clause-room : goal.add_one-requires-clause-room
add_one-requires-clause-room c =
    let q = tree_of c.args.self.now in
    let b = c.args.batch.now in
    let x = c.row.result in
    let within = c.slice_end-end.ensures.within in
    let few = few_rows q (has_window c.args.self.now c.self.view_is c.self.invariant.0 c.self.invariant.1).window.stream (has_window c.args.self.now c.self.view_is c.self.invariant.0 c.self.invariant.1).window.streams b.before b.rows.now c.requires.fits in
    small_merge q (c.loop-i.i - c.args.from) 1 c.loop-i.part.last (group_part q (x.values ∷ [])) c.loop-i.invariant.slice.few (groups_are_of_rows q (x.values ∷ [])) (omega (arith, within, few, c.loop-i-test.true))

pub add_one-requires-clause-others : goal.add_one-requires-clause-others
add_one-requires-clause-others c = subst (AreOf (tree_of c.args.self.now)) (sym c.loop-i.invariant.done) c.requires.others

pub loop-i-preserved : goal.loop-i-preserved
loop-i-preserved c =
    let q = tree_of c.args.self.now in
    let b = c.args.batch.now in
    let w = c.row_windows-first.result in
    let i = c.loop-i.i in
    let x = c.row.result in
    let low = c.loop-i.invariant.low in
    let below = c.loop-i-test.true in
    let within = c.slice_end-end.ensures.within in
    let lie = lies q b.before c.args.mark.now b.rows.now c.args.from c.slice_end-end.result i w.0 w.1 c.row-row.result x c.slice_end-end.ensures.together c.requires.mark c.row-row.ensures
    (record { begins = c.row_windows-first.ensures.first; ends = c.row_windows-first.ensures.past }) low below c.row.ensures in
    record {
      low = omega (arith, low);
      done = c.add_one.ensures.done ∙ c.loop-i.invariant.done;
      slice = subst (SliceTo q b.before b.rows.now c.args.from (i + 1) w.0 w.1) (sym c.in_ok-add_one.ensures.last)
          (slice_more q (has_window c.args.self.now c.self.view_is c.self.invariant.0 c.self.invariant.1).fits b.before b.rows.now c.args.from i w.0 w.1 c.loop-i.part.last x (mark_after b.before (take i b.rows.now))
          low (omega (arith, below, within)) (few_rows q (has_window c.args.self.now c.self.view_is c.self.invariant.0 c.self.invariant.1).window.stream (has_window c.args.self.now c.self.view_is c.self.invariant.0 c.self.invariant.1).window.streams b.before b.rows.now c.requires.fits) (is_row b.rows.now i x c.row.ensures) refl lie.begins lie.ends c.loop-i.invariant.slice);
    }

pub returns-clause-slice : goal.returns-clause-slice
returns-clause-slice c =
    let q = tree_of c.args.self.now in
    let b = c.args.batch.now in
    let w = c.row_windows-first.result in
    let end = c.slice_end-end.result in
    let all : c.loop-i.i ≡ end = omega arith in
    subst (IsSlice q b.before b.rows.now c.args.from end w.0 w.1) (sym (at_is c.loop-i.part c.end-place.result c.end-place.new.self.done c.end-place.ensures.part))
    (slice_is q b.before b.rows.now c.args.from end w.0 w.1 c.loop-i.part.last
    (starts_at q (has_window c.args.self.now c.self.view_is c.self.invariant.0 c.self.invariant.1).window (has_window c.args.self.now c.self.view_is c.self.invariant.0 c.self.invariant.1).fits b.before b.rows.now c.args.from c.row-row.result c.args.mark.now w.0 w.1
    c.requires.fits c.requires.there (is_row b.rows.now c.args.from c.row-row.result c.row-row.ensures) c.requires.mark c.row_windows-first.ensures.first c.row_windows-first.ensures.past)
    c.slice_end-end.ensures.more c.slice_end-end.ensures.within (subst (λ n. SliceTo q b.before b.rows.now c.args.from n w.0 w.1 c.loop-i.part.last) all c.loop-i.invariant.slice))

pub returns-clause-stands : goal.returns-clause-stands
returns-clause-stands c = at_stands c.loop-i.part c.end-place.result c.end-place.new.self.done c.end-place.ensures.part

pub returns-clause-grew : goal.returns-clause-grew
returns-clause-grew c = subst (λ ps. Grew ps c.end-place.new.self.done) c.loop-i.invariant.done (at_grew c.loop-i.part c.end-place.result c.end-place.new.self.done c.end-place.ensures.part)

pub returns-clause-all : goal.returns-clause-all
returns-clause-all c =
    let q = tree_of c.args.self.now in
    at_all q (c.loop-i.i - c.args.from) c.loop-i.part c.end-place.result c.end-place.new.self.done
    (subst (AreOf q) (sym c.loop-i.invariant.done) c.requires.others) c.loop-i.invariant.slice.few c.end-place.ensures.part
