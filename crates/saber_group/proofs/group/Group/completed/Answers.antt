use Rattle.std.proofs.Common.{◌≡◌, ◌≤◌, Some, length, max, take, ◌++◌, refl, ◌∙◌, ap, subst, arith}
use Rattle.std.specs.List.{AllByRecursion, slice_get}
use Rattle.saber_plan.specs.Trees.{tree_of}
use Rattle.saber_plan.specs.Windows.{closed_count}
use Rattle.saber_plan.specs.Answers.{frame}
use Rattle.saber_plan.specs.Facts.Rows.{fits_front}
use Rattle.saber_group.specs.declared.slices.Slice.{Slice}
use Rattle.saber_group.proofs.Completed.{goes_behind, is_complete}
use Rattle.saber_group.proofs.GroupPlans.{has_window}
use Rattle.saber_group.proofs.group.Group.completed.Goals as goal

pub open_behind-requires-clause-fits : goal.open_behind-requires-clause-fits
open_behind-requires-clause-fits g c =
    let e = c.args.earlier.now in
    fits_front (tree_of c.args.self.now) e.before e.rows c.args.batch.now.rows.now c.requires.fits

pub open_behind-requires-clause-low : goal.open_behind-requires-clause-low
open_behind-requires-clause-low g c =
    let least = c.max-low.ensures in
    let closed = c.closed_below-closed.ensures in
    subst (λ n. n ≤ c.max-low.result) (closed ∙ ap (closed_count (frame (tree_of c.args.self.now))) c.requires.meets) (omega (arith, least))

pub take_slices-requires-clause-goes_on : goal.take_slices-requires-clause-goes_on
take_slices-requires-clause-goes_on g c =
    let q = tree_of c.args.self.now in
    let e = c.args.earlier.now in
    let b = c.args.batch.now in
    let low = c.max-low.result in
    let order : low ≤ c.args.high = let more = c.if-high-low.false in omega (arith, more) in
    let store = c.in-Ok-open_behind.open in (
      e.before,
      e.rows ++ b.rows.now,
      length e.rows,
      0,
      length b.rows.now,
      goes_behind q e b.before b.rows.now b.ended c.requires.meets (has_window c.args.self.now c.self.view_is c.self.invariant.0 c.self.invariant.1).fits c.requires.fits
          low c.args.high store.next store.slices.entries c.args.slices order c.requires.high c.in-Ok-open_behind.ensures.next c.in-Ok-open_behind.ensures.slices c.requires.slices,
    )

pub returns-in-Ok-take_slices-clause-gives : goal.returns-in-Ok-take_slices-clause-gives
returns-in-Ok-take_slices-clause-gives g c old given end same =
    let q = tree_of c.args.self.now in
    let e = c.args.earlier.now in
    let b = c.args.batch.now in
    let slices = c.args.slices in
    let low = c.max-low.result in
    let k = c.closing_end-count.result in
    let order : low ≤ c.args.high = let more = c.if-high-low.false in omega (arith, more) in
    let store = c.in-Ok-open_behind.open in
    let least = c.max-low.ensures ∙ (λ j. max (c.begun_below.ensures j) (c.closed_below-closed.ensures j)) in
    let goes = goes_behind q e b.before b.rows.now b.ended c.requires.meets (has_window c.args.self.now c.self.view_is c.self.invariant.0 c.self.invariant.1).fits c.requires.fits
    low c.args.high store.next store.slices.entries slices order c.requires.high c.in-Ok-open_behind.ensures.next c.in-Ok-open_behind.ensures.slices c.requires.slices in
    is_complete q e b.before b.rows.now b.ended c.requires.meets old given end (has_window c.args.self.now c.self.view_is c.self.invariant.0 c.self.invariant.1).group (has_window c.args.self.now c.self.view_is c.self.invariant.0 c.self.invariant.1).fits same
    low c.args.high (record { low = low; text = c.take_slices.new.out; «open» = c.take_slices.new.store }) slices k c.in-Ok.closing store.next c.new-text.result.items c.new-text.ensures.items order c.requires.high least refl c.in-Ok-open_behind.ensures.next c.requires.slices
    c.in-Ok.ensures
    c.closing_end-count.ensures.firsts
    c.closing_end-count.ensures.behind
    c.take_slices.new.output (c.in-Ok-take_slices.ensures.went_on e.before (e.rows ++ b.rows.now) (length e.rows) 0 (length b.rows.now) goes tt)

pub returns-in-Ok-take_slices-clause-steps : goal.returns-in-Ok-take_slices-clause-steps
returns-in-Ok-take_slices-clause-steps g c =
    let before = c.in-Ok-open_behind.ensures.steps in
    let owed = c.in-Ok-open_behind.ensures.owed in
    let next = c.in-Ok-open_behind.ensures.next in
    let used = c.in-Ok-take_slices.ensures.steps in
    omega (arith, before, owed, next, used)
