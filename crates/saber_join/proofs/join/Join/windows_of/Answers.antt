use Rattle.std.proofs.Common.{◌≡◌, ◌<◌, ◌≤◌, ◌+◌, ◌∙◌, ◌++◌, [], ◌∷◌, length, get_or, take, sym, ap, subst, subst₂, refl, arith, append-nil, append_assoc, length-append}
use Rattle.std.proofs.lemmas.Option.{get_or_from_slice_get}
use Rattle.std.proofs.lemmas.List.{take_more, take_all}
use Rattle.saber_plan.specs.declared.rows.Side.TheVariants as sides
use Rattle.saber_plan.specs.declared.windows.Mark.{Mark}
use Rattle.saber_plan.specs.declared.plans.Plan.{Plan}
use Rattle.saber_plan.specs.declared.plans.Shape.TheVariants.{Join}
use Rattle.saber_plan.specs.Trees.{tree_of}
use Rattle.saber_plan.specs.Windows.{step_mark, mark_after, placed_after, closed_count}
use Rattle.saber_plan.specs.Answers.{frame}
use Rattle.saber_plan.specs.Checked.{IsChecked}
use Rattle.saber_plan.specs.GivenRows.{RowsFit}
use Rattle.saber_plan.specs.Facts.Rows.{left_small, right_small, mark_more, mark-append, row_at, fits_front, fits_back}
use Rattle.saber_join.specs.Rows.{AllOn}
use Rattle.saber_join.specs.Keeping.{lefts_of, rights_of}
use Rattle.saber_join.specs.Open.{seen_parts, Takes, HoldsTask}
use Rattle.saber_laws.proofs.CheckedLaws.{checked_fit}
use Rattle.saber_join.proofs.Holding.{behind, lefts_push, rights_push, lefts_on, rights_on, fits_so_far}
use Rattle.saber_join.proofs.Task.{HasParts, none_yet, row_taken, task_held}
use Rattle.saber_join.proofs.join.Join.windows_of.Goals as goal

pub note_rows-requires-clause-fits : goal.note_rows-requires-clause-fits
note_rows-requires-clause-fits c = fits_front (tree_of c.args.self.now) c.args.before.now c.args.back.now c.args.rows.now c.requires.fits

pub loop-i-init : goal.loop-i-init
loop-i-init c =
    let q = tree_of c.args.self.now in
    let f = frame q in
    let t = c.tie-tie.result in
    let n = c.closed_below-closed.result in
    let b = c.args.before.now in
    let back = c.args.back.now in
    let noted = c.in-Ok.ensures in
    record {
      lately = c.note_rows.ensures.lately;
      mark = refl;
      lefts = noted.lefts ∙ ap (λ l. l ++ lefts_of f t n (placed_after b back)) c.in_ok-contents.ensures.lefts ∙ ap (λ l. lefts_of f t n (placed_after b l)) (sym (append-nil back));
      rights = noted.rights ∙ ap (λ l. l ++ rights_of f t n (placed_after b back)) c.in_ok-contents.ensures.rights ∙ ap (λ l. rights_of f t n (placed_after b l)) (sym (append-nil back));
      parts = subst (λ l. HasParts q n (b.left + b.right + length back) b l (seen_parts c.note_rows.new.contents.windows.entries)) (sym (append-nil back))
          (none_yet q n b back c.note_rows.new.contents.windows.entries (noted.windows ∙ c.in_ok-contents.ensures.windows));
    }

pub take_row-requires-clause-left : goal.take_row-requires-clause-left
take_row-requires-clause-left c =
    let q = tree_of c.args.self.now in
    let fits = subst (λ m. RowsFit q m c.args.rows.now) (sym c.requires.after) (fits_back q c.args.before.now c.args.back.now c.args.rows.now c.requires.fits) in
    left_small q c.args.after.now c.loop-i.mark c.args.rows.now c.loop-i.i fits c.loop-i.invariant.mark

pub take_row-requires-clause-right : goal.take_row-requires-clause-right
take_row-requires-clause-right c =
    let q = tree_of c.args.self.now in
    let fits = subst (λ m. RowsFit q m c.args.rows.now) (sym c.requires.after) (fits_back q c.args.before.now c.args.back.now c.args.rows.now c.requires.fits) in
    right_small q c.args.after.now c.loop-i.mark c.args.rows.now c.loop-i.i fits c.loop-i.invariant.mark

pub take_row-requires-clause-row : goal.take_row-requires-clause-row
take_row-requires-clause-row c =
    let q = tree_of c.args.self.now in
    let k = c.loop-i.i in
    let r = c.row-row.result in
    let rows = c.args.rows.now in
    let below : k < length rows = omega (arith, c.loop-i-test.true) in
    let fits = fits_back q c.args.before.now c.args.back.now rows c.requires.fits in
    row_at q (mark_after c.args.before.now c.args.back.now) rows k r below (sym (get_or_from_slice_get rows k r r (sym c.row-row.ensures))) fits

pub take_row-requires-clause-lefts : goal.take_row-requires-clause-lefts
take_row-requires-clause-lefts c =
    let q = tree_of c.args.self.now in
    let rows = c.args.rows.now in
    let k = c.loop-i.i in
    subst (AllOn q sides.Left) (sym c.loop-i.invariant.lefts) (lefts_on q (frame q) c.tie-tie.result c.closed_below-closed.result c.args.before.now (c.args.back.now ++ take k rows) (fits_so_far q c.args.before.now c.args.back.now rows k c.requires.fits))

pub take_row-requires-clause-rights : goal.take_row-requires-clause-rights
take_row-requires-clause-rights c =
    let q = tree_of c.args.self.now in
    let rows = c.args.rows.now in
    let k = c.loop-i.i in
    subst (AllOn q sides.Right) (sym c.loop-i.invariant.rights) (rights_on q (frame q) c.tie-tie.result c.closed_below-closed.result c.args.before.now (c.args.back.now ++ take k rows) (fits_so_far q c.args.before.now c.args.back.now rows k c.requires.fits))

pub step-mark-requires-clause-left : goal.step-mark-requires-clause-left
step-mark-requires-clause-left c =
    let q = tree_of c.args.self.now in
    let fits = subst (λ m. RowsFit q m c.args.rows.now) (sym c.requires.after) (fits_back q c.args.before.now c.args.back.now c.args.rows.now c.requires.fits) in
    left_small q c.args.after.now c.loop-i.mark c.args.rows.now c.loop-i.i fits c.loop-i.invariant.mark

pub step-mark-requires-clause-right : goal.step-mark-requires-clause-right
step-mark-requires-clause-right c =
    let q = tree_of c.args.self.now in
    let fits = subst (λ m. RowsFit q m c.args.rows.now) (sym c.requires.after) (fits_back q c.args.before.now c.args.back.now c.args.rows.now c.requires.fits) in
    right_small q c.args.after.now c.loop-i.mark c.args.rows.now c.loop-i.i fits c.loop-i.invariant.mark

pub step-mark-requires-clause-row : goal.step-mark-requires-clause-row
step-mark-requires-clause-row c =
    let q = tree_of c.args.self.now in
    let k = c.loop-i.i in
    let r = c.row-row.result in
    let rows = c.args.rows.now in
    let below : k < length rows = omega (arith, c.loop-i-test.true) in
    let fits = fits_back q c.args.before.now c.args.back.now rows c.requires.fits in
    row_at q (mark_after c.args.before.now c.args.back.now) rows k r below (sym (get_or_from_slice_get rows k r r (sym c.row-row.ensures))) fits

pub loop-i-preserved : goal.loop-i-preserved
loop-i-preserved c =
    let q = tree_of c.args.self.now in
    let f = frame q in
    let t = c.tie-tie.result in
    let n = c.closed_below-closed.result in
    let b = c.args.before.now in
    let back = c.args.back.now in
    let k = c.loop-i.i in
    let r = c.row-row.result in
    let rows = c.args.rows.now in
    let mark = c.loop-i.mark in
    let h = c.loop-i.invariant in
    let took = c.in-Ok-take_row.ensures in
    let m = seen_parts c.loop-i.contents.windows.entries in
    let w = seen_parts c.take_row.new.contents.windows.entries in
    let below : k < length rows = omega (arith, c.loop-i-test.true) in
    let at : get_or rows k r ≡ r = get_or_from_slice_get rows k r r (sym c.row-row.ensures) in
    let xs = back ++ take k rows in
    let more : back ++ take (k + 1) rows ≡ xs ++ r ∷ [] = ap (λ l. back ++ l) (take_more rows k r below ∙ ap (λ z. take k rows ++ z ∷ []) at) ∙ sym (append_assoc back (take k rows) (r ∷ [])) in
    let is : mark ≡ mark_after b xs = h.mark ∙ ap (λ a. mark_after a (take k rows)) c.requires.after ∙ sym (mark-append b back (take k rows)) in
    let late : b.left + b.right + length back ≤ behind b + length xs = let long = length-append back (take k rows) in omega (arith, long) in
    let takes = subst (λ (a : Mark). Takes q t n (record { row = r; before = a }) (lefts_of f t n (placed_after b xs)) (rights_of f t n (placed_after b xs)) m w) is
    (subst₂ (λ ls rs. Takes q t n (record { row = r; before = mark }) ls rs m w) h.lefts h.rights took.windows) in
    record {
      lately = c.take_row.ensures.lately;
      mark = c.step-mark.ensures ∙ ap (λ m. step_mark m r) h.mark ∙ sym (mark_more c.args.after.now rows k r below (sym at));
      lefts = lefts_push f t n b xs (back ++ take (k + 1) rows) r mark is more [] c.loop-i.contents.lefts c.take_row.new.contents.lefts h.lefts took.lefts;
      rights = rights_push f t n b xs (back ++ take (k + 1) rows) r mark is more [] c.loop-i.contents.rights c.take_row.new.contents.rights h.rights took.rights;
      parts = subst (λ l. HasParts q n (b.left + b.right + length back) b l w) (sym more)
          (row_taken q (checked_fit q (subst (λ (p : Plan). IsChecked (tree_of p)) c.self.view_is c.self.invariant.0)) t c.tie-tie.ensures n (b.left + b.right + length back) b xs r late m w takes h.parts);
    }

pub returns-clause-windows : goal.returns-clause-windows
returns-clause-windows c =
    let q = tree_of c.args.self.now in
    let n = c.closed_below-closed.result in
    let b = c.args.before.now in
    let back = c.args.back.now in
    let rows = c.args.rows.now in
    let k = c.loop-i.i in
    let m = seen_parts c.loop-i.contents.windows.entries in
    let all : take k rows ≡ rows = take_all k rows (omega (arith, c.loop-i-test.false)) in
    subst (λ es. HoldsTask q (closed_count (frame q) c.args.after.now) b back rows (seen_parts es)) (sym c.into_windows.ensures)
    (subst (λ n. HoldsTask q n b back rows m) c.closed_below-closed.ensures
    (task_held q n b back rows m (subst (λ (p : Plan). (tree_of p).shape ≡ Join) c.self.view_is c.self.invariant.1) (subst (λ l. HasParts q n (b.left + b.right + length back) b (back ++ l) m) all c.loop-i.invariant.parts)))
