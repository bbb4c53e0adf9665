use Rattle.std.proofs.Common.{◌≡◌, ◌<◌, ◌+◌, ◌∙◌, ◌++◌, [], ◌∷◌, length, get_or, take, sym, ap, refl, append-nil, arith}
use Rattle.std.proofs.lemmas.Option.{get_or_from_slice_get}
use Rattle.std.proofs.lemmas.List.{take_more}
use Rattle.saber_plan.specs.Trees.{tree_of}
use Rattle.saber_plan.specs.Windows.{step_mark}
use Rattle.saber_plan.specs.Answers.{frame}
use Rattle.saber_plan.specs.Facts.Rows.{left_small, right_small, mark_more, row_at}
use Rattle.saber_join.proofs.Holding.{no_lefts, no_rights, lefts_push, rights_push}
use Rattle.saber_join.proofs.join.Join.note_rows.Goals as goal

pub loop-i-init : goal.loop-i-init
loop-i-init c =
    let f = frame (tree_of c.args.self.now) in
    let t = c.args.tie.now in
    let n = c.args.closed in
    record {
      lately = c.requires.lately;
      mark = refl;
      lefts = sym (append-nil c.args.contents.now.lefts) ∙ ap (λ l. c.args.contents.now.lefts ++ l) (sym (no_lefts f t n c.args.before.now));
      rights = sym (append-nil c.args.contents.now.rights) ∙ ap (λ l. c.args.contents.now.rights ++ l) (sym (no_rights f t n c.args.before.now));
      windows = refl;
    }

pub note_row-requires-clause-left : goal.note_row-requires-clause-left
note_row-requires-clause-left c = left_small (tree_of c.args.self.now) c.args.before.now c.loop-i.mark c.args.rows.now c.loop-i.i c.requires.fits c.loop-i.invariant.mark

pub note_row-requires-clause-right : goal.note_row-requires-clause-right
note_row-requires-clause-right c = right_small (tree_of c.args.self.now) c.args.before.now c.loop-i.mark c.args.rows.now c.loop-i.i c.requires.fits c.loop-i.invariant.mark

pub note_row-requires-clause-row : goal.note_row-requires-clause-row
note_row-requires-clause-row c =
    let k = c.loop-i.i in
    let r = c.row-row.result in
    let rows = c.args.rows.now in
    let below : k < length rows = omega (arith, c.loop-i-test.true) in
    row_at (tree_of c.args.self.now) c.args.before.now rows k r below (sym (get_or_from_slice_get rows k r r (sym c.row-row.ensures))) c.requires.fits

pub step-mark-requires-clause-left : goal.step-mark-requires-clause-left
step-mark-requires-clause-left c = left_small (tree_of c.args.self.now) c.args.before.now c.loop-i.mark c.args.rows.now c.loop-i.i c.requires.fits c.loop-i.invariant.mark

pub step-mark-requires-clause-right : goal.step-mark-requires-clause-right
step-mark-requires-clause-right c = right_small (tree_of c.args.self.now) c.args.before.now c.loop-i.mark c.args.rows.now c.loop-i.i c.requires.fits c.loop-i.invariant.mark

pub step-mark-requires-clause-row : goal.step-mark-requires-clause-row
step-mark-requires-clause-row c =
    let k = c.loop-i.i in
    let r = c.row-row.result in
    let rows = c.args.rows.now in
    let below : k < length rows = omega (arith, c.loop-i-test.true) in
    row_at (tree_of c.args.self.now) c.args.before.now rows k r below (sym (get_or_from_slice_get rows k r r (sym c.row-row.ensures))) c.requires.fits

pub loop-i-preserved : goal.loop-i-preserved
loop-i-preserved c =
    let f = frame (tree_of c.args.self.now) in
    let t = c.args.tie.now in
    let n = c.args.closed in
    let b = c.args.before.now in
    let k = c.loop-i.i in
    let r = c.row-row.result in
    let rows = c.args.rows.now in
    let below : k < length rows = omega (arith, c.loop-i-test.true) in
    let at : get_or rows k r ≡ r = get_or_from_slice_get rows k r r (sym c.row-row.ensures) in
    let more : take (k + 1) rows ≡ take k rows ++ r ∷ [] = take_more rows k r below ∙ ap (λ z. take k rows ++ z ∷ []) at in
    let h = c.loop-i.invariant in
    record {
      lately = c.note_row.ensures.lately;
      mark = c.step-mark.ensures ∙ ap (λ m. step_mark m r) h.mark ∙ sym (mark_more b rows k r below (sym at));
      lefts = lefts_push f t n b (take k rows) (take (k + 1) rows) r c.loop-i.mark h.mark more c.args.contents.now.lefts c.loop-i.contents.lefts c.note_row.new.contents.lefts h.lefts c.in_ok-note_row.ensures.lefts;
      rights = rights_push f t n b (take k rows) (take (k + 1) rows) r c.loop-i.mark h.mark more c.args.contents.now.rights c.loop-i.contents.rights c.note_row.new.contents.rights h.rights c.in_ok-note_row.ensures.rights;
      windows = c.in_ok-note_row.ensures.windows ∙ h.windows;
    }
