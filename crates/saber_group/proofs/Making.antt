-- The piece of a task's own block is that of the arrivals that its rows are.
use Rattle.std.proofs.Common.{◌≡◌, ℕ, ◌++◌, take, slice_range, Option, Some, None, Result, Ok, Err, IfOk, sym, ◌∙◌, ap, subst}
use Rattle.saber_plan.specs.Inputs.{Input}
use Rattle.saber_plan.specs.Trees.{Tree}
use Rattle.saber_plan.specs.Windows.{no_rows, mark_of, mark_after, end_mark}
use Rattle.saber_plan.specs.GivenRows.{RowsFit}
use Rattle.saber_plan.specs.Answers.{alike, way}
use Rattle.saber_plan.specs.Facts.Rows.{fits_take}
use Rattle.saber_fragment.specs.Drafts.{Sight, IsSightOf}
use Rattle.saber_group.specs.declared.slice_pieces.SlicePiece.{SlicePiece}
use Rattle.saber_group.specs.declared.complete.Complete.{Complete}
use Rattle.saber_group.specs.SlicePieces.{Given, Gives, SlicesFrom, IsMade, IsOf}
use Rattle.saber_group.proofs.SliceKeeping.{rows_upto}
use Rattle.saber_laws.proofs.EndLaws.{marks_follow}

pub piece_is_of : (q : Tree) (s : Sight) (r : Input) (x y : ℕ) (p : SlicePiece) → IsMade q s p → IsSightOf q s r x y → IsOf q r x y p
piece_is_of q s r x y p made sight =
    let old = take x r.rows in
    let fits : RowsFit q no_rows (old ++ s.rows) = subst (λ l. RowsFit q no_rows (old ++ l)) (sym sight.rows_are) (subst (RowsFit q no_rows) (sym (rows_upto r.rows x y sight.rises)) (fits_take q no_rows r.rows y sight.fits)) in
    let before : s.before ≡ mark_of old = sight.before_is ∙ ap (λ b. end_mark b (mark_of old)) sight.opens in
    record {
      opens = sight.opens;
      given = subst (λ b. Given q old (slice_range r.rows x y) b p.slices p.complete) sight.ended_is
          (subst (λ l. Given q old l s.ended p.slices p.complete) sight.rows_are (made.gives old fits sight.earlier_are before));
      may = made.may;
      after_is = made.after_is ∙ (λ j. end_mark (sight.ended_is j) (mark_after (sight.before_is j) (sight.rows_are j))) ∙ sym (marks_follow r x y sight.rises);
    }

-- ---- what a task makes

-- all its slices, where it answers no window
pub slices_are_made : {E : Type 0} (q : Tree) (s : Sight) (r : Result SlicePiece E) → IfOk r (λ p. SlicesFrom q s.before s.rows 0 p.slices) → IfOk r (λ p. p.complete ≡ None) → IfOk r (λ p. p.after ≡ end_mark s.ended (mark_after s.before s.rows))
    → IfOk r (λ p. IsMade q s p)
slices_are_made q s (Ok p) slices none after = record {
  gives = λ old fits end same. subst (λ (o : Option Complete). Given q old s.rows s.ended p.slices o) (sym none) (subst (λ m. SlicesFrom q m s.rows 0 p.slices) same slices);
  after_is = after;
  may = λ c e. absurd (none_some c (sym none ∙ e));
} where
  none_some : (c : Complete) → None ≡ Some c → ⊥
  none_some c e = cc
slices_are_made q s (Err e) slices none after = tt

-- and what it answers, where it may
pub pieces_are_made : {E : Type 0} (q : Tree) (s : Sight) (r : Result SlicePiece E) → way q ≡ alike → IfOk r (λ p. Gives q s.earlier s.before s.rows s.ended p.slices p.complete) → IfOk r (λ p. p.after ≡ end_mark s.ended (mark_after s.before s.rows))
    → IfOk r (λ p. IsMade q s p)
pieces_are_made q s (Ok p) lines gives after = record { gives = gives; after_is = after; may = λ c e. lines }
pieces_are_made q s (Err e) lines gives after = tt
