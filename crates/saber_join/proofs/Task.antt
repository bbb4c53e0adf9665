-- What a task holds after all its rows: the pairs of each window's part.
use Rattle.std.proofs.Common.{◌≡◌, ℕ, ◌+◌, ◌≤◌, max, List, [], ◌∷◌, ◌++◌, filter, length, Bool, true, false, cond, ◌&&◌, nat_le, nat_lt, Option, unwrap_or, refl, sym, ◌∙◌, ap, nat_cmp, arith}
use Rattle.std.proofs.lemmas.Bool.Decides.{nat_tests}
use Rattle.std.specs.FinMap.{get-empty}
use Rattle.saber_plan.specs.declared.plans.Shape.TheVariants.{Join}
use Rattle.saber_plan.specs.declared.rows.Row.{Row}
use Rattle.saber_plan.specs.declared.windows.Mark.{Mark}
use Rattle.saber_plan.specs.Trees.{Tree}
use Rattle.saber_plan.specs.Windows.{Fits, Placed, place, has, mark_after, placed_after}
use Rattle.saber_plan.specs.Answers.{frame, by_shape, passing_values}
use Rattle.saber_plan.specs.Parts.{Part, no_part, pair_part, group_part, row_part}
use Rattle.saber_plan.specs.Needs.{part_here, first_window, past_window}
use Rattle.saber_plan.specs.Facts.Lists.{each-filter}
use Rattle.saber_laws.specs.Pairs.{after_rows, with_row}
use Rattle.saber_join.specs.Standing.{standing_row}
use Rattle.saber_join.specs.Shelves.{meets}
use Rattle.saber_join.specs.Ties.{Ends, CanTie, key_in}
use Rattle.saber_join.specs.Keeping.{lefts_of, rights_of}
use Rattle.saber_join.specs.Open.{Windows, pairs_in, seen_parts, meeting_part, Takes, HoldsTask}
use Rattle.saber_join.proofs.Partners.{partners_met}
use Rattle.saber_join.proofs.Holding.{behind, behind_after, placed_below, pair_part-none}
use Rattle.saber_laws.proofs.NeedLaws.{rows_span}
use Rattle.saber_laws.proofs.RowPairLaws.{windows_get_pairs}

-- ---- the parts of windows after some rows, of which those from position n on are the task's

abbrev pub part_of : Tree → ℕ → ℕ → Mark → List Row → ℕ → Part
part_of q c n b xs i = cond (nat_lt i c) no_part (pair_part q n (filter (has (frame q) i) (placed_after b xs)))

pub record HasParts (q : Tree) (c n : ℕ) (b : Mark) (xs : List Row) (m : Windows) : Type 0 where
  pub at : (i : ℕ) → pairs_in m i ≡ part_of q c n b xs i

both_none : (b : Bool) (p : Part) → p ≡ no_part → no_part ≡ cond b no_part p
both_none true p e = refl
both_none false p e = sym e

-- none before the task's rows
pub none_yet : (q : Tree) (c : ℕ) (b : Mark) (back : List Row) (es : List (ℕ × Part)) → es ≡ [] → HasParts q c (b.left + b.right + length back) b back (seen_parts es)
none_yet q c b back es e = record {
  at = λ i.
      let n = b.left + b.right + length back in
      ap (λ l. pairs_in (seen_parts l) i) e ∙ ap (λ o. unwrap_or o no_part) (get-empty nat_cmp i)
      ∙ both_none (nat_lt i c) _ (pair_part-none q n (filter (has (frame q) i) (placed_after b back)) (each-filter _ (has (frame q) i) (placed_after b back) (placed_below b back n (omega arith))));
}

low_case : (c i first past : ℕ) → nat_lt i c ≡ true → (nat_le (max first c) i && nat_lt i past) ≡ false
low_case c i first past h = grind (arith, nat_tests)

high_case : (c i first past : ℕ) → nat_lt i c ≡ false → (nat_le (max first c) i && nat_lt i past) ≡ (nat_le first i && nat_lt i past)
high_case c i first past h = grind (arith, nat_tests)

pub not_low : (c i : ℕ) → nat_lt i c ≡ false → c ≤ i
not_low c i h = grind (arith, nat_tests)

begun : (c i first past : ℕ) → c ≤ i → (nat_le first i && nat_lt i past) ≡ true → max first c ≤ i
begun c i first past l h = grind (arith, nat_tests)

module _ (q : Tree) (fits : Fits (frame q)) (t : Option Ends) (tie : CanTie q.predicate t) (c n : ℕ) (b : Mark) (xs : List Row) (r : Row) (late : n ≤ behind b + length xs) (m k : Windows)
    (takes : Takes q t c (after_rows b xs r) (lefts_of (frame q) t c (placed_after b xs)) (rights_of (frame q) t c (placed_after b xs)) m k) where
  abbrev x : Placed
  x = after_rows b xs r

  abbrev first : ℕ
  first = first_window (frame q) (after_rows b xs r)

  abbrev past : ℕ
  past = past_window (frame q) (after_rows b xs r)

  abbrev chosen : ℕ → List Placed
  chosen i = filter (has (frame q) i) (placed_after b xs)

  abbrev changed : ℕ → Part → Part
  changed i p = meeting_part q (standing_row (after_rows b xs r)) (filter (meets (key_in t r) (max (first_window (frame q) (after_rows b xs r)) c)) (lefts_of (frame q) t c (placed_after b xs))) (filter (meets (key_in t r) (max (first_window (frame q) (after_rows b xs r)) c)) (rights_of (frame q) t c (placed_after b xs))) i p

  behind_them : n ≤ place (after_rows b xs r)
  behind_them = let here = behind_after b xs in omega (arith, here, late)

  -- a window that has the row gets its pairs
  has_case : (i : ℕ) → c ≤ i → (h : Bool) → has (frame q) i (after_rows b xs r) ≡ h → cond h (changed i (pair_part q n (chosen i))) (pair_part q n (chosen i)) ≡ cond h (with_row q n (chosen i) (after_rows b xs r)) (pair_part q n (chosen i))
  has_case i up true e = partners_met q t tie fits c i up (max first c) (begun c i first past up (sym (rows_span (frame q) fits i (after_rows b xs r)) ∙ e)) (after_rows b xs r) (pair_part q n (chosen i)) (placed_after b xs)
  has_case i up false e = refl

  step_case : (i : ℕ) (low : Bool) → nat_lt i c ≡ low → pairs_in m i ≡ cond low no_part (pair_part q n (chosen i)) → pairs_in k i ≡ cond low no_part (pair_part q n (filter (has (frame q) i) (placed_after b (xs ++ r ∷ []))))
  step_case i true e h = takes.at i ∙ ap (λ d. cond d (changed i (pairs_in m i)) (pairs_in m i)) (low_case c i first past e) ∙ h
  step_case i false e h =
      takes.at i
      ∙ ap (λ d. cond d (changed i (pairs_in m i)) (pairs_in m i)) (high_case c i first past e ∙ sym (rows_span (frame q) fits i (after_rows b xs r)))
      ∙ ap (λ p. cond (has (frame q) i (after_rows b xs r)) (changed i p) p) h
      ∙ has_case i (not_low c i e) (has (frame q) i (after_rows b xs r)) refl
      ∙ sym (windows_get_pairs q n i b xs r behind_them)

  pub row_taken : HasParts q c n b xs m → HasParts q c n b (xs ++ r ∷ []) k
  row_taken h = record { at = λ i. step_case i (nat_lt i c) refl (h.at i) }

-- ---- all of them

pub part_is : (q : Tree) (b : Mark) (back rows : List Row) (i : ℕ) → q.shape ≡ Join → pair_part q (b.left + b.right + length back) (filter (has (frame q) i) (placed_after b (back ++ rows))) ≡ part_here q i b back rows
unfolding part_here
part_is q b back rows i e = sym (ap (λ s. by_shape s (row_part q (filter (has (frame q) i) (placed_after (mark_after b back) rows))) (group_part q (passing_values q (filter (has (frame q) i) (placed_after (mark_after b back) rows)))) (pair_part q (b.left + b.right + length back) (filter (has (frame q) i) (placed_after b (back ++ rows))))) e)

pub task_held : (q : Tree) (c : ℕ) (b : Mark) (back rows : List Row) (m : Windows) → q.shape ≡ Join → HasParts q c (b.left + b.right + length back) b (back ++ rows) m → HoldsTask q c b back rows m
task_held q c b back rows m s h = record { at = λ i. h.at i ∙ ap (λ p. cond (nat_lt i c) no_part p) (part_is q b back rows i s) }
