-- What a task holds after each of its rows: the rows found of each window.
use Rattle.std.proofs.Common.{◌≡◌, ℕ, ◌<◌, max, List, [], ◌∷◌, ◌++◌, filter, Bool, true, false, cond, ◌&&◌, nat_le, nat_lt, unwrap_or, refl, sym, ◌∙◌, ap, subst, append-nil, nat_cmp, arith}
use Rattle.std.proofs.lemmas.Bool.Decides.{nat_tests}
use Rattle.std.proofs.lemmas.List.Elements.{filter-append}
use Rattle.std.specs.FinMap.{get-empty}
use Rattle.saber_plan.specs.declared.rows.Row.{Row}
use Rattle.saber_plan.specs.declared.windows.Mark.{Mark}
use Rattle.saber_plan.specs.Trees.{Tree}
use Rattle.saber_plan.specs.Windows.{Fits, Placed, place, has, mark_after, placed_after}
use Rattle.saber_plan.specs.Answers.{frame}
use Rattle.saber_plan.specs.Needs.{first_window, past_window}
use Rattle.saber_plan.specs.Facts.Lists.{each-filter}
use Rattle.saber_plan.specs.Facts.Rows.{placed-append, placed-one}
use Rattle.saber_laws.proofs.NeedLaws.{rows_span}
use Rattle.saber_laws.specs.Pairs.{after_rows}
use Rattle.saber_select.specs.Found.{Found, found_of, AllBelow}
use Rattle.saber_select.specs.Open.{Windows, seen_windows, rows_in, AllEarlier, Takes, found_here, HoldsFrom}
use Rattle.saber_select.proofs.Finding.{behind, behind_after, found_append, found_each, placed_below}

-- ---- before the first row

none_case : (b : Bool) → [] ≡ cond {A = List Found} b [] []
none_case true = refl
none_case false = refl

none_here : (q : Tree) (b : Mark) (i : ℕ) → [] ≡ found_here q b [] i
unfolding placed_after
none_here q b i = refl

pub none_yet : (q : Tree) (c : ℕ) (b : Mark) (es : List (ℕ × List Found)) → es ≡ [] → HoldsFrom q c b [] (seen_windows es)
none_yet q c b es e = record {
  at = λ i. ap (λ l. rows_in (seen_windows l) i) e ∙ ap (λ o. unwrap_or o []) (get-empty nat_cmp i) ∙ none_case (nat_lt i c) ∙ ap (λ l. cond (nat_lt i c) [] l) (none_here q b i);
}

-- ---- one row more

placed_push : (m : Mark) (xs : List Row) (r : Row) → placed_after m (xs ++ r ∷ []) ≡ placed_after m xs ++ after_rows m xs r ∷ []
placed_push m xs r = placed-append m xs (r ∷ []) ∙ ap (λ l. placed_after m xs ++ l) (placed-one (mark_after m xs) r)

has_case : (q : Tree) (us : List Placed) (x : Placed) (b : Bool) → found_of q (us ++ cond b (x ∷ []) []) ≡ cond b (found_of q us ++ found_of q (x ∷ [])) (found_of q us)
has_case q us x true = found_append q us (x ∷ [])
has_case q us x false = ap (found_of q) (append-nil us)

-- the rows of a window grow by the row, if the window has it
pub here_push : (q : Tree) (b : Mark) (xs : List Row) (r : Row) (i : ℕ) → found_here q b (xs ++ r ∷ []) i ≡ cond (has (frame q) i (after_rows b xs r)) (found_here q b xs i ++ found_of q (after_rows b xs r ∷ [])) (found_here q b xs i)
here_push q b xs r i =
    let f = has (frame q) i in
    ap (λ l. found_of q (filter f l)) (placed_push b xs r)
    ∙ ap (found_of q) (filter-append f (placed_after b xs) (after_rows b xs r ∷ []))
    ∙ has_case q (filter f (placed_after b xs)) (after_rows b xs r) (f (after_rows b xs r))

low_case : (c i first past : ℕ) → nat_lt i c ≡ true → (nat_le (max first c) i && nat_lt i past) ≡ false
low_case c i first past h = grind (arith, nat_tests)

high_case : (c i first past : ℕ) → nat_lt i c ≡ false → (nat_le (max first c) i && nat_lt i past) ≡ (nat_le first i && nat_lt i past)
high_case c i first past h = grind (arith, nat_tests)

module _ (q : Tree) (fits : Fits (frame q)) (c : ℕ) (b : Mark) (xs : List Row) (r : Row) (m n : Windows) (takes : Takes q c (after_rows b xs r) m n) where
  abbrev x : Placed
  x = after_rows b xs r

  abbrev new : List Found
  new = found_of q (after_rows b xs r ∷ [])

  step_case : (i : ℕ) (low : Bool) → nat_lt i c ≡ low → rows_in m i ≡ cond low [] (found_here q b xs i) → rows_in n i ≡ cond low [] (found_here q b (xs ++ r ∷ []) i)
  step_case i true e h = takes.at i ∙ ap (λ d. cond d (rows_in m i ++ new) (rows_in m i)) (low_case c i (first_window (frame q) x) (past_window (frame q) x) e) ∙ h
  step_case i false e h =
      takes.at i
      ∙ ap (λ d. cond d (rows_in m i ++ new) (rows_in m i)) (high_case c i (first_window (frame q) x) (past_window (frame q) x) e ∙ sym (rows_span (frame q) fits i x))
      ∙ ap (λ l. cond (has (frame q) i x) (l ++ new) l) h
      ∙ sym (here_push q b xs r i)

  pub row_taken : HoldsFrom q c b xs m → HoldsFrom q c b (xs ++ r ∷ []) n
  row_taken h = record { at = λ i. step_case i (nat_lt i c) refl (h.at i) }

-- ---- none of them stands behind the rows so far

below_case : (n : ℕ) (b : Bool) (es : List Found) → AllBelow n es → AllBelow n (cond b [] es)
below_case n true es h = tt
below_case n false es h = h

pub all_earlier : (q : Tree) (c : ℕ) (b mark : Mark) (xs : List Row) (r : Row) (m : Windows) → mark ≡ mark_after b xs → HoldsFrom q c b xs m → AllEarlier (place (record { row = r; before = mark })) m
all_earlier q c b mark xs r m e h =
    let n = behind (mark_after b xs) in
    let all = behind_after b xs in
    subst (λ (a : Mark). AllEarlier (behind a) m) (sym e) (record {
      at = λ i. subst (AllBelow n) (sym (h.at i)) (below_case n (nat_lt i c) (found_here q b xs i)
          (found_each (λ (f : Found). f.0 < n) q (filter (has (frame q) i) (placed_after b xs)) (each-filter (λ (y : Placed). place y < n) (has (frame q) i) (placed_after b xs) (placed_below b xs n (omega (arith, all))))));
    })
