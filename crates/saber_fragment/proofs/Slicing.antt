-- Rows of an input from one position up to another, and the marks there.
use Rattle.std.proofs.Common.{◌≡◌, ℕ, ◌-◌, ◌≤◌, ◌<◌, List, [], ◌++◌, length, take, drop, slice_range, Bool, true, false, ◌&&◌, nat_lt, refl, sym, ◌∙◌, ap, subst, take-append-drop, append_assoc, arith}
use Rattle.std.proofs.lemmas.Bool.{ltb-true, both_ways}
use Rattle.std.proofs.lemmas.Bool.Decides.{nat_tests}
use Rattle.saber_plan.specs.declared.rows.Row.{Row}
use Rattle.saber_plan.specs.declared.windows.Mark.{Mark}
use Rattle.saber_plan.specs.Trees.{Tree}
use Rattle.saber_plan.specs.Inputs.{Input, first_arrivals}
use Rattle.saber_plan.specs.Windows.{no_rows, mark_after, mark_of, end_mark, mark_at, Ordered}
use Rattle.saber_plan.specs.GivenRows.{RowsFit}
use Rattle.saber_plan.specs.Facts.Lists.{nothing_behind, slice-front, slice-join}
use Rattle.saber_plan.specs.Facts.Rows.{mark-append, fits_front, fits_back, fits_take}
use Rattle.saber_fragment.specs.declared.blocks.Earlier.{Earlier}
use Rattle.saber_fragment.specs.Drafts.{EndWith}
use Rattle.saber_laws.proofs.EndLaws.{marks_go_on}

fits_slice : (q : Tree) (xs : List Row) (x y : ℕ) → RowsFit q no_rows xs → RowsFit q (mark_of (take x xs)) (slice_range xs x y)
fits_slice q xs x y h =
    let behind : RowsFit q (mark_of (take x xs)) (drop x xs) = fits_back q no_rows (take x xs) (drop x xs) (subst (RowsFit q no_rows) (sym (take-append-drop x xs)) h) in
    fits_front q (mark_of (take x xs)) (take (y - x) (drop x xs)) (drop (y - x) (drop x xs)) (subst (RowsFit q (mark_of (take x xs))) (sym (take-append-drop (y - x) (drop x xs))) behind)

-- ---- positions at which the input's end has come, and others

behind_case : (b : Bool) (l x : ℕ) → (b && nat_lt l x) ≡ true → l < x
behind_case true l x h = ltb-true l x h
behind_case false l x h = absurd (both_ways _ refl h)

-- behind the end there is no row
none_behind : (r : Input) (x y : ℕ) → (first_arrivals r x).ended ≡ true → slice_range r.rows x y ≡ []
none_behind r x y e =
    let far = behind_case r.ended (length r.rows) x e in
    nothing_behind r.rows x y (omega (arith, far))

earlier_case : (b : Bool) (l x y : ℕ) → x ≤ y → (b && nat_lt l y) ≡ false → (b && nat_lt l x) ≡ false
earlier_case true l x y a h = grind (arith, nat_tests)
earlier_case false l x y a h = refl

-- where it has not come it did not come before
pub not_before : (r : Input) (x y : ℕ) → x ≤ y → (first_arrivals r y).ended ≡ false → (first_arrivals r x).ended ≡ false
not_before r x y a h = earlier_case r.ended (length r.rows) x y a h

-- and the mark is that of the rows
mark_open : (r : Input) (x : ℕ) → (first_arrivals r x).ended ≡ false → mark_at r x ≡ mark_of (take x r.rows)
mark_open r x e = ap (λ b. end_mark b (mark_of (take x r.rows))) e

-- the mark at a later position, up to which the end has not come
pub mark_on : (r : Input) (x y : ℕ) → x ≤ y → (first_arrivals r y).ended ≡ false → mark_at r y ≡ mark_after (mark_at r x) (slice_range r.rows x y)
mark_on r x y a e = mark_open r y e ∙ marks_go_on r.rows x y a ∙ sym (ap (λ m. mark_after m (slice_range r.rows x y)) (mark_open r x (not_before r x y a e)))

fits_none : (q : Tree) (b : Bool) (m : Mark) (xs : List Row) → xs ≡ [] → RowsFit q m xs → RowsFit q (end_mark b m) xs
unfolding Ordered
fits_none q b m xs e h = subst (λ l. RowsFit q m l → RowsFit q (end_mark b m) l) (sym e) (λ f. record { rows = tt; ordered = tt; left = f.left; right = f.right }) h

-- rows between positions can follow the mark at the first
pub fits_between : (q : Tree) (r : Input) (x y : ℕ) → RowsFit q no_rows r.rows → RowsFit q (mark_at r x) (slice_range r.rows x y)
fits_between q r x y h = elim ((first_arrivals r x).ended) as (λ b. (first_arrivals r x).ended ≡ b → RowsFit q (mark_at r x) (slice_range r.rows x y)) [
  | true ↦ λ e. fits_none q (first_arrivals r x).ended (mark_of (take x r.rows)) (slice_range r.rows x y) (none_behind r x y e) (fits_slice q r.rows x y h)
  | false ↦ λ e. subst (λ m. RowsFit q m (slice_range r.rows x y)) (sym (mark_open r x e)) (fits_slice q r.rows x y h)
] refl

-- ---- rows that are the last ones before a position

-- the rows up to a later position
take_on : (xs : List Row) (x y : ℕ) → x ≤ y → take y xs ≡ take x xs ++ slice_range xs x y
take_on xs x y h = sym (slice-front xs y) ∙ slice-join xs 0 x y (omega arith) h ∙ ap (λ l. l ++ slice_range xs x y) (slice-front xs x)

module _ (r : Input) (x : ℕ) (e : Earlier) (h : EndWith (take x r.rows) e) where
  -- the mark at the position is the one behind them
  pub mark_behind : (first_arrivals r x).ended ≡ false → mark_at r x ≡ mark_after e.before e.rows
  mark_behind opens = mark_open r x opens ∙ ap mark_of h.rows_are ∙ mark-append no_rows h.front e.rows ∙ sym (ap (λ m. mark_after m e.rows) h.before_is)

  -- and with the rows from there on they can follow those in front of them
  pub fits_behind : (q : Tree) (y : ℕ) → x ≤ y → RowsFit q no_rows r.rows → RowsFit q e.before (e.rows ++ slice_range r.rows x y)
  fits_behind q y up fits =
      let ys = slice_range r.rows x y in
      let all : take y r.rows ≡ h.front ++ (e.rows ++ ys) = take_on r.rows x y up ∙ ap (λ l. l ++ ys) h.rows_are ∙ append_assoc h.front e.rows ys in
      subst (λ m. RowsFit q m (e.rows ++ ys)) (sym h.before_is)
      (fits_back q no_rows h.front (e.rows ++ ys) (subst (RowsFit q no_rows) all (fits_take q no_rows r.rows y fits)))
