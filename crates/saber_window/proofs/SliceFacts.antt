-- Rows of one stream in order: their marks, and which of them lie in the same windows.
use Rattle.std.proofs.Common.{◌≡◌, ℕ, zero, suc, ◌+◌, ◌-◌, ◌≤◌, ◌<◌, List, [], ◌∷◌, length, take, drop, get_or, Bool, true, not, ◌&&◌, pos, Some, refl, sym, ◌∙◌, ap, subst, le_trans, le_refl, take-append-drop, arith}
use Rattle.std.specs.List.{AllByRecursion, slice_get}
use Rattle.std.proofs.lemmas.Bool.Decides.{nat_tests}
use Rattle.std.proofs.lemmas.List.{length-take-le, length-drop, get_or-drop}
use Rattle.std.proofs.lemmas.Option.{get_or_from_slice_get, slice_get-get_or, slice_get_within}
use Rattle.saber_plan.specs.declared.rows.Row.{Row}
use Rattle.saber_plan.specs.declared.rows.Side.{Side}
use Rattle.saber_plan.specs.declared.rows.Side.TheVariants.{Left, Right}
use Rattle.saber_plan.specs.declared.rows.Values.{Values}
use Rattle.saber_plan.specs.declared.windows.Mark.{Mark}
use Rattle.saber_plan.specs.declared.windows.Measure.TheVariants as measures
use Rattle.saber_plan.specs.Rows.{stamp}
use Rattle.saber_plan.specs.Windows.{Frame, one, Ordered, in_order, can_follow, step_mark, mark_after, count_to}
use Rattle.saber_plan.specs.Needs.{first_window, past_window}
use Rattle.saber_plan.specs.Facts.Rows.{mark_more}
use Rattle.saber_plan.specs.Facts.Lists.{all_front, all_at}
use Rattle.saber_window.specs.Together.{CountsAlike, LieAlike, LieTogether, IsLeft}

-- ---- one row of a list

same_row : (zs : List Row) (k : ℕ) (b : Row) → Some b ≡ slice_get zs k → b ≡ get_or zs k b
same_row zs k b e = sym (get_or_from_slice_get zs k b b (sym e))

pub slice_get-drop : (xs : List Row) (i k : ℕ) (b : Row) → i + k < length xs → Some b ≡ slice_get xs (i + k) → Some b ≡ slice_get (drop i xs) k
slice_get-drop xs i k b h e =
    let long = length-drop i xs in
    sym (slice_get-get_or (drop i xs) k b (omega (arith, long, h)) ∙ ap Some (get_or-drop i xs k b ∙ sym (same_row xs (i + k) b e)))

pub slice_get-undrop : (xs : List Row) (i k : ℕ) (b : Row) → i + k < length xs → Some b ≡ slice_get (drop i xs) k → Some b ≡ slice_get xs (i + k)
slice_get-undrop xs i k b h e =
    sym (slice_get-get_or xs (i + k) b h ∙ ap Some (sym (get_or-drop i xs k b) ∙ sym (same_row (drop i xs) k b e)))

pub left_at : (zs : List Row) (k : ℕ) (b : Row) → AllByRecursion IsLeft zs → Some b ≡ slice_get zs k → IsLeft b
left_at zs k b h e = all_at IsLeft zs k b (slice_get_within zs k b (sym e)) (same_row zs k b e) h

left_front : (zs : List Row) (k : ℕ) → AllByRecursion IsLeft zs → AllByRecursion IsLeft (take k zs)
left_front zs k h = all_front IsLeft (take k zs) (drop k zs) (subst (AllByRecursion IsLeft) (sym (take-append-drop k zs)) h)

-- ---- the mark behind rows of the left stream

step_left : (m : Mark) (s : Side) (v : Values) → s ≡ Left → step_mark m (record { side = s; values = v }) ≡ record { left = m.left + 1; right = m.right; last = Some (pos (stamp v)); ended = m.ended }
step_left m Left v e = refl
step_left m Right v e = cc

pub record Counted (m n : Mark) (k : ℕ) : Type 0 where
  pub left : n.left ≡ m.left + k
  pub right : n.right ≡ m.right
  pub ended : n.ended ≡ m.ended

counted : (m : Mark) (zs : List Row) → AllByRecursion IsLeft zs → Counted m (mark_after m zs) (length zs)
counted m [] h = record { left = omega arith; right = refl; ended = refl }
counted m (z ∷ zs) h =
    let one = step_left m z.side z.values h.0.side in
    let left : (step_mark m z).left ≡ m.left + 1 = ap (λ (n : Mark). n.left) one in
    let rest = counted (step_mark m z) zs h.1 in
    let rest_left = rest.left in
    record {
      left = omega (arith, left, rest_left);
      right = rest.right ∙ ap (λ (n : Mark). n.right) one;
      ended = rest.ended ∙ ap (λ (n : Mark). n.ended) one;
    }

counted_to : (m : Mark) (zs : List Row) (k : ℕ) → k ≤ length zs → AllByRecursion IsLeft zs → Counted m (mark_after m (take k zs)) k
counted_to m zs k h all = subst (Counted m (mark_after m (take k zs))) (length-take-le k zs h) (counted m (take k zs) (left_front zs k all))

-- it counts all of them, and has the last one's timestamp
pub mark_at_once : (m : Mark) (zs : List Row) (k : ℕ) (b : Row) → AllByRecursion IsLeft zs → Some b ≡ slice_get zs k
    → record { left = m.left + (k + 1); right = m.right; last = Some (pos (stamp b.values)); ended = m.ended } ≡ mark_after m (take (k + 1) zs)
mark_at_once m zs k b h e =
    let within : k < length zs = slice_get_within zs k b (sym e) in
    let so_far = counted_to m zs k (omega (arith, within)) h in
    let before = mark_after m (take k zs) in
    let count = so_far.left in
    let left : before.left + 1 ≡ m.left + (k + 1) = omega (arith, count) in
    let step : step_mark before b ≡ record { left = m.left + (k + 1); right = m.right; last = Some (pos (stamp b.values)); ended = m.ended } =
    step_left before b.side b.values (left_at zs k b h e).side
    ∙ (λ i. record { left = left i; right = so_far.right i; last = Some (pos (stamp b.values)); ended = so_far.ended i }) in
    sym (mark_more m zs k b within (same_row zs k b e) ∙ step)

-- ---- timestamps that do not fall

ordered : (ended in_order : Bool) → (not ended && in_order) ≡ true → in_order ≡ true
ordered true b e = cc
ordered Bool.false b e = e

next_reaches : (m : Mark) (s : ℕ) (v : Values) → m.last ≡ Some (pos s) → can_follow m (stamp v) ≡ true → s ≤ stamp v
next_reaches m s v e h =
    let up : in_order (Some (pos s)) (stamp v) ≡ true = subst (λ o. in_order o (stamp v) ≡ true) e (ordered m.ended (in_order m.last (stamp v)) h) in
    grind (arith, nat_tests, up)

reaches : (m : Mark) (s : ℕ) (zs : List Row) (k : ℕ) (b : Row) → m.last ≡ Some (pos s) → Ordered m zs → Some b ≡ slice_get zs k → s ≤ stamp b.values
unfolding Ordered
reaches m s [] k b l o e = absurd (omega (arith, slice_get_within [] k b (sym e)))
reaches m s (z ∷ zs) zero b l o e = subst (λ (r : Row). s ≤ stamp r.values) (sym (same_row (z ∷ zs) 0 b e)) (next_reaches m s z.values l o.0)
reaches m s (z ∷ zs) (suc k) b l o e = le_trans (next_reaches m s z.values l o.0) (reaches (step_mark m z) (stamp z.values) zs k b refl o.1 e)

pub rises : (m : Mark) (zs : List Row) (i j : ℕ) (a b : Row) → Ordered m zs → i ≤ j → Some a ≡ slice_get zs i → Some b ≡ slice_get zs j → stamp a.values ≤ stamp b.values
unfolding Ordered
rises m [] i j a b o h e g = absurd (omega (arith, slice_get_within [] i a (sym e)))
rises m (z ∷ zs) zero zero a b o h e g = subst (λ (r : Row). stamp a.values ≤ stamp r.values) (same_row (z ∷ zs) 0 a e ∙ sym (same_row (z ∷ zs) 0 b g)) (le_refl (stamp a.values))
rises m (z ∷ zs) zero (suc j) a b o h e g = subst (λ (r : Row). stamp r.values ≤ stamp b.values) (sym (same_row (z ∷ zs) 0 a e)) (reaches (step_mark m z) (stamp z.values) zs j b refl o.1 g)
rises m (z ∷ zs) (suc i) zero a b o h e g = absurd (omega (arith, h))
rises m (z ∷ zs) (suc i) (suc j) a b o h e g = rises (step_mark m z) zs i j a b o.1 (omega (arith, h)) e g

-- ---- rows that lie in the same windows

-- the first n of these rows do
abbrev pub AreTogether : Frame → Mark → List Row → ℕ → Type 0
AreTogether f m zs n = (k : ℕ) (a b : Row) → k < n → Some a ≡ slice_get zs 0 → Some b ≡ slice_get zs k
    → LieAlike f (record { row = a; before = m }) (record { row = b; before = mark_after m (take k zs) })

pub in_all : (f : Frame) (m : Mark) (rows : List Row) (x y : ℕ) → y ≤ length rows → AreTogether f m (drop x rows) (y - x) → LieTogether f m rows x y
in_all f m rows x y within h k a b l e g =
    let first : x ≡ x + 0 = omega arith in
    h k a b (omega (arith, l))
    (slice_get-drop rows x 0 a (omega (arith, l, within)) (e ∙ ap (slice_get rows) first))
    (slice_get-drop rows x k b (omega (arith, l, within)) g)

pub alone : (f : Frame) (m : Mark) (zs : List Row) (n : ℕ) → n ≡ 1 → AreTogether f m zs n
alone f m zs n single k a b l e g =
    let zero_is : k ≡ 0 = omega (arith, l, single) in
    let same : b ≡ a = same_row zs k b g ∙ ap (λ i. get_or zs i b) zero_is ∙ get_or_from_slice_get zs 0 a b (sym e) in
    let mark : mark_after m (take k zs) ≡ m = ap (λ i. mark_after m (take i zs)) zero_is in
    record {
      first = λ i. first_window f (record { row = same i; before = mark i });
      past = λ i. past_window f (record { row = same i; before = mark i });
    }

module _ (slide size : ℕ) where
  rows_alike : (m n : Mark) (s t : Side) (v w : Values) → s ≡ Left → t ≡ Left → count_to slide size n.left ≡ count_to slide size m.left → count_to slide 0 n.left ≡ count_to slide 0 m.left
      → LieAlike (one measures.Rows slide size) (record { row = record { side = s; values = v }; before = m }) (record { row = record { side = t; values = w }; before = n })
  rows_alike m n Left Left v w a b first past = record { first = first; past = past }
  rows_alike m n Left Right v w a b first past = cc
  rows_alike m n Right t v w a b first past = cc

  times_alike : (m n : Mark) (s t : Side) (v w : Values) → s ≡ Left → t ≡ Left → count_to slide size (stamp w) ≡ count_to slide size (stamp v) → count_to slide 0 (stamp w) ≡ count_to slide 0 (stamp v)
      → LieAlike (one measures.Range slide size) (record { row = record { side = s; values = v }; before = m }) (record { row = record { side = t; values = w }; before = n })
  times_alike m n Left Left v w a b first past = record { first = first; past = past }
  times_alike m n Left Right v w a b first past = cc
  times_alike m n Right t v w a b first past = cc

  pub rows_together : (m : Mark) (zs : List Row) (n until : ℕ) → AllByRecursion IsLeft zs → n ≤ length zs → m.left + n ≤ until
      → CountsAlike slide size m.left until → CountsAlike slide 0 m.left until → AreTogether (one measures.Rows slide size) m zs n
  rows_together m zs n until left within high first past k a b l e g =
      let there : k < length zs = slice_get_within zs k b (sym g) in
      let next = mark_after m (take k zs) in
      let count : next.left ≡ m.left + k = (counted_to m zs k (omega (arith, there)) left).left in
      rows_alike m next a.side b.side a.values b.values (left_at zs 0 a left e).side (left_at zs k b left g).side
      (first next.left (omega (arith, count)) (omega (arith, count, l, high))) (past next.left (omega (arith, count)) (omega (arith, count, l, high)))

  pub times_together : (m : Mark) (zs : List Row) (n until : ℕ) (c d : Row) → AllByRecursion IsLeft zs → Ordered m zs → Some c ≡ slice_get zs 0 → Some d ≡ slice_get zs (n - 1) → stamp d.values < until
      → CountsAlike slide size (stamp c.values) until → CountsAlike slide 0 (stamp c.values) until → AreTogether (one measures.Range slide size) m zs n
  times_together m zs n until c d left order is_first is_last below first past k a b l e g =
      let same : c ≡ a = same_row zs 0 c is_first ∙ get_or_from_slice_get zs 0 a c (sym e) in
      let low : stamp c.values ≤ stamp b.values = rises m zs 0 k c b order (omega arith) is_first g in
      let high : stamp b.values ≤ stamp d.values = rises m zs k (n - 1) b d order (omega (arith, l)) g is_last in
      let short : stamp b.values < until = omega (arith, high, below) in
      times_alike m (mark_after m (take k zs)) a.side b.side a.values b.values (left_at zs 0 a left e).side (left_at zs k b left g).side
      (subst (λ (r : Row). count_to slide size (stamp b.values) ≡ count_to slide size (stamp r.values)) same (first (stamp b.values) low short))
      (subst (λ (r : Row). count_to slide 0 (stamp b.values) ≡ count_to slide 0 (stamp r.values)) same (past (stamp b.values) low short))

-- ---- two rows in order

up : (s t : ℕ) → s ≤ t → in_order (Some (pos s)) t ≡ true
up s t h = grind (arith, nat_tests)
