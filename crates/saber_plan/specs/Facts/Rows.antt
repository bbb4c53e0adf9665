-- Facts on rows that follow one another, and on the marks between them. Any proof may cite them.
use Rattle.std.proofs.Common.{◌≡◌, ℕ, suc, ◌+◌, ◌^◌, ◌≤◌, ◌<◌, List, [], ◌∷◌, ◌++◌, length, take, drop, get_or, refl, sym, ◌∙◌, ap, subst, le_trans, take-append-drop, arith}
use Rattle.std.proofs.lemmas.Grind.{fold-append}
use Rattle.std.proofs.lemmas.List.{take_more}
use Rattle.std.specs.List.{AllByRecursion}
use Rattle.saber_plan.specs.declared.rows.Side.{Side}
use Rattle.saber_plan.specs.declared.rows.Side.TheVariants.{Left, Right}
use Rattle.saber_plan.specs.declared.rows.Row.{Row}
use Rattle.saber_plan.specs.declared.rows.Values.{Values}
use Rattle.saber_plan.specs.declared.windows.Mark.{Mark}
use Rattle.saber_plan.specs.declared.windows.Stream.{Stream}
use Rattle.saber_plan.specs.Trees.{Tree}
use Rattle.saber_plan.specs.Windows.{step_mark, mark_after, Ordered, placed_after}
use Rattle.saber_plan.specs.Checked.{columns_on}
use Rattle.saber_plan.specs.GivenRows.{IsRowOf, RowsFit}
use Rattle.saber_plan.specs.Facts.Lists.{all_front, all_back, all_at}

-- ---- marks and places of rows that are put together

pub mark-append : (m : Mark) (xs ys : List Row) → mark_after m (xs ++ ys) ≡ mark_after (mark_after m xs) ys
mark-append m xs ys = fold-append step_mark m xs ys

pub placed-append : (m : Mark) (xs ys : List Row) → placed_after m (xs ++ ys) ≡ placed_after m xs ++ placed_after (mark_after m xs) ys
unfolding placed_after
placed-append m [] ys = refl
placed-append m (x ∷ xs) ys = ap (λ l. record { row = x; before = m } ∷ l) (placed-append (step_mark m x) xs ys)

pub placed-one : (m : Mark) (x : Row) → placed_after m (x ∷ []) ≡ record { row = x; before = m } ∷ []
unfolding placed_after
placed-one m x = refl

pub length-placed : (m : Mark) (xs : List Row) → length (placed_after m xs) ≡ length xs
unfolding placed_after
length-placed m [] = refl
length-placed m (x ∷ xs) = ap suc (length-placed (step_mark m x) xs)

-- one row more
pub placed_more : (m : Mark) (xs : List Row) (k : ℕ) (x : Row) → k < length xs → x ≡ get_or xs k x
    → placed_after m (take (k + 1) xs)
    ≡ placed_after m (take k xs) ++ record { row = x; before = mark_after m (take k xs) } ∷ []
placed_more m xs k x h e =
    ap (placed_after m) (take_more xs k x h)
    ∙ placed-append m (take k xs) (get_or xs k x ∷ [])
    ∙ ap (λ y. placed_after m (take k xs) ++ placed_after (mark_after m (take k xs)) (y ∷ [])) (sym e)
    ∙ ap (λ l. placed_after m (take k xs) ++ l) (placed-one (mark_after m (take k xs)) x)

pub mark_more : (m : Mark) (xs : List Row) (k : ℕ) (x : Row) → k < length xs → x ≡ get_or xs k x
    → mark_after m (take (k + 1) xs) ≡ step_mark (mark_after m (take k xs)) x
mark_more m xs k x h e =
    ap (mark_after m) (take_more xs k x h)
    ∙ mark-append m (take k xs) (get_or xs k x ∷ [])
    ∙ ap (step_mark (mark_after m (take k xs))) (sym e)

-- ---- rows that fit

pub Ordered-append : (m : Mark) (xs ys : List Row) → Ordered m (xs ++ ys) → Ordered m xs × Ordered (mark_after m xs) ys
unfolding Ordered
Ordered-append m [] ys o = (tt, o)
Ordered-append m (x ∷ xs) ys o = let rest = Ordered-append (step_mark m x) xs ys o.1 in ((o.0, rest.0), rest.1)

-- rows in order, and rows in order behind them
pub Ordered-join : (m : Mark) (xs ys : List Row) → Ordered m xs → Ordered (mark_after m xs) ys → Ordered m (xs ++ ys)
unfolding Ordered
Ordered-join m [] ys o p = p
Ordered-join m (x ∷ xs) ys o p = (o.0, Ordered-join (step_mark m x) xs ys o.1 p)

step_left : (m : Mark) (s : Side) (v : Values) → m.left ≤ (step_mark m (record { side = s; values = v })).left
step_left m Left v = omega arith
step_left m Right v = omega arith

step_right : (m : Mark) (s : Side) (v : Values) → m.right ≤ (step_mark m (record { side = s; values = v })).right
step_right m Left v = omega arith
step_right m Right v = omega arith

left_rises : (m : Mark) (xs : List Row) → m.left ≤ (mark_after m xs).left
left_rises m [] = omega arith
left_rises m (x ∷ xs) = le_trans (step_left m x.side x.values) (left_rises (step_mark m x) xs)

right_rises : (m : Mark) (xs : List Row) → m.right ≤ (mark_after m xs).right
right_rises m [] = omega arith
right_rises m (x ∷ xs) = le_trans (step_right m x.side x.values) (right_rises (step_mark m x) xs)

pub fits_front : (q : Tree) (m : Mark) (xs ys : List Row) → RowsFit q m (xs ++ ys) → RowsFit q m xs
fits_front q m xs ys h =
    let more = mark-append m xs ys in
    record {
      rows = all_front (IsRowOf q) xs ys h.rows;
      ordered = (Ordered-append m xs ys h.ordered).0;
      left = le_trans (left_rises (mark_after m xs) ys) (subst (λ (n : Mark). n.left ≤ 2 ^ 40) more h.left);
      right = le_trans (right_rises (mark_after m xs) ys) (subst (λ (n : Mark). n.right ≤ 2 ^ 40) more h.right);
    }

pub fits_back : (q : Tree) (m : Mark) (xs ys : List Row) → RowsFit q m (xs ++ ys) → RowsFit q (mark_after m xs) ys
fits_back q m xs ys h =
    let more = mark-append m xs ys in
    record {
      rows = all_back (IsRowOf q) xs ys h.rows;
      ordered = (Ordered-append m xs ys h.ordered).1;
      left = subst (λ (n : Mark). n.left ≤ 2 ^ 40) more h.left;
      right = subst (λ (n : Mark). n.right ≤ 2 ^ 40) more h.right;
    }

pub fits_take : (q : Tree) (m : Mark) (xs : List Row) (k : ℕ) → RowsFit q m xs → RowsFit q m (take k xs)
fits_take q m xs k h = fits_front q m (take k xs) (drop k xs) (subst (RowsFit q m) (sym (take-append-drop k xs)) h)

pub fits_drop : (q : Tree) (m : Mark) (xs : List Row) (k : ℕ) → RowsFit q m xs → RowsFit q (mark_after m (take k xs)) (drop k xs)
fits_drop q m xs k h = fits_back q m (take k xs) (drop k xs) (subst (RowsFit q m) (sym (take-append-drop k xs)) h)

pub row_at : (q : Tree) (m : Mark) (xs : List Row) (k : ℕ) (x : Row) → k < length xs → x ≡ get_or xs k x → RowsFit q m xs → IsRowOf q x
row_at q m xs k x l e h = all_at (IsRowOf q) xs k x l e h.rows

-- the marks between them are small
pub left_small : (q : Tree) (m n : Mark) (xs : List Row) (k : ℕ) → RowsFit q m xs → n ≡ mark_after m (take k xs) → n.left ≤ 2 ^ 40
left_small q m n xs k h e = subst (λ (a : Mark). a.left ≤ 2 ^ 40) (sym e) (fits_take q m xs k h).left

pub right_small : (q : Tree) (m n : Mark) (xs : List Row) (k : ℕ) → RowsFit q m xs → n ≡ mark_after m (take k xs) → n.right ≤ 2 ^ 40
right_small q m n xs k h e = subst (λ (a : Mark). a.right ≤ 2 ^ 40) (sym e) (fits_take q m xs k h).right

-- ---- rows of one stream

left_only : (s : Stream) (side : Side) → 1 ≤ columns_on (s ∷ []) side → side ≡ Left
left_only s Left h = refl
left_only s Right h = absurd (omega arith)

pub is_left : (q : Tree) (s : Stream) → q.streams ≡ s ∷ [] → (r : Row) → IsRowOf q r → r.side ≡ Left
is_left q s e r h = left_only s r.side (subst (λ ss. 1 ≤ columns_on ss r.side) e h.stream)

step_one : (m : Mark) (s : Side) (v : Values) → s ≡ Left → (step_mark m (record { side = s; values = v })).left ≡ m.left + 1
step_one m Left v e = refl
step_one m Right v e = cc

left_count : (q : Tree) (s : Stream) → q.streams ≡ s ∷ [] → (m : Mark) (xs : List Row) → AllByRecursion (IsRowOf q) xs → (mark_after m xs).left ≡ m.left + length xs
left_count q s e m [] h = omega arith
left_count q s e m (x ∷ xs) h =
    let rest = left_count q s e (step_mark m x) xs h.1 in
    let one = step_one m x.side x.values (is_left q s e x h.0) in
    omega (arith, rest, one)

pub few_rows : (q : Tree) (s : Stream) → q.streams ≡ s ∷ [] → (m : Mark) (xs : List Row) → RowsFit q m xs → length xs ≤ 2 ^ 40
few_rows q s e m xs h = let count = left_count q s e m xs h.rows in let few = h.left in omega (arith, count, few)
