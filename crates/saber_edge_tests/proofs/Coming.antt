-- Rows of tests, one after another.
use Rattle.std.proofs.Common.{◌≡◌, ℕ, Some, pos, ◌+◌, ◌^◌, ◌≤◌, ◌<◌, List, [], ◌∷◌, ◌++◌, true, sym, ◌∙◌, ap, subst, le_trans, append_assoc, append-nil, arith}
use Rattle.saber_plan.specs.declared.rows.Side.{Side}
use Rattle.saber_plan.specs.declared.rows.Side.TheVariants.{Left, Right}
use Rattle.saber_plan.specs.declared.rows.Row.{Row}
use Rattle.saber_plan.specs.declared.rows.Values.{Values}
use Rattle.saber_plan.specs.declared.windows.Mark.{Mark}
use Rattle.saber_plan.specs.Rows.{stamp, RowFits}
use Rattle.saber_plan.specs.Trees.{Tree}
use Rattle.saber_plan.specs.Windows.{by_side, step_mark, mark_after, can_follow, Ordered}
use Rattle.saber_plan.specs.Checked.{columns_on}
use Rattle.saber_plan.specs.GivenRows.{IsRowOf, RowsFit}
use Rattle.saber_plan.specs.Facts.Rows.{mark-append, Ordered-join}
use Rattle.saber_plan.specs.Facts.Lists.{all_append}
use Rattle.saber_edge_tests.specs.Filling.{HasKeyed, CanCome}

one_ordered : (m : Mark) (x : Row) → can_follow m (stamp x.values) ≡ true → Ordered m (x ∷ [])
unfolding Ordered
one_ordered m x h = (h, tt)

left_next : (m : Mark) (s : Side) (v : Values) → (step_mark m (record { side = s; values = v })).left ≤ m.left + 1
left_next m Left v = omega arith
left_next m Right v = omega arith

right_next : (m : Mark) (s : Side) (v : Values) → (step_mark m (record { side = s; values = v })).right ≤ m.right + 1
right_next m Left v = omega arith
right_next m Right v = omega arith

fits_more : (q : Tree) (m n : Mark) (xs : List Row) (x : Row) → RowsFit q m xs → n ≡ mark_after m xs → IsRowOf q x → can_follow n (stamp x.values) ≡ true
    → n.left < 2 ^ 32 → n.right < 2 ^ 32 → RowsFit q m (xs ++ x ∷ [])
fits_more q m n xs x h e row o left right =
    let next = ap (λ a. step_mark a x) e ∙ sym (mark-append m xs (x ∷ [])) in
    let low = left_next n x.side x.values in
    let high = right_next n x.side x.values in
    record {
      rows = all_append (IsRowOf q) xs (x ∷ []) h.rows (row, tt);
      ordered = Ordered-join m xs (x ∷ []) h.ordered (one_ordered (mark_after m xs) x (subst (λ (a : Mark). can_follow a (stamp x.values) ≡ true) e o));
      left = subst (λ (a : Mark). a.left ≤ 2 ^ 40) next (le_trans low (omega (arith, left)));
      right = subst (λ (a : Mark). a.right ≤ 2 ^ 40) next (le_trans high (omega (arith, right)));
    }

-- a row of three columns is one of such a query
pub keyed_row_of : (x : Row) → RowFits Left 3 x → (q : Tree) → HasKeyed q → IsRowOf q x
keyed_row_of x h q e =
    let some : 1 ≤ columns_on q.streams Left = omega (arith, e) in
    record {
      stream = subst (λ s. 1 ≤ columns_on q.streams s) (sym h.own) some;
      fits = subst (λ s. RowFits s (columns_on q.streams s) x) (sym h.own) (subst (λ n. RowFits Left n x) (sym e) h);
    }

-- the mark behind one row more
pub stepped : (m n : Mark) (x : Row) (t : ℕ) → x.side ≡ Left → stamp x.values ≡ t
    → n.left ≡ m.left + 1 → n.right ≡ m.right
    → n.last ≡ Some (pos t) → n.ended ≡ m.ended → n ≡ step_mark m x
stepped m n x t side time left right last ended = λ i. record {
  left = (left ∙ ap (λ a. by_side a (m.left + 1) m.left) (sym side)) i;
  right = (right ∙ ap (λ a. by_side a m.right (m.right + 1)) (sym side)) i;
  last = (last ∙ ap (λ a. Some (pos a)) (sym time)) i;
  ended = ended i;
}

pub mark_next : (m n : Mark) (xs : List Row) (x : Row) → n ≡ mark_after m xs → step_mark n x ≡ mark_after m (xs ++ x ∷ [])
mark_next m n xs x e = ap (λ a. step_mark a x) e ∙ sym (mark-append m xs (x ∷ []))

pub come_none : (Has : Tree → Type 0) (before : Mark) (rows : List Row) → rows ≡ [] → CanCome Has before rows
come_none Has before rows none q m xs has e h = subst (RowsFit q m) (sym (ap (λ ys. xs ++ ys) none ∙ append-nil xs)) h

pub come_more : (Has : Tree → Type 0) (before n : Mark) (rows : List Row) (x : Row) → n ≡ mark_after before rows → ((q : Tree) → Has q → IsRowOf q x)
    → can_follow n (stamp x.values) ≡ true → n.left < 2 ^ 32 → n.right < 2 ^ 32 → CanCome Has before rows → CanCome Has before (rows ++ x ∷ [])
come_more Has before n rows x here row o left right more q m xs has e h =
    let there : n ≡ mark_after m (xs ++ rows) = here ∙ ap (λ a. mark_after a rows) e ∙ sym (mark-append m xs rows) in
    subst (RowsFit q m) (append_assoc xs rows (x ∷ [])) (fits_more q m n (xs ++ rows) x (more q m xs has e h) there (row q has) o left right)
