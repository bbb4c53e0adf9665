-- Rows of a task that lie in the same windows, and the mark behind them.
use Rattle.std.proofs.Common.{◌≡◌, ℕ, ◌+◌, ◌-◌, ◌≤◌, ◌<◌, List, take, drop, Some, sym, ◌∙◌, ap, subst, take-add, arith}
use Rattle.std.specs.List.{AllByRecursion, slice_get}
use Rattle.saber_plan.specs.declared.rows.Row.{Row}
use Rattle.saber_plan.specs.declared.windows.Mark.{Mark}
use Rattle.saber_plan.specs.Trees.{Tree}
use Rattle.saber_plan.specs.Windows.{Ordered, mark_after}
use Rattle.saber_plan.specs.Answers.{frame}
use Rattle.saber_plan.specs.Needs.{first_window, past_window}
use Rattle.saber_plan.specs.GivenRows.{IsRowOf, RowsFit}
use Rattle.saber_plan.specs.Facts.Lists.{all_weaker}
use Rattle.saber_plan.specs.Facts.Rows.{mark-append, fits_drop, is_left}
use Rattle.saber_laws.specs.Plans.{OneWindow}
use Rattle.saber_window.specs.Together.{IsLeft, LieTogether}
use Rattle.saber_window.proofs.Stamps.{stamps_fit}

row_left : (q : Tree) → OneWindow q → (r : Row) → IsRowOf q r → IsLeft r
row_left q w r h =
    let small = stamps_fit r.side _ r h.fits in
    record { side = is_left q w.stream w.streams r h; time = omega (arith, small) }

-- the rows from one on are of the left stream, and in order
pub left_behind : (q : Tree) → OneWindow q → (m : Mark) (xs : List Row) (k : ℕ) → RowsFit q m xs → AllByRecursion IsLeft (drop k xs)
left_behind q w m xs k h = all_weaker (IsRowOf q) IsLeft (row_left q w) (drop k xs) (fits_drop q m xs k h).rows

pub order_behind : (q : Tree) (m n : Mark) (xs : List Row) (k : ℕ) → RowsFit q m xs → n ≡ mark_after m (take k xs) → Ordered n (drop k xs)
order_behind q m n xs k h e = subst (λ (a : Mark). Ordered a (drop k xs)) (sym e) (fits_drop q m xs k h).ordered

-- a mark behind some rows and then behind more
mark_on : (m n : Mark) (xs : List Row) (k j : ℕ) → n ≡ mark_after m (take k xs) → mark_after n (take j (drop k xs)) ≡ mark_after m (take (k + j) xs)
mark_on m n xs k j e =
    ap (λ (a : Mark). mark_after a (take j (drop k xs))) e
    ∙ sym (mark-append m (take k xs) (take j (drop k xs)))
    ∙ ap (mark_after m) (sym (take-add k j xs))

pub mark_up_to : (m n : Mark) (xs : List Row) (k e : ℕ) → k ≤ e → n ≡ mark_after m (take k xs) → mark_after n (take (e - k) (drop k xs)) ≡ mark_after m (take e xs)
mark_up_to m n xs k e h is =
    let all : k + (e - k) ≡ e = omega (arith, h) in
    mark_on m n xs k (e - k) is ∙ ap (λ j. mark_after m (take j xs)) all

-- a row lies in the windows from `first` up to `past`, and in no other
pub record LiesIn (q : Tree) (first past : ℕ) (row : Row) (before : Mark) : Type 0 where
  pub begins : first ≡ first_window (frame q) (record { row = row; before = before })
  pub ends : past ≡ past_window (frame q) (record { row = row; before = before })

-- as the first of them does, so do those that lie together with it
pub lies : (q : Tree) (m n : Mark) (xs : List Row) (k end e first past : ℕ) (x y : Row) → LieTogether (frame q) n xs k end → n ≡ mark_after m (take k xs) → Some x ≡ slice_get xs k → LiesIn q first past x n
    → k ≤ e → e < end → Some y ≡ slice_get xs e → LiesIn q first past y (mark_after m (take e xs))
lies q m n xs k end e first past x y together is is_x h low high is_y =
    let at : e ≡ k + (e - k) = omega (arith, low) in
    let alike = together (e - k) x y (subst (λ i. i < end) at high) is_x (is_y ∙ ap (slice_get xs) at) in
    let mark = mark_up_to m n xs k e low is in
    subst (LiesIn q first past y) mark (record { begins = h.begins ∙ sym alike.first; ends = h.ends ∙ sym alike.past })
