-- One pane after another, merged into a part.
use Rattle.std.proofs.Common.{◌≡◌, ℕ, zero, suc, ◌+◌, ◌-◌, ◌≤◌, ◌<◌, List, [], ◌∷◌, ◌++◌, Option, Some, None, refl, sym, ◌∙◌, ap, subst₂, arith}
use Rattle.std.specs.List.{sum_by}
use Rattle.std.proofs.lemmas.List.Sums.{fold-append, sum_by-append}
use Rattle.std.specs.FinMap.{get}
use Rattle.saber_plan.specs.Trees.{Tree}
use Rattle.saber_plan.specs.Windows.{from}
use Rattle.saber_plan.specs.Answers.{frame}
use Rattle.saber_plan.specs.Parts.{Part, no_part, merge}
use Rattle.saber_plan.specs.Tasks.{Parts}
use Rattle.saber_partial.specs.Tallies.{CanMerge}
use Rattle.saber_partial.specs.PartLaws.{OfRows}
use Rattle.saber_panes.specs.Panes.{or_none, merged_panes, first_pane, pane_count, PanesOf, WindowRoom}
use Rattle.saber_partial.proofs.Counted.{none_of_rows, more_rows, small_merge, small_stay}
use Rattle.saber_panes.proofs.PaneWindows.{merged_first}
use Rattle.saber_laws.proofs.PartLaws.{merge_is_associative}
use Rattle.saber_plan.specs.Facts.Parts.{merge-empty_right}

from-append : (a m n : ℕ) → from a (m + n) ≡ from a m ++ from (a + m) n
unfolding from
from-append a zero n = let p : zero + n ≡ n = omega arith in let r : a ≡ a + zero = omega arith in ap (from a) p ∙ ap (λ b. from b n) r
from-append a (suc m) n = let p : suc m + n ≡ suc (m + n) = omega arith in let r : (a + 1) + m ≡ a + suc m = omega arith in ap (from a) p ∙ ap (λ l. a ∷ l) (from-append (a + 1) m n) ∙ ap (λ b. (a ∷ from (a + 1) m) ++ from b n) r

pub from-none : (a : ℕ) → from a 0 ≡ []
unfolding from
from-none a = refl

from-one : (a : ℕ) → from a 1 ≡ a ∷ []
unfolding from
from-one a = refl

pub from-first : (a n : ℕ) → from a (suc n) ≡ a ∷ from (a + 1) n
unfolding from
from-first a n = refl

-- ---- what they come to

pub none_merged : (m : Parts) (p : Part) (a : ℕ) → p ≡ merge p (merged_panes m (from a 0))
none_merged m p a = sym (ap (λ l. merge p (merged_panes m l)) (from-none a) ∙ merge-empty_right p)

pub one_merged : (m : Parts) (p : Part) (a n : ℕ) → merge (merge p (merged_panes m (from a n))) (or_none (get m (a + n))) ≡ merge p (merged_panes m (from a (n + 1)))
one_merged m p a n =
    let more : from a (n + 1) ≡ from a n ++ (a + n) ∷ [] = from-append a n 1 ∙ ap (λ l. from a n ++ l) (from-one (a + n)) in
    merge_is_associative p (merged_panes m (from a n)) (or_none (get m (a + n)))
    ∙ ap (merge p) (sym (ap (merged_panes m) more ∙ fold-append (λ p j. merge p (or_none (get m j))) no_part (from a n) ((a + n) ∷ [])))

-- ---- that there is room

pub sum_first : (f : ℕ → ℕ) (j : ℕ) (js : List ℕ) → sum_by f (j ∷ js) ≡ f j + sum_by f js
sum_first f j js = sum_by-append f (j ∷ []) js ∙ (let one : 0 + f j ≡ f j = omega arith in ap (λ n. n + sum_by f js) one)

of_pane : (q : Tree) (n : ℕ) (o : Option Part) → ((p : Part) → o ≡ Some p → OfRows q n p) → OfRows q n (or_none o)
of_pane q n None h = more_rows q 0 n no_part (omega arith) (none_of_rows q)
of_pane q n (Some p) h = h p refl

of_merged : (q : Tree) (has : ℕ → ℕ) (m : Parts) → PanesOf q has m → (js : List ℕ) → OfRows q (sum_by has js) (merged_panes m js)
of_merged q has m g [] = none_of_rows q
of_merged q has m g (j ∷ js) =
    subst₂ (λ n (p : Part). OfRows q n p) (sym (sum_first has j js)) (sym (merged_first m j js)) (small_stay q (has j) (sum_by has js) (or_none (get m j)) (merged_panes m js) (of_pane q (has j) (get m j) (g.at j)) (of_merged q has m g js))

part_of_sum : (has : ℕ → ℕ) (a n count : ℕ) → n < count → sum_by has (from a n) + has (a + n) ≤ sum_by has (from a count)
part_of_sum has a n count l =
    let rest = count - n - 1 in
    let long : count ≡ n + suc rest = omega (arith, l) in
    let cut = ap (λ k. sum_by has (from a k)) long ∙ ap (sum_by has) (from-append a n (suc rest) ∙ ap (λ z. from a n ++ z) (from-first (a + n) rest)) ∙ sum_by-append has (from a n) ((a + n) ∷ from (a + n + 1) rest) in
    let head = sum_first has (a + n) (from (a + n + 1) rest) in
    omega (arith, cut, head)

pub room_for_pane : (q : Tree) (i : ℕ) (m : Parts) (p : Part) → WindowRoom q i m p → (n : ℕ) → n < pane_count (frame q)
    → CanMerge (merge p (merged_panes m (from (first_pane (frame q) i) n))) (or_none (get m (first_pane (frame q) i + n)))
room_for_pane q i m p room n l =
    let a = first_pane (frame q) i in
    let before = sum_by room.has (from a n) in
    let low = part_of_sum room.has a n (pane_count (frame q)) l in
    let few = room.few in
    small_merge q (room.own + before) (room.has (a + n)) _ _
    (small_stay q room.own before p (merged_panes m (from a n)) room.part (of_merged q room.has m room.panes (from a n)))
    (of_pane q (room.has (a + n)) (get m (a + n)) (room.panes.at (a + n)))
    (omega (arith, low, few))

-- panes that aren't there change nothing
pub none_between : (m : Parts) (p : Part) (a n d : ℕ) → ((k : ℕ) → a + n ≤ k → k < a + n + d → get m k ≡ None)
    → merge p (merged_panes m (from a n)) ≡ merge p (merged_panes m (from a (n + d)))
none_between m p a n zero h = let same : n ≡ n + zero = omega arith in ap (λ k. merge p (merged_panes m (from a k))) same
none_between m p a n (suc d) h =
    let there : a + (n + d) ≡ a + n + d = omega arith in
    let next : n + d + 1 ≡ n + suc d = omega arith in
    let none = ap (get m) there ∙ h (a + n + d) (omega arith) (omega arith) in
    none_between m p a n d (λ k l r. h k l (omega (arith, r)))
    ∙ sym (ap (λ o. merge (merge p (merged_panes m (from a (n + d)))) (or_none o)) none ∙ (merge-empty_right (merge p (merged_panes m (from a (n + d))))))
    ∙ one_merged m p a (n + d) ∙ ap (λ k. merge p (merged_panes m (from a k))) next
