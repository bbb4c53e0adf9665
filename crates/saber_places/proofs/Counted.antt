-- Rows counted by their key lists.
use Rattle.std.proofs.Common.{◌≡◌, ◌≤◌, ◌<◌, ◌+◌, ◌^◌, ℕ, zero, suc, List, [], ◌∷◌, ◌++◌, length, filter, take, drop, get_or, slice_get, ℤ, Bool, true, false, cond, Option, Some, refl, sym, ◌∙◌, ap, arith, length-append, append_assoc, append-nil}
use Rattle.std.proofs.lemmas.List.{take_more, drop_more, drop_all}
use Rattle.std.proofs.lemmas.Option.{get_or_from_slice_get}
use Rattle.std.proofs.lemmas.List.Elements.{filter-append}
use Rattle.std.specs.Ordering.{eq_by_cmp}
use Rattle.std.specs.FinMap.{insert}
use Rattle.saber_plan.specs.declared.rows.Row.{Row}
use Rattle.saber_plan.specs.declared.rows.Side.{Side}
use Rattle.saber_plan.specs.declared.rows.Side.TheVariants.{Left, Right}
use Rattle.saber_plan.specs.declared.windows.Mark.{Mark}
use Rattle.saber_plan.specs.declared.windows.Stream.{Stream}
use Rattle.saber_plan.specs.Trees.{Tree}
use Rattle.saber_plan.specs.declared.plans.Shape.{Shape}
use Rattle.saber_plan.specs.declared.plans.Shape.TheVariants.{Select, Group, Join}
use Rattle.saber_plan.specs.declared.plans.Word.{Word}
use Rattle.saber_plan.specs.Checked.{IsChecked, PartitionFits}
use Rattle.saber_plan.specs.GivenRows.{IsRowOf, RowsFit}
use Rattle.saber_plan.specs.Windows.{by_side, step_mark, mark_after, no_rows}
use Rattle.saber_plan.specs.Facts.Lists.{all_at, all_back}
use Rattle.saber_plan.specs.Answers.{key_cmp, key, list_of, substream}
use Rattle.saber_plan.specs.Tasks.{places_after}
use Rattle.saber_places.specs.declared.places.Places.{Places}
use Rattle.saber_places.specs.Counts.{Tallies, count_of}
use Rattle.saber_places.specs.Numbering.{by_list}
use Rattle.saber_places.specs.Counting.{Counts, places_behind}
use Rattle.saber_places.proofs.Numbering.{same_list}
use Rattle.saber_places.proofs.Tallied.{counted_at, count_none}

-- ---- how many rows there are

filter_few : {A : Type 0} (p : A → Bool) (xs : List A) → length (filter p xs) ≤ length xs
filter_few p [] = omega arith
filter_few p (x ∷ xs) = elim (p x) as (λ b. length (cond b (x ∷ filter p xs) (filter p xs)) ≤ length (x ∷ xs)) [
  | true ↦ (let h = filter_few p xs in omega (arith, h))
  | false ↦ (let h = filter_few p xs in omega (arith, h))
]

pub all_counted : (m : Mark) (xs : List Row) → (mark_after m xs).left + (mark_after m xs).right ≡ m.left + m.right + length xs
all_counted m [] = omega arith
all_counted m (x ∷ xs) = omega (arith, all_counted (step_mark m x) xs, by_case x.side) where
  by_case : (s : Side) → by_side s (m.left + 1) m.left + by_side s m.right (m.right + 1) ≡ m.left + m.right + 1
  by_case Left = omega arith
  by_case Right = omega arith

-- ---- one row more

one_kept : (b : Bool) (x : Row) (n : ℕ) → n + length (cond b (x ∷ []) []) ≡ cond b (n + 1) n
one_kept true x n = refl
one_kept false x n = omega arith

substream_more : (q : Tree) (k : List ℤ) (xs : List Row) (r : Row) → length (substream q k (xs ++ r ∷ [])) ≡ cond (eq_by_cmp key_cmp k (list_of q r)) (length (substream q k xs) + 1) (length (substream q k xs))
substream_more q k xs r =
    ap length (filter-append (λ x. eq_by_cmp key_cmp k (list_of q x)) xs (r ∷ []))
    ∙ length-append (substream q k xs) (substream q k (r ∷ []))
    ∙ one_kept (eq_by_cmp key_cmp k (list_of q r)) r (length (substream q k xs))

module _ (q : Tree) (xs : List Row) (p : Places) (r : Row) (c : Counts q xs p) where
  abbrev m : Tallies
  m = by_list p.known p.counts.items

  module _ (at : List ℤ) (is : at ≡ key p.columns.items r.values) where
    key_is : at ≡ list_of q r
    key_is = is ∙ ap (λ cs. key cs r.values) c.columns

    pub stands_at : count_of m at ≡ length (substream q (list_of q r) xs)
    stands_at = ap (count_of m) key_is ∙ c.count (list_of q r)

    pub is_small : length xs < 2 ^ 63 → count_of m at < 2 ^ 63
    is_small h = let few = filter_few (λ x. eq_by_cmp key_cmp (list_of q r) (list_of q x)) xs in omega (arith, few, stands_at, h)

    case_of : (b : Bool) (k : List ℤ) → eq_by_cmp key_cmp k (list_of q r) ≡ b → cond b (count_of m at + 1) (count_of m k) ≡ cond b (length (substream q k xs) + 1) (length (substream q k xs))
    case_of true k t = ap (λ n. n + 1) (stands_at ∙ ap (λ l. length (substream q l xs)) (sym (same_list k (list_of q r) t)))
    case_of false k t = c.count k

    pub counts_more : (new : Places) → new.columns.items ≡ p.columns.items → by_list new.known new.counts.items ≡ insert m at (count_of m at + 1) → length new.counts.items ≡ length new.known → Counts q (xs ++ r ∷ []) new
    counts_more new cs e long = record {
      columns = cs ∙ c.columns;
      some = c.some;
      few = c.few;
      one = c.one;
      there = c.there;
      long = long;
      count = λ k.
          ap (λ t. count_of t k) e
          ∙ counted_at m at k (count_of m at + 1)
          ∙ ap (λ b. cond b (count_of m at + 1) (count_of m k)) (ap (eq_by_cmp key_cmp k) key_is)
          ∙ case_of (eq_by_cmp key_cmp k (list_of q r)) k refl
          ∙ sym (substream_more q k xs r);
    }

-- ---- rows one after another

-- PARTITION BY stands in a query of one stream
pub one_stream : (ks : List ℕ) (shape : Shape) (ss : List Stream) (word : Option Word) → PartitionFits ks shape ss word → 1 ≤ length ks → length ss ≡ 1
one_stream [] shape ss word f h = absurd (omega (arith, h))
one_stream (k ∷ ks) Group (s ∷ []) word f h = refl
one_stream (k ∷ ks) Group [] word f h = absurd f
one_stream (k ∷ ks) Group (s ∷ t ∷ ts) word f h = absurd f
one_stream (k ∷ ks) Select ss word f h = absurd f
one_stream (k ∷ ks) Join ss word f h = absurd f

-- nothing is counted yet
pub counts_nothing : (q : Tree) (p : Places) → IsChecked q → p.columns.items ≡ q.partition → p.known ≡ [] → p.counts.items ≡ [] → 1 ≤ length q.partition → Counts q [] p
counts_nothing q p c is none zeros some = record {
  columns = is;
  some = some;
  few = c.few_lists;
  one = one_stream q.partition q.shape q.streams q.word c.partition some;
  there = c.lists;
  long = ap length zeros ∙ sym (ap length none);
  count = λ k. ap (λ ls. count_of (by_list ls p.counts.items) k) none ∙ count_none k [] p.counts.items refl;
}

pub all_few : (q : Tree) (xs : List Row) → RowsFit q no_rows xs → length xs < 2 ^ 63
all_few q xs f = omega (arith, all_counted no_rows xs, f.left, f.right)

module _ (xs rows : List Row) (i : ℕ) (x : Row) (less : i < length rows) (is : Some x ≡ slice_get rows i) where
  here : x ≡ get_or rows i x
  here = sym (get_or_from_slice_get rows i x x (sym is))

  pub taken_more : (xs ++ take i rows) ++ x ∷ [] ≡ xs ++ take (i + 1) rows
  taken_more = append_assoc xs (take i rows) (x ∷ []) ∙ ap (λ l. xs ++ l) (ap (λ y. take i rows ++ y ∷ []) here ∙ sym (take_more rows i x less))

  pub places_more : (q : Tree) → places_after q (xs ++ take i rows) (drop i rows) ≡ length (substream q (list_of q x) (xs ++ take i rows)) ∷ places_after q (xs ++ take (i + 1) rows) (drop (i + 1) rows)
  unfolding places_after
  places_more q =
      ap (places_after q (xs ++ take i rows)) (drop_more rows i x less ∙ ap (λ y. y ∷ drop (i + 1) rows) (sym here))
      ∙ ap (λ l. length (substream q (list_of q x) (xs ++ take i rows)) ∷ places_after q l (drop (i + 1) rows)) taken_more

  -- the next row fits, and there are few before it
  pub next_fits : (q : Tree) → RowsFit q no_rows (xs ++ rows) → IsRowOf q x × (length (xs ++ take i rows) < 2 ^ 63)
  next_fits q f = (
    all_at (IsRowOf q) rows i x less here (all_back (IsRowOf q) xs rows f.rows),
    (let few = all_few q (xs ++ rows) f in omega (arith, few, length-append xs rows, length-append xs (take i rows), length-take-few i rows)),
  ) where
    length-take-few : (n : ℕ) (l : List Row) → length (take n l) ≤ length l
    length-take-few zero l = omega arith
    length-take-few (suc n) [] = omega arith
    length-take-few (suc n) (y ∷ l) = (let h = length-take-few n l in omega (arith, h))

-- the places of rows without any
pub last_places : (q : Tree) (xs rows : List Row) (i : ℕ) (ps : List ℕ) → length rows ≤ i → ps ++ places_after q (xs ++ take i rows) (drop i rows) ≡ places_after q xs rows → ps ≡ places_after q xs rows
unfolding places_after
last_places q xs rows i ps far h = sym (append-nil ps) ∙ ap (λ l. ps ++ places_after q (xs ++ take i rows) l) (sym (drop_all i rows far)) ∙ h

pub placed_by : (q : Tree) (ks : List ℕ) (xs rows : List Row) → 1 ≤ length ks → places_after q xs rows ≡ places_behind q ks xs rows
placed_by q [] xs rows h = absurd (omega (arith, h))
placed_by q (k ∷ ks) xs rows h = refl
