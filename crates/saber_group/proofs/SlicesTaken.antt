-- Slices that are taken in, one after another, behind the rows of earlier tasks.
use Rattle.std.proofs.Common.{◌≡◌, ℕ, suc, ◌+◌, ◌-◌, ◌^◌, ◌≤◌, ◌<◌, List, [], ◌∷◌, ◌++◌, filter, map, length, max, take, sym, ◌∙◌, ap, subst, append-nil, arith}
use Rattle.std.proofs.lemmas.List.{map-append, take_all}
use Rattle.std.proofs.lemmas.List.Elements.{filter-append}
use Rattle.std.specs.List.{AllByRecursion}
use Rattle.saber_plan.specs.declared.rows.Row.{Row}
use Rattle.saber_plan.specs.declared.windows.Mark.{Mark}
use Rattle.saber_plan.specs.Trees.{Tree}
use Rattle.saber_plan.specs.Values.{passes}
use Rattle.saber_plan.specs.GivenRows.{RowsFit}
use Rattle.saber_plan.specs.Windows.{Placed, mark_after, placed_after, has, begun_count, closed_count}
use Rattle.saber_plan.specs.Answers.{frame, passing_values}
use Rattle.saber_plan.specs.Parts.{Part, group_part, merge}
use Rattle.saber_plan.specs.Facts.Rows.{mark-append, placed-append, few_rows}
use Rattle.saber_laws.specs.Plans.{OneWindow}
use Rattle.saber_partial.specs.PartLaws.{OfRows}
use Rattle.saber_group.specs.SliceParts.{part_of, begun_by, closed_by, IsSlice, Holds, Settled}
use Rattle.saber_sliding.specs.Entries.{Entries, CanFollow, Entered}
use Rattle.saber_group.specs.declared.slices.Slice.{Slice}
use Rattle.saber_group.specs.SlicePieces.{SlicesTo}
use Rattle.saber_group.specs.SliceStores.{SlicesAt, GoesOn}
use Rattle.saber_group.proofs.Opened.{has_room, holds_more}
use Rattle.saber_laws.proofs.PartLaws.{groups_join, merge_is_associative}

-- ---- rows behind others

pub take_behind : (old rows : List Row) (x : ℕ) → take (length old + x) (old ++ rows) ≡ old ++ take x rows
take_behind [] rows x = let none : length {A = Row} [] + x ≡ x = omega arith in ap (λ k. take k rows) none
take_behind (y ∷ old) rows x = let more : length (y ∷ old) + x ≡ suc (length old + x) = omega arith in ap (λ k. take k (y ∷ (old ++ rows))) more ∙ ap (λ l. y ∷ l) (take_behind old rows x)

pub long_both : (old rows : List Row) → length (old ++ rows) ≡ length old + length rows
long_both [] rows = omega arith
long_both (y ∷ old) rows = let rest = long_both old rows in omega (arith, rest)

module _ (q : Tree) (m : Mark) (old rows : List Row) where
  abbrev mark : Mark
  mark = mark_after m old

  passing-append : (us vs : List Placed) → passing_values q (us ++ vs) ≡ passing_values q us ++ passing_values q vs
  passing-append us vs = ap (filter (λ zs. passes q.predicate zs [])) (map-append (λ x. x.row.values) us vs) ∙ filter-append (λ zs. passes q.predicate zs []) (map (λ x. x.row.values) us) (map (λ x. x.row.values) vs)

  -- a window's part is that of the old rows and that of the new ones
  pub part_behind : (i : ℕ) (xs : List Row) → part_of q i m (old ++ xs) ≡ merge (part_of q i m old) (part_of q i mark xs)
  part_behind i xs =
      ap (λ l. group_part q (passing_values q (filter (has (frame q) i) l))) (placed-append m old xs)
      ∙ ap (λ l. group_part q (passing_values q l)) (filter-append (has (frame q) i) (placed_after m old) (placed_after mark xs))
      ∙ ap (group_part q) (passing-append (filter (has (frame q) i) (placed_after m old)) (filter (has (frame q) i) (placed_after mark xs)))
      ∙ groups_join q (passing_values q (filter (has (frame q) i) (placed_after m old))) (passing_values q (filter (has (frame q) i) (placed_after mark xs)))

  pub part_cut : (i x : ℕ) → part_of q i m (take (length old + x) (old ++ rows)) ≡ merge (part_of q i m old) (part_of q i mark (take x rows))
  part_cut i x = ap (part_of q i m) (take_behind old rows x) ∙ part_behind i (take x rows)

  begun_cut : (x : ℕ) → begun_by q m (take (length old + x) (old ++ rows)) ≡ begun_by q mark (take x rows)
  begun_cut x = ap (begun_by q m) (take_behind old rows x) ∙ ap (begun_count (frame q)) (mark-append m old (take x rows))

  closed_cut : (x : ℕ) → closed_by q m (take (length old + x) (old ++ rows)) ≡ closed_by q mark (take x rows)
  closed_cut x = ap (closed_by q m) (take_behind old rows x) ∙ ap (closed_count (frame q)) (mark-append m old (take x rows))

  -- a slice of the new rows is one of all
  pub slice_behind : (x y first past : ℕ) (p : Part) → IsSlice q mark rows x y first past p → IsSlice q m (old ++ rows) (length old + x) (length old + y) first past p
  slice_behind x y first past p slice =
      let same : y - x ≡ (length old + y) - (length old + x) = omega arith in
      record {
        inside = λ i l h. part_cut i y ∙ ap (merge (part_of q i m old)) (slice.inside i l h) ∙ sym (merge_is_associative (part_of q i m old) (part_of q i mark (take x rows)) p) ∙ ap (λ a. merge a p) (sym (part_cut i x));
        behind = λ i l h. part_cut i y ∙ ap (merge (part_of q i m old)) (slice.behind i l h) ∙ sym (part_cut i x);
        below = λ i h. part_cut i x ∙ ap (merge (part_of q i m old)) (slice.below i h) ∙ sym (part_behind i rows);
        before = λ i h. part_cut i y ∙ ap (merge (part_of q i m old)) (slice.before i h) ∙ sym (part_cut i x);
        few = subst (λ n. OfRows q n p) same slice.few;
        order = slice.order;
        closes = subst (λ n. first ≤ n) (sym (closed_cut y)) slice.closes;
        begins = subst (λ n. n ≤ past) (sym (begun_cut x)) slice.begins;
        ends = subst (λ n. past ≤ n) (sym (begun_cut y)) slice.ends;
      }

  -- ---- the slices of the new rows, as slices of all

  pub lifted : (x : ℕ) (rs : List Slice) (y : ℕ) → SlicesTo q mark rows x rs y → SlicesAt q m (old ++ rows) (length old) x rs y
  lifted x [] y h = h
  lifted x (r ∷ rs) y h =
      let within = h.1.1.0 in
      let long = long_both old rows in
      (slice_behind x r.end r.first r.past r.part h.0, (h.1.0, (omega (arith, within, long), lifted r.end rs y h.1.1.1)))

  -- windows that get nothing more from the new rows get nothing more of all
  pub settled_all : (x n : ℕ) → Settled q mark (take x rows) rows n → Settled q m (take (length old + x) (old ++ rows)) (old ++ rows) n
  settled_all x n h = λ i l. part_cut i x ∙ ap (merge (part_of q i m old)) (h i l) ∙ sym (part_behind i rows)

  all_rows : take (length old + length rows) (old ++ rows) ≡ old ++ rows
  all_rows = let long = long_both old rows in take_all (length old + length rows) (old ++ rows) (omega (arith, long))

  pub no_more : (n : ℕ) → Settled q m (take (length old + length rows) (old ++ rows)) (old ++ rows) n
  no_more n = λ i l. ap (part_of q i m) all_rows

  pub no_row : take (length old + 0) (old ++ rows) ≡ old
  no_row = take_behind old rows 0 ∙ append-nil old

-- ---- slices that are taken in, one after another

-- the slices up to position x are in, the others are left
pub record Along (q : Tree) (m : Mark) (all : List Row) (o y start next : ℕ) (es : Entries) (left : List Slice) (closed : ℕ) : Type 0 where
  pub x : ℕ
  pub holds : Holds q m (take (o + x) all) next es
  pub low : start ≤ next
  pub high : next ≤ closed
  pub left_are : SlicesAt q m all o x left y
  pub firsts : AllByRecursion (λ (r : Slice). r.first ≤ closed) left

pub along_nil : (q : Tree) (m : Mark) (all : List Row) (o x y start : ℕ) (es : Entries) (left : List Slice) (closed : ℕ) → GoesOn q m all o x y start es left closed → Along q m all o y start start es left closed
along_nil q m all o x y start es left closed g = record {
  x = x;
  holds = g.holds;
  low = omega arith;
  high = g.low;
  left_are = g.slices_are;
  firsts = g.firsts;
}

module _ (q : Tree) (w : OneWindow q) (m : Mark) (all : List Row) (o y start next : ℕ) (es : Entries) (slice : Slice) (left : List Slice) (closed : ℕ) (given : RowsFit q m all) (a : Along q m all o y start next es (slice ∷ left) closed) where
  low_end : o + a.x ≤ o + slice.end
  low_end = let more = a.left_are.1.0 in omega (arith, more)

  few : length all ≤ 2 ^ 40
  few = few_rows q w.stream w.streams m all given

  -- the windows before its first have no more rows
  pub along_below : (i : ℕ) → i < slice.first → part_of q i m (take (o + a.x) all) ≡ part_of q i m all
  along_below = a.left_are.0.below

  pub along_can : (later : ℕ) (fs : Entries) → Holds q m (take (o + a.x) all) later fs → CanFollow slice.part fs
  along_can later fs contents =
      has_room q m all (o + a.x) (o + slice.end) slice.first slice.past slice.part a.left_are.0 later fs contents low_end a.left_are.1.1.0 few

  pub along_more : (later new : ℕ) (fs gs : Entries) → later ≡ max next slice.first → new ≡ later → Holds q m (take (o + a.x) all) later fs → Entered fs slice.past slice.part gs → Along q m all o y start new gs left closed
  along_more later new fs gs most same contents entered =
      let up = a.low in
      let high = a.high in
      let first = a.firsts.0 in
      record {
        x = slice.end;
        holds = holds_more q m all (o + a.x) (o + slice.end) slice.first slice.past slice.part a.left_are.0 later fs contents gs new same (omega (arith, most)) low_end a.left_are.1.1.0 few entered;
        low = omega (arith, up, most, same);
        high = omega (arith, high, first, most, same);
        left_are = a.left_are.1.1.1;
        firsts = a.firsts.1;
      }

module _ (q : Tree) (m : Mark) (all : List Row) (o y start next : ℕ) (es : Entries) (closed : ℕ) (a : Along q m all o y start next es [] closed) where
  pub along_holds : Holds q m (take (o + y) all) next es
  along_holds = subst (λ z. Holds q m (take (o + z) all) next es) a.left_are a.holds

  -- once none is left, the windows below `closed` are done, and no other
  pub along_done : (new : ℕ) → new ≡ max next closed → new ≡ closed
  along_done new most = let high = a.high in omega (arith, high, most)
