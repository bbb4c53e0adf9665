-- Rows of numbers: a key, a count, and aggregates.
use Rattle.std.proofs.Common.{◌≡◌, ℕ, ◌+◌, ◌-◌, ◌^◌, ◌≤◌, ◌<◌, List, [], ◌∷◌, ◌++◌, length, map, take, drop, get_or, set, nat_abs, ℤ, pos, negsuc, ◌+ℤ◌, refl, sym, ◌∙◌, ap, ap₂, subst, arith}
use Rattle.std.proofs.lemmas.Int.{ints, to_z_pos}
use Rattle.std.proofs.lemmas.List.{append_assoc, append-nil, drop-set-lt, drop_all, drop_at, drop_more, get_or_at, length-append, length-drop, length-take-le, take-append-drop, take_all, take_at, take_more_set}
use Rattle.std.specs.List.{AllByRecursion}
use mir.Syntax.{w128}
use mir.Val.{of_z, to_z}
use borrow.Rule.Slice.PartMut.{put_mid}
use Rattle.saber_plan.specs.declared.plans.Aggregate.{Aggregate}
use Rattle.saber_plan.specs.Answers.{group_row}
use Rattle.saber_plan.specs.Parts.{Number, Numbers, numbers, join_numbers}
use Rattle.saber_partial.specs.declared.layout.Layout.{Layout}
use Rattle.saber_partial.specs.Gathering.{plan_folds, values_over, stepped_numbers, HasRoom, IsSmall}
use Rattle.saber_partial.specs.Tallies.{IsTally, CanJoin}
use Rattle.saber_partial.specs.Flat.{entry_in, with_folds, IsLayout, IsRow, Suits}
use Rattle.saber_partial.specs.Printing.{joined_row}
use Rattle.saber_partial.proofs.Folded.{length-stepped, length-over, length-folds, folds-with, values-with, with-front, stepped-front, with-stepped, one_row, folds-row, join_is_tally, row_is_tally}

-- ---- writes

-- a list after a write at place k and one of all behind it
abbrev pub after_writes : {X : Type 0} → List X → ℕ → X → List X → List X
after_writes xs k v new = put_mid (k + 1) (length (set xs k v) - (k + 1)) (set xs k v) new

pub written : {X : Type 0} (xs : List X) (k : ℕ) (v : X) (new : List X) → k < length xs → after_writes xs k v new ≡ take k xs ++ (v ∷ new)
written xs k v new h =
    let long = length-drop (k + 1) (set xs k v) in
    let none = drop_all (length (set xs k v) - (k + 1)) (drop (k + 1) (set xs k v)) (omega (arith, long)) in
    ap₂ (λ a b. a ++ (new ++ b)) (take_more_set xs k v h) none
    ∙ ap (λ l. (take k xs ++ (v ∷ [])) ++ l) (append-nil new)
    ∙ append_assoc (take k xs) (v ∷ []) new

-- a write at place k leaves what is behind it
pub behind_write : {X : Type 0} (xs : List X) (k : ℕ) (v : X) → take (length (set xs k v) - (k + 1)) (drop (k + 1) (set xs k v)) ≡ drop (k + 1) xs
behind_write xs k v =
    let long = length-drop (k + 1) (set xs k v) in
    take_all (length (set xs k v) - (k + 1)) (drop (k + 1) (set xs k v)) (omega (arith, long)) ∙ drop-set-lt (k + 1) xs k v (omega arith)

-- a number in 128 bits, and read back
abbrev pub held : ℤ → ℤ
held z = to_z w128 (of_z w128 z)

-- counts fit
count_held : (z : ℤ) → pos (nat_abs z) ≡ z → nat_abs z ≤ 2 ^ 40 → held z ≡ z
count_held (pos n) h k = let small : n < 2 ^ 127 = omega (arith, k) in to_z_pos w128 n small
count_held (negsuc n) h k = absurd (omega (arith, ints, h))

pub sum_held : (x y : ℤ) → pos (nat_abs x) ≡ x → pos (nat_abs y) ≡ y → nat_abs x + nat_abs y ≤ 2 ^ 40
    → held (held x +ℤ held y) ≡ x +ℤ pos (nat_abs y)
sum_held x y h k few =
    ap₂ (λ a b. held (a +ℤ b)) (count_held x h (omega (arith, few))) (count_held y k (omega (arith, few)) ∙ sym k)
    ∙ count_held (x +ℤ pos (nat_abs y)) (omega (arith, ints, h, k, few)) (omega (arith, ints, h, k, few))

-- ---- rows

module _ (l : Layout) (front : List ℤ) (z : ℤ) (behind : List ℤ) (h : length front ≡ l.keys) where
  abbrev there_numbers : Numbers
  there_numbers = record { count = nat_abs z; values = with_folds l.folds behind }

  past_count : drop (l.keys + 1) (front ++ (z ∷ behind)) ≡ behind
  past_count =
      let long = length-append front (z ∷ []) in
      ap (drop (l.keys + 1)) (sym (append_assoc front (z ∷ []) behind)) ∙ drop_at (front ++ (z ∷ [])) behind (l.keys + 1) (omega (arith, h, long))

  pub row_entry : entry_in l (front ++ (z ∷ behind)) ≡ (front, there_numbers)
  row_entry =
      let count = get_or_at front z behind (pos 0) l.keys h in
      λ i. (take_at front (z ∷ behind) l.keys h i, record { count = nat_abs (count i); values = with_folds l.folds (past_count i) })

  pub row_is : l.keys + 1 + length behind ≡ l.width → pos (nat_abs z) ≡ z → IsTally there_numbers → IsRow l (front ++ (z ∷ behind))
  row_is wide count tally =
      let long = length-append front (z ∷ behind) in
      record {
        long = omega (arith, long, h, wide);
        count = subst (λ (x : ℤ). pos (nat_abs x) ≡ x) (sym (get_or_at front z behind (pos 0) l.keys h)) count;
        tally = subst (λ (e : List ℤ × Numbers). IsTally e.1) (sym row_entry) tally;
      }

-- what a row has behind its count
module _ (l : Layout) (xs : List ℤ) (k : IsLayout l) (r : IsRow l xs) where
  pub count_there : l.keys < length xs
  count_there = let a = k.there in let long = r.long in omega (arith, a, long)

  pub behind_long : l.keys + 1 + length (drop (l.keys + 1) xs) ≡ l.width
  behind_long = let low = length-drop (l.keys + 1) xs in let a = k.there in let long = r.long in omega (arith, low, a, long)

  pub behind_few : length (drop (l.keys + 1) xs) ≤ length l.folds
  behind_few = let a = behind_long in let b = k.few in let c = k.long in omega (arith, a, b, c)

  -- a row is its group's row
  pub flat_row : group_row (entry_in l xs).0 (entry_in l xs).1.count (map (λ v. v.value) (entry_in l xs).1.values) ≡ xs
  flat_row =
      ap₂ (λ (z : ℤ) (zs : List ℤ). take l.keys xs ++ (z ∷ zs)) r.count (values-with l.folds (drop (l.keys + 1) xs) behind_few)
      ∙ ap (λ zs. take l.keys xs ++ zs) (sym (drop_more xs l.keys (pos 0) count_there))
      ∙ take-append-drop l.keys xs

-- a row with later numbers joined to its own
module _ (l : Layout) (xs ys : List ℤ) (n : ℕ) (k : IsLayout l) (r : IsRow l xs) (e : length (drop (l.keys + 1) xs) ≡ length ys)
    (t : IsTally (record { count = n; values = with_folds l.folds ys })) (c : CanJoin (entry_in l xs).1 (record { count = n; values = with_folds l.folds ys })) where
  abbrev later : Numbers
  later = record { count = n; values = with_folds l.folds ys }

  abbrev pub joined_behind_count : List ℤ
  joined_behind_count = stepped_numbers l.folds (drop (l.keys + 1) xs) ys

  abbrev count : ℤ
  count = get_or xs l.keys (pos 0)

  joined_wide : l.keys + 1 + length joined_behind_count ≡ l.width
  joined_wide =
      let a = behind_long l xs k r in
      let same = length-stepped l.folds (drop (l.keys + 1) xs) ys (behind_few l xs k r) e in
      omega (arith, a, same)

  new_count : nat_abs (count +ℤ pos n) ≡ nat_abs count + n
  new_count = let h = r.count in omega (arith, ints, h)

  seen : record { count = nat_abs (count +ℤ pos n); values = with_folds l.folds joined_behind_count } ≡ join_numbers (entry_in l xs).1 later
  seen = λ i. record { count = new_count i; values = with-stepped l.folds (drop (l.keys + 1) xs) ys i }

  abbrev pub joined : List ℤ
  joined = take l.keys xs ++ ((count +ℤ pos n) ∷ joined_behind_count)

  front : length (take l.keys xs) ≡ l.keys
  front = let a = count_there l xs k r in length-take-le l.keys xs (omega (arith, a))

  pub joined_entry : entry_in l joined ≡ (take l.keys xs, join_numbers (entry_in l xs).1 later)
  joined_entry = row_entry l (take l.keys xs) (count +ℤ pos n) joined_behind_count front ∙ ap (λ (n : Numbers). (take l.keys xs, n)) seen

  pub joined_is_row : IsRow l joined
  joined_is_row =
      let h = r.count in
      row_is l (take l.keys xs) (count +ℤ pos n) joined_behind_count front joined_wide (omega (arith, ints, h))
      (subst IsTally (sym seen) (join_is_tally (entry_in l xs).1 later r.tally t c))

  -- by a write of the count, and one behind it
  module _ (v : ℤ) (new : List ℤ) (f : v ≡ count +ℤ pos n) (g : new ≡ joined_behind_count) where
    joined_written : after_writes xs l.keys v new ≡ joined
    joined_written = written xs l.keys v new (count_there l xs k r) ∙ ap₂ (λ x zs. take l.keys xs ++ (x ∷ zs)) f g

    pub row_after : IsRow l (after_writes xs l.keys v new)
    row_after = subst (IsRow l) (sym joined_written) joined_is_row

    pub entry_after : entry_in l (after_writes xs l.keys v new) ≡ (take l.keys xs, join_numbers (entry_in l xs).1 later)
    entry_after = ap (entry_in l) joined_written ∙ joined_entry

-- two rows of one layout joined
module _ (l : Layout) (xs ys : List ℤ) (k : IsLayout l) (r : IsRow l xs) (s : IsRow l ys) (c : CanJoin (entry_in l xs).1 (entry_in l ys).1) where
  pub as_long : length (drop (l.keys + 1) xs) ≡ length (drop (l.keys + 1) ys)
  as_long = let a = behind_long l xs k r in let b = behind_long l ys k s in omega (arith, a, b)

  count_is : joined_row l xs ys ≡ take l.keys xs ++ ((get_or xs l.keys (pos 0) +ℤ pos (nat_abs (get_or ys l.keys (pos 0)))) ∷ stepped_numbers l.folds (drop (l.keys + 1) xs) (drop (l.keys + 1) ys))
  count_is = ap (λ z. take l.keys xs ++ ((get_or xs l.keys (pos 0) +ℤ z) ∷ stepped_numbers l.folds (drop (l.keys + 1) xs) (drop (l.keys + 1) ys))) (sym s.count)

  pub both_entry : entry_in l (joined_row l xs ys) ≡ ((entry_in l xs).0, join_numbers (entry_in l xs).1 (entry_in l ys).1)
  both_entry = ap (entry_in l) count_is ∙ joined_entry l xs (drop (l.keys + 1) ys) (nat_abs (get_or ys l.keys (pos 0))) k r as_long s.tally c

  pub both_is_row : IsRow l (joined_row l xs ys)
  both_is_row = subst (IsRow l) (sym count_is) (joined_is_row l xs (drop (l.keys + 1) ys) (nat_abs (get_or ys l.keys (pos 0))) k r as_long s.tally c)

-- a row that one more row of a plan can be joined to goes on as the plan's aggregates
module _ (l : Layout) (xs : List ℤ) (gs : List Aggregate) (zs : List ℤ) (k : IsLayout l) (r : IsRow l xs) (c : CanJoin (entry_in l xs).1 (numbers gs (zs ∷ []))) where
  folds_there : take (length (drop (l.keys + 1) xs)) l.folds ≡ plan_folds gs
  folds_there = sym (folds-with l.folds (drop (l.keys + 1) xs)) ∙ c.folds ∙ folds-row gs (zs ∷ [])

  pub behind_many : length (drop (l.keys + 1) xs) ≡ length gs
  behind_many =
      sym (length-take-le (length (drop (l.keys + 1) xs)) l.folds (behind_few l xs k r)) ∙ ap length folds_there ∙ length-folds gs

  pub folds_are : take (length gs) l.folds ≡ plan_folds gs
  folds_are = ap (λ n. take n l.folds) (sym behind_many) ∙ folds_there

  pub plan_room : AllByRecursion HasRoom (entry_in l xs).1.values → AllByRecursion HasRoom (with_folds (plan_folds gs) (drop (l.keys + 1) xs))
  plan_room room =
      let many = behind_many in
      subst (AllByRecursion HasRoom)
      (sym (ap (λ fs. with_folds fs (drop (l.keys + 1) xs)) (sym folds_are) ∙ with-front (length gs) l.folds (drop (l.keys + 1) xs) (omega (arith, many)))) room

-- aggregates of a layout that suits them
module _ (l : Layout) (gs : List Aggregate) (zs : List ℤ) (e : take (length gs) l.folds ≡ plan_folds gs) where
  values_few : length (values_over zs gs) ≤ length gs
  values_few = let a = length-over zs gs in omega (arith, a)

  pub plan_with : with_folds (plan_folds gs) (values_over zs gs) ≡ with_folds l.folds (values_over zs gs)
  plan_with = ap (λ fs. with_folds fs (values_over zs gs)) (sym e) ∙ with-front (length gs) l.folds (values_over zs gs) values_few

  pub plan_numbers : numbers gs (zs ∷ []) ≡ record { count = 1; values = with_folds l.folds (values_over zs gs) }
  plan_numbers = one_row gs zs ∙ ap (λ (vs : List Number). record { count = 1; values = vs }) plan_with

  pub plan_stepped : (xs : List ℤ) → length xs ≤ length gs → stepped_numbers (plan_folds gs) xs (values_over zs gs) ≡ stepped_numbers l.folds xs (values_over zs gs)
  plan_stepped xs h = ap (λ fs. stepped_numbers fs xs (values_over zs gs)) (sym e) ∙ stepped-front (length gs) l.folds xs (values_over zs gs) h

  pub plan_tally : AllByRecursion IsSmall (with_folds (plan_folds gs) (values_over zs gs)) → IsTally (record { count = 1; values = with_folds l.folds (values_over zs gs) })
  plan_tally small = row_is_tally l.folds (values_over zs gs) (subst (AllByRecursion IsSmall) plan_with small)

-- the row of one row's values
module _ (l : Layout) (key : List ℤ) (gs : List Aggregate) (zs : List ℤ) (s : Suits l (length key) gs) where
  first_wide : l.keys + 1 + length (values_over zs gs) ≡ l.width
  first_wide = let a = length-over zs gs in let keys = s.keys in let width = s.width in omega (arith, a, keys, width)

  pub first_entry : entry_in l (key ++ (pos 1 ∷ values_over zs gs)) ≡ (key, numbers gs (zs ∷ []))
  first_entry = row_entry l key (pos 1) (values_over zs gs) (sym s.keys) ∙ ap (λ (n : Numbers). (key, n)) (sym (plan_numbers l gs zs s.folds))

  pub first_is_row : AllByRecursion IsSmall (with_folds (plan_folds gs) (values_over zs gs)) → IsRow l (key ++ (pos 1 ∷ values_over zs gs))
  first_is_row small = row_is l key (pos 1) (values_over zs gs) (sym s.keys) first_wide refl (plan_tally l gs zs s.folds small)

  -- written in two parts, of which the later begins with the count
  pub first_written : (start behind new : List ℤ) → 0 < length behind → start ≡ key → new ≡ values_over zs gs
      → start ++ after_writes behind 0 (pos 1) new ≡ key ++ (pos 1 ∷ values_over zs gs)
  first_written start behind new there e f = ap₂ (λ a b. a ++ b) e (written behind 0 (pos 1) new there ∙ ap (λ a. pos 1 ∷ a) f)
