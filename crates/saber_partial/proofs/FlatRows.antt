-- Rows in one list: a row read, written and put in, and rows appended.
use Rattle.std.proofs.Common.{◌≡◌, ℕ, zero, suc, ◌+◌, ◌-◌, ◌*◌, ◌≤◌, ◌<◌, List, [], ◌∷◌, ◌++◌, length, map, take, drop, get_or, append_assoc, append-nil, ℤ, refl, sym, ◌∙◌, ap, ap₂, subst, arith}
use Rattle.std.proofs.lemmas.List.{take_at, drop_at, drop_all, length-take-le, length-drop, length-map, length-append, take_all, drop-drop, take-take, take-append-drop, map-append}
use Rattle.std.proofs.lemmas.List.Edits.{insert-append_right}
use Rattle.std.proofs.lemmas.Slice.{put_mid-paste}
use borrow.Rule.Slice.PartMut.{put_mid}
use Rattle.std.proofs.Math.Seq.{set-append_seam, get_or-append_seam}
use Rattle.std.proofs.Math.ListN.{set}
use Rattle.std.specs.List.{insert, AllByRecursion}
use Rattle.saber_plan.specs.Parts.{Numbers}
use Rattle.saber_plan.specs.Facts.Lists.{all_front, all_back, all_append}
use Rattle.saber_partial.specs.declared.layout.Layout.{Layout}
use Rattle.saber_partial.proofs.Folded.{folds-with, length-with}
use Rattle.saber_partial.proofs.RowNumbers.{behind_few, behind_long, count_there}
use Rattle.saber_partial.specs.Flat.{Table, entry_in, rows_in, entries_in, HasLayout, HaveLayout, IsLayout, IsRow, AreRows}

-- ---- rows

length-rows : (w n : ℕ) (xs : List ℤ) → length (rows_in w n xs) ≡ n
length-rows w zero xs = refl
length-rows w (suc n) xs = ap suc (length-rows w n (drop w xs))

pub length-entries : (l : Layout) (n : ℕ) (xs : List ℤ) → length (entries_in l n xs) ≡ n
length-entries l n xs = length-map (rows_in l.width n xs) (entry_in l) ∙ length-rows l.width n xs

row_within : (w i n : ℕ) → i < n → i * w + w ≤ n * w
row_within w i zero h = absurd (omega (arith, h))
row_within w zero (suc n) h = omega arith
row_within w (suc i) (suc n) h = let low = row_within w i n (omega (arith, h)) in omega (arith, low)

start_within : (w i n : ℕ) → i ≤ n → i * w ≤ n * w
start_within w zero n h = omega arith
start_within w (suc i) zero h = absurd (omega (arith, h))
start_within w (suc i) (suc n) h = let low = start_within w i n (omega (arith, h)) in omega (arith, low)

-- so many rows in two parts
times_both : (w a b n : ℕ) → n ≡ a + b → n * w ≡ a * w + b * w
times_both w a b n h = ap (λ k. k * w) h ∙ (omega arith)

-- entries between others
entry_between : {X : Type 0} (xs : List X) (y : X) (ys : List X) (i : ℕ) (d : X) → length xs ≡ i → get_or (xs ++ y ∷ ys) i d ≡ y
entry_between xs y ys i d h = ap (λ j. get_or (xs ++ y ∷ ys) j d) (sym h) ∙ get_or-append_seam xs y ys d

set_between : {X : Type 0} (xs : List X) (y : X) (ys : List X) (i : ℕ) (z : X) → length xs ≡ i → set (xs ++ y ∷ ys) i z ≡ xs ++ z ∷ ys
set_between xs y ys i z h = ap (λ j. set (xs ++ y ∷ ys) j z) (sym h) ∙ set-append_seam xs y ys z

insert_between : {X : Type 0} (xs ys : List X) (i : ℕ) (z : X) → length xs ≡ i → insert (xs ++ ys) i z ≡ xs ++ z ∷ ys
insert_between xs ys i z h = let none : i - i ≡ 0 = omega arith in insert-append_right xs ys i i z h (omega arith) ∙ ap (λ j. xs ++ insert ys j z) none

-- rows of a list cut at a row
first_rows : (w m n : ℕ) (xs ys : List ℤ) → length xs ≡ m * w → rows_in w (m + n) (xs ++ ys) ≡ rows_in w m xs ++ rows_in w n ys
first_rows w zero n [] ys h = ap (λ k. rows_in w k ys) (omega arith)
first_rows w zero n (x ∷ xs) ys h = absurd (omega (arith, h))
first_rows w (suc m) n xs ys h =
    let low : w ≤ length xs = omega (arith, h) in
    let front = length-take-le w xs low in
    let rest = length-drop w xs in
    let more : suc m + n ≡ suc (m + n) = omega arith in
    let cut : xs ++ ys ≡ take w xs ++ (drop w xs ++ ys) = ap (λ l. l ++ ys) (sym (take-append-drop w xs)) ∙ append_assoc (take w xs) (drop w xs) ys in
    ap (λ k. rows_in w k (xs ++ ys)) more
    ∙ ap₂ (λ (a : List ℤ) (b : List ℤ). a ∷ rows_in w (m + n) b) (ap (take w) cut ∙ take_at (take w xs) (drop w xs ++ ys) w front) (ap (drop w) cut ∙ drop_at (take w xs) (drop w xs ++ ys) w front)
    ∙ ap (λ l. take w xs ∷ l) (first_rows w m n (drop w xs) ys (omega (arith, h, rest)))

-- and around one
around : (w i k n : ℕ) (a b c : List ℤ) → n ≡ i + suc k → length a ≡ i * w → length b ≡ w → rows_in w n (a ++ (b ++ c)) ≡ rows_in w i a ++ (b ∷ rows_in w k c)
around w i k n a b c m h e =
    ap (λ j. rows_in w j (a ++ (b ++ c))) m
    ∙ first_rows w i (suc k) a (b ++ c) h
    ∙ ap₂ (λ (x : List ℤ) (y : List ℤ). rows_in w i a ++ (x ∷ rows_in w k y)) (take_at b c w e) (drop_at b c w e)

-- the entries around one
seen_around : (l : Layout) (i k n : ℕ) (a b c : List ℤ) → n ≡ i + suc k → length a ≡ i * l.width → length b ≡ l.width → entries_in l n (a ++ (b ++ c)) ≡ entries_in l i a ++ (entry_in l b ∷ entries_in l k c)
seen_around l i k n a b c m h e = ap (map (entry_in l)) (around l.width i k n a b c m h e) ∙ map-append (entry_in l) (rows_in l.width i a) (b ∷ rows_in l.width k c)

-- entries appended
pub seen_append : (l : Layout) (m n k : ℕ) (xs ys : List ℤ) → k ≡ m + n → length xs ≡ m * l.width → entries_in l k (xs ++ ys) ≡ entries_in l m xs ++ entries_in l n ys
seen_append l m n k xs ys e h = ap (λ j. entries_in l j (xs ++ ys)) e ∙ ap (map (entry_in l)) (first_rows l.width m n xs ys h) ∙ map-append (entry_in l) (rows_in l.width m xs) (rows_in l.width n ys)

pub rows_append : (l : Layout) (m n k : ℕ) (xs ys : List ℤ) → k ≡ m + n → AreRows l m xs → AreRows l n ys → AreRows l k (xs ++ ys)
rows_append l m n k xs ys e g h = record {
  layout = g.layout;
  long = let a = g.long in let b = h.long in let both = length-append xs ys in let all = times_both l.width m n k e in omega (arith, a, b, both, all);
  each = subst (AllByRecursion (IsRow l)) (sym (ap (λ j. rows_in l.width j (xs ++ ys)) e ∙ first_rows l.width m n xs ys g.long)) (all_append (IsRow l) (rows_in l.width m xs) (rows_in l.width n ys) g.each h.each);
}

one_row : (l : Layout) (r : List ℤ) → length r ≡ l.width → rows_in l.width 1 r ≡ r ∷ []
one_row l r h = ap (λ x. x ∷ []) (ap (λ k. take k r) (sym h) ∙ take_all (length r) r (omega arith))

are_one : (l : Layout) (r : List ℤ) → IsLayout l → IsRow l r → AreRows l 1 r
are_one l r k h = record {
  layout = k;
  long = let a = h.long in omega (arith, a);
  each = subst (AllByRecursion (IsRow l)) (sym (one_row l r h.long)) (h, tt);
}

-- rows cut between two
module _ (l : Layout) (n i : ℕ) (xs : List ℤ) (rows : AreRows l n xs) (low : i ≤ n) where
  pub start_ends : i * l.width ≤ length xs
  start_ends = let a = start_within l.width i n low in let b = rows.long in omega (arith, a, b)

  start_long : length (take (i * l.width) xs) ≡ i * l.width
  start_long = length-take-le (i * l.width) xs start_ends

  halves : rows_in l.width n xs ≡ rows_in l.width i (take (i * l.width) xs) ++ rows_in l.width (n - i) (drop (i * l.width) xs)
  halves = ap (rows_in l.width n) (sym (take-append-drop (i * l.width) xs)) ∙ ap (λ j. rows_in l.width j (take (i * l.width) xs ++ drop (i * l.width) xs)) (omega (arith, low))
      ∙ first_rows l.width i (n - i) (take (i * l.width) xs) (drop (i * l.width) xs) start_long

  pub seen_halves : entries_in l n xs ≡ entries_in l i (take (i * l.width) xs) ++ entries_in l (n - i) (drop (i * l.width) xs)
  seen_halves = ap (map (entry_in l)) halves ∙ map-append (entry_in l) (rows_in l.width i (take (i * l.width) xs)) (rows_in l.width (n - i) (drop (i * l.width) xs))

  pub front_rows : AreRows l i (take (i * l.width) xs)
  front_rows = record {
    layout = rows.layout;
    long = start_long;
    each = all_front (IsRow l) _ _ (subst (AllByRecursion (IsRow l)) halves rows.each);
  }

  pub behind_rows : AreRows l (n - i) (drop (i * l.width) xs)
  behind_rows = record {
    layout = rows.layout;
    long = let a = times_both l.width i (n - i) n (omega (arith, low)) in let b = rows.long in let c = length-drop (i * l.width) xs in omega (arith, a, b, c);
    each = all_back (IsRow l) _ _ (subst (AllByRecursion (IsRow l)) halves rows.each);
  }

  -- the entries up to one
  pub seen_front : entries_in l i (take (i * l.width) xs) ≡ take i (entries_in l n xs)
  seen_front = sym (ap (take i) seen_halves ∙ take_at _ _ i (length-entries l i (take (i * l.width) xs)))

  -- the entries from one on
  pub seen_behind : entries_in l (n - i) (drop (i * l.width) xs) ≡ drop i (entries_in l n xs)
  seen_behind = sym (ap (drop i) seen_halves ∙ drop_at _ _ i (length-entries l i (take (i * l.width) xs)))

  -- a row put in
  pub put_in : (r : List ℤ) → length r ≡ l.width → entries_in l (n + 1) (take (i * l.width) xs ++ (r ++ drop (i * l.width) xs)) ≡ insert (entries_in l n xs) i (entry_in l r)
  put_in r h =
      let e = entry_in l r in
      seen_around l i (n - i) (n + 1) (take (i * l.width) xs) r (drop (i * l.width) xs) (omega (arith, low)) start_long h
      ∙ sym (ap (λ es. insert es i e) seen_halves ∙ insert_between (entries_in l i (take (i * l.width) xs)) (entries_in l (n - i) (drop (i * l.width) xs)) i e (length-entries l i (take (i * l.width) xs)))

  pub rows_put_in : (r : List ℤ) → IsRow l r → AreRows l (n + 1) (take (i * l.width) xs ++ (r ++ drop (i * l.width) xs))
  rows_put_in r h = rows_append l i (suc (n - i)) (n + 1) _ _ (omega (arith, low)) front_rows (rows_append l 1 (n - i) (suc (n - i)) r _ (omega arith) (are_one l r rows.layout h) behind_rows)

-- rows from one up to another
module _ (l : Layout) (n i j : ℕ) (xs : List ℤ) (rows : AreRows l n xs) (order : i ≤ j) (low : j ≤ n) where
  first : i ≤ n
  first = omega (arith, order, low)

  pub range_ends : (i * l.width ≤ j * l.width) × (j * l.width ≤ length xs)
  range_ends = (start_within l.width i j order, start_ends l n j xs rows low)

  range_cut : (d : List ℤ) → d ≡ xs → take (j * l.width - i * l.width) (drop (i * l.width) d) ≡ take ((j - i) * l.width) (drop (i * l.width) xs)
  range_cut d e =
      let both = times_both l.width i (j - i) j (omega (arith, order)) in
      let wide : j * l.width - i * l.width ≡ (j - i) * l.width = omega (arith, both) in
      ap₂ (λ k m. take k (drop (i * l.width) m)) wide e

  pub range_rows : (d : List ℤ) → d ≡ xs → AreRows l (j - i) (take (j * l.width - i * l.width) (drop (i * l.width) d))
  range_rows d e = subst (AreRows l (j - i)) (sym (range_cut d e)) (front_rows l (n - i) (j - i) (drop (i * l.width) xs) (behind_rows l n i xs rows first) (omega (arith, order, low)))

  pub range_seen : (d : List ℤ) → d ≡ xs → entries_in l (j - i) (take (j * l.width - i * l.width) (drop (i * l.width) d)) ≡ take (j - i) (drop i (entries_in l n xs))
  range_seen d e =
      ap (entries_in l (j - i)) (range_cut d e)
      ∙ seen_front l (n - i) (j - i) (drop (i * l.width) xs) (behind_rows l n i xs rows first) (omega (arith, order, low))
      ∙ ap (take (j - i)) (seen_behind l n i xs rows first)

abbrev pub here : Layout → ℕ → List ℤ → List ℤ
here l i xs = take l.width (drop (i * l.width) xs)

-- a row of a list
module _ (l : Layout) (n i : ℕ) (xs : List ℤ) (rows : AreRows l n xs) (low : i < n) where
  pub row_ends : i * l.width + l.width ≤ length xs
  row_ends = let a = row_within l.width i n low in let b = rows.long in omega (arith, a, b)

  here_long : length (here l i xs) ≡ l.width
  here_long = length-take-le l.width (drop (i * l.width) xs) (let a = row_ends in let b = length-drop (i * l.width) xs in omega (arith, a, b))

  cut : drop (i * l.width) xs ≡ here l i xs ++ drop (i * l.width + l.width) xs
  cut = sym (take-append-drop l.width (drop (i * l.width) xs)) ∙ ap (λ r. here l i xs ++ r) (drop-drop l.width (i * l.width) xs)

  seen : entries_in l n xs ≡ entries_in l i (take (i * l.width) xs) ++ (entry_in l (here l i xs) ∷ entries_in l (n - suc i) (drop (i * l.width + l.width) xs))
  seen = ap (entries_in l n) (sym (take-append-drop (i * l.width) xs) ∙ ap (λ r. take (i * l.width) xs ++ r) cut)
      ∙ seen_around l i (n - suc i) n (take (i * l.width) xs) (here l i xs) (drop (i * l.width + l.width) xs) (omega (arith, low)) (front_rows l n i xs rows (omega (arith, low))).long here_long

  -- a row read
  pub row_seen : (d : List ℤ × Numbers) → get_or (entries_in l n xs) i d ≡ entry_in l (here l i xs)
  row_seen d = ap (λ es. get_or es i d) seen ∙ entry_between (entries_in l i (take (i * l.width) xs)) (entry_in l (here l i xs)) _ i d (length-entries l i (take (i * l.width) xs))

  pub row_is : IsRow l (here l i xs)
  row_is =
      let behind = behind_rows l n i xs rows (omega (arith, low)) in
      let left : n - i ≡ suc (n - suc i) = omega (arith, low) in
      let first : rows_in l.width (n - i) (drop (i * l.width) xs) ≡ here l i xs ∷ rows_in l.width (n - suc i) (drop l.width (drop (i * l.width) xs)) = ap (λ k. rows_in l.width k (drop (i * l.width) xs)) left in
      (subst (AllByRecursion (IsRow l)) first behind.each).0

  -- a row written over
  pub written : (r : List ℤ) → length r ≡ l.width → entries_in l n (take (i * l.width) xs ++ (r ++ drop (i * l.width + l.width) xs)) ≡ set (entries_in l n xs) i (entry_in l r)
  written r h =
      seen_around l i (n - suc i) n (take (i * l.width) xs) r (drop (i * l.width + l.width) xs) (omega (arith, low)) (front_rows l n i xs rows (omega (arith, low))).long h
      ∙ sym (ap (λ es. set es i (entry_in l r)) seen ∙ set_between (entries_in l i (take (i * l.width) xs)) (entry_in l (here l i xs)) _ i (entry_in l r) (length-entries l i (take (i * l.width) xs)))

  pub rows_written : (r : List ℤ) → IsRow l r → AreRows l n (take (i * l.width) xs ++ (r ++ drop (i * l.width + l.width) xs))
  rows_written r h =
      let after : suc i * l.width ≡ i * l.width + l.width = omega arith in
      rows_append l i (suc (n - suc i)) n _ _ (omega (arith, low)) (front_rows l n i xs rows (omega (arith, low)))
      (rows_append l 1 (n - suc i) (suc (n - suc i)) r _ (omega arith) (are_one l r rows.layout h)
      (subst (λ k. AreRows l (n - suc i) (drop k xs)) after (behind_rows l n (suc i) xs rows (omega (arith, low)))))

-- ---- a write to a part of a list that is a Vec's

pub put_over : (a w n : ℕ) (xs d ys : List ℤ) → d ≡ xs → length xs ≡ n → a + w ≤ n → length ys ≡ w
    → take n (put_mid a (a + w - a) d ys ++ drop (length (put_mid a (a + w - a) d ys)) xs) ≡ take a xs ++ (ys ++ drop (a + w) xs)
put_over a w n xs d ys e h low long =
    let new : put_mid a (a + w - a) d ys ≡ take a xs ++ (ys ++ drop (a + w) xs) =
    put_mid-paste a (a + w - a) d ys ys w refl (omega arith) (sym long) ∙ append_assoc (take a d) (take w ys) (drop (a + w) d) ∙ ap (λ l. take a l ++ (take w ys ++ drop (a + w) l)) e ∙ ap (λ l. take a xs ++ (l ++ drop (a + w) xs)) (take_all w ys (omega (arith, long))) in
    let front = length-take-le a xs (omega (arith, h, low)) in
    let behind = length-drop (a + w) xs in
    let one = length-append ys (drop (a + w) xs) in
    let both = length-append (take a xs) (ys ++ drop (a + w) xs) in
    ap (λ l. take n (l ++ drop (length l) xs)) new ∙ take_at (take a xs ++ (ys ++ drop (a + w) xs)) _ n (omega (arith, h, low, long, front, behind, one, both))

-- and to what lies behind others
pub put_behind : (a w n : ℕ) (old xs d ys : List ℤ) → take a xs ≡ old → d ≡ xs → length xs ≡ n → n ≡ a + w → length ys ≡ w
    → take n (put_mid a (a + w - a) d ys ++ drop (length (put_mid a (a + w - a) d ys)) xs) ≡ old ++ ys
put_behind a w n old xs d ys t e h m long =
    put_over a w n xs d ys e h (omega (arith, m)) long
    ∙ ap₂ (λ (l : List ℤ) (r : List ℤ). l ++ (ys ++ r)) t (drop_all (a + w) xs (omega (arith, h, m)))
    ∙ ap (λ l. old ++ l) (append-nil ys)

-- a part of a Vec's list is the row there
pub part_here : (w a : ℕ) (d xs : List ℤ) → d ≡ xs → take (a + w - a) (drop a d) ≡ take w (drop a xs)
part_here w a d xs e = let wide : a + w - a ≡ w = omega arith in ap₂ (λ k l. take k (drop a l)) wide e

-- ---- what is shown of a table

pub len_shown : (l : Layout) (n : ℕ) (xs : List ℤ) (t : Table) (i : ℕ) → record { layout = l; entries = entries_in l n xs } ≡ t → i < length t.entries → i < n
len_shown l n xs t i e h = subst (λ k. i < k) (sym (ap (λ (x : Table). length x.entries) e) ∙ length-entries l n xs) h

pub start_shown : (l : Layout) (n : ℕ) (xs : List ℤ) (t : Table) (i : ℕ) → record { layout = l; entries = entries_in l n xs } ≡ t → i ≤ length t.entries → i ≤ n
start_shown l n xs t i e h = subst (λ k. i ≤ k) (sym (ap (λ (x : Table). length x.entries) e) ∙ length-entries l n xs) h

-- each row has its layout
pub row_layout : (l : Layout) (r : List ℤ) → IsLayout l → IsRow l r → HasLayout l (entry_in l r)
row_layout l r k h =
    let there = count_there l r k h in
    let few = behind_few l r k h in
    let wide = behind_long l r k h in
    let many = length-with l.folds (drop (l.keys + 1) r) few in
    record {
      keys = length-take-le l.keys r (omega (arith, there));
      width = omega (arith, wide, many);
      folds = folds-with l.folds (drop (l.keys + 1) r) ∙ ap (λ n. take n l.folds) (sym many);
    }

rows_layout : (l : Layout) (rs : List (List ℤ)) → IsLayout l → AllByRecursion (IsRow l) rs → HaveLayout l (map (entry_in l) rs)
rows_layout l [] k h = tt
rows_layout l (r ∷ rs) k h = (row_layout l r k h.0, rows_layout l rs k h.1)

pub shown_layout : (l : Layout) (n : ℕ) (xs : List ℤ) → AreRows l n xs → HaveLayout l (entries_in l n xs)
shown_layout l n xs rows = rows_layout l (rows_in l.width n xs) rows.layout rows.each

-- a row that was given room
pub put_between : (a w n : ℕ) (xs ms d ys : List ℤ) → d ≡ ms → length ms ≡ n → length ms ≡ length xs + w → a ≤ length xs → length ys ≡ w → take a ms ≡ take a xs → drop (a + w) ms ≡ drop a xs
    → take n (put_mid a (a + w - a) d ys ++ drop (length (put_mid a (a + w - a) d ys)) ms) ≡ take a xs ++ (ys ++ drop a xs)
put_between a w n xs ms d ys e h more low long front behind = put_over a w n ms d ys e h (omega (arith, h, more, low)) long ∙ ap₂ (λ (k : List ℤ) (m : List ℤ). k ++ (ys ++ m)) front behind

-- a row more
pub seen_push : (l : Layout) (n : ℕ) (xs r : List ℤ) → AreRows l n xs → IsRow l r → entries_in l (n + 1) (xs ++ r) ≡ entries_in l n xs ++ entry_in l r ∷ []
seen_push l n xs r rows h = seen_append l n 1 (n + 1) xs r refl rows.long ∙ ap (λ rs. entries_in l n xs ++ map (entry_in l) rs) (one_row l r h.long)

pub rows_push : (l : Layout) (n : ℕ) (xs r : List ℤ) → AreRows l n xs → IsRow l r → AreRows l (n + 1) (xs ++ r)
rows_push l n xs r rows h = rows_append l n 1 (n + 1) xs r refl rows (are_one l r rows.layout h)

-- a part of a Vec's list is the key there
pub key_here : (l : Layout) (i : ℕ) (d xs : List ℤ) → IsLayout l → d ≡ xs → take (i * l.width + l.keys - i * l.width) (drop (i * l.width) d) ≡ (entry_in l (here l i xs)).0
key_here l i d xs h e = let there = h.there in part_here l.keys (i * l.width) d xs e ∙ sym (take-take l.keys l.width (drop (i * l.width) xs) (omega (arith, there)))

-- rows of a table of the same layout
pub alike_rows : (l m : Layout) (n : ℕ) (xs : List ℤ) (s t : Table) → l ≡ s.layout → m ≡ t.layout → s.layout ≡ t.layout → AreRows m n xs → AreRows l n xs
alike_rows l m n xs s t a b c rows = subst (λ k. AreRows k n xs) (b ∙ sym c ∙ sym a) rows
