-- Facts on places: what stands at them, and that they are among the first so many numbers.
use Rattle.std.proofs.Common.{◌≡◌, ℕ, ℤ, ◌+◌, ◌-◌, ◌≤◌, List, [], ◌∷◌, ◌++◌, map, length, take, drop, slice_range, refl, sym, ◌∙◌, ap, subst, arith, length-append, take-append-drop}
use Rattle.std.proofs.lemmas.List.{map-append, take_at, drop_at, take_all, drop-append-le}
use Rattle.std.proofs.Math.Seq.{drop-append-add}
use Rattle.saber_plan.specs.Facts.Lists.{slice-take, all_weaker, all_front, all_append}
use Rattle.saber_plan.specs.declared.rows.Row.{Row}
use Rattle.saber_flat.specs.declared.rows.Place.{Place}
use Rattle.saber_flat.specs.Places.{row_at, rows_at, IsBelow, AreBelow, Building, with_number, with_row, closed_by}

-- rows among the first so many numbers hang on those alone
pub rows-take : (xs : List ℤ) (n : ℕ) (ps : List Place) → AreBelow n ps → rows_at (take n xs) ps ≡ rows_at xs ps
rows-take xs n [] h = refl
rows-take xs n (p ∷ ps) h = λ i. record { side = p.side; values = slice-take xs p.start p.end n h.0.rises h.0.within i } ∷ rows-take xs n ps h.1 i

pub more_below : (m n : ℕ) (ps : List Place) → n ≤ m → AreBelow n ps → AreBelow m ps
more_below m n ps l = all_weaker (IsBelow n) (IsBelow m) (λ p b. record { rises = b.rises; within = omega arith }) ps

-- numbers behind the others change no row
pub rows-append : (xs ys : List ℤ) (n : ℕ) (ps : List Place) → n ≤ length xs → AreBelow n ps → rows_at (xs ++ ys) ps ≡ rows_at xs ps
rows-append xs ys n ps l h =
    sym (rows-take (xs ++ ys) (length xs) ps (more_below (length xs) n ps l h))
    ∙ ap (λ zs. rows_at zs ps) (take_at xs ys (length xs) refl)

slice-behind : (xs ys : List ℤ) → slice_range (xs ++ ys) (length xs) (length (xs ++ ys)) ≡ ys
slice-behind xs ys = ap (take (length (xs ++ ys) - length xs)) (drop_at xs ys (length xs) refl) ∙ take_all (length (xs ++ ys) - length xs) ys (omega (arith, length-append xs ys))

-- a row of the numbers that come behind the others
module _ (xs now : List ℤ) (row : Row) (ps more : List Place) (p : Place) (below : AreBelow (length xs) ps)
    (numbers : now ≡ xs ++ row.values) (side : p.side ≡ row.side) (start : p.start ≡ length xs) (end : p.end ≡ length now) (places : more ≡ ps ++ p ∷ []) where
  longer : length xs ≤ length now
  longer = omega (arith, length-append xs row.values, ap length numbers)

  its_row : row_at now p ≡ row
  its_row =
      (λ i. record { side = side i; values = slice_range (numbers i) (start i) ((end ∙ ap length numbers) i) })
      ∙ (λ i. record { side = row.side; values = slice-behind xs row.values i })

  pub pushed_rows : rows_at now more ≡ rows_at xs ps ++ row ∷ []
  pushed_rows =
      ap (rows_at now) places ∙ map-append (row_at now) ps (p ∷ [])
      ∙ (λ i. rows_at (numbers i) ps ++ its_row i ∷ [])
      ∙ ap (λ rs. rs ++ row ∷ []) (rows-append xs row.values (length xs) ps (omega arith) below)

  pub pushed_below : AreBelow (length now) more
  pushed_below = subst (AreBelow (length now)) (sym places)
      (all_append (IsBelow (length now)) ps (p ∷ []) (more_below (length now) (length xs) ps longer below)
      (record { rises = omega (arith, longer, start, end); within = omega (arith, end) }, tt))

-- the same place among numbers that come behind so many others
abbrev pub moved : ℕ → Place → Place
moved n p = record { side = p.side; start = n + p.start; end = n + p.end }

slice-moved : (xs ys : List ℤ) (s e : ℕ) → slice_range (xs ++ ys) (length xs + s) (length xs + e) ≡ slice_range ys s e
slice-moved xs ys s e = ap (take ((length xs + e) - (length xs + s))) (drop-append-add xs ys s) ∙ ap (λ k. take k (drop s ys)) (omega arith)

rows-moved : (xs ys : List ℤ) (ps : List Place) → rows_at (xs ++ ys) (map (moved (length xs)) ps) ≡ rows_at ys ps
rows-moved xs ys [] = refl
rows-moved xs ys (p ∷ ps) = λ i. record { side = p.side; values = slice-moved xs ys p.start p.end i } ∷ rows-moved xs ys ps i

below-moved : (m n : ℕ) (ps : List Place) → AreBelow n ps → AreBelow (m + n) (map (moved m) ps)
below-moved m n [] h = tt
below-moved m n (p ∷ ps) h = (record { rises = omega (arith, h.0.rises); within = omega (arith, h.0.within) }, below-moved m n ps h.1)

pub first_below : (n k : ℕ) (ps : List Place) → AreBelow n ps → AreBelow n (take k ps)
first_below n k ps h = all_front (IsBelow n) (take k ps) (drop k ps) (subst (AreBelow n) (sym (take-append-drop k ps)) h)

-- all rows of other lists, behind the others
module _ (xs ys now : List ℤ) (ps qs more : List Place) (mine : AreBelow (length xs) ps) (theirs : AreBelow (length ys) qs)
    (numbers : now ≡ xs ++ ys) (places : more ≡ ps ++ map (moved (length xs)) qs) where
  pub extended_rows : rows_at now more ≡ rows_at xs ps ++ rows_at ys qs
  extended_rows =
      ap (rows_at now) places ∙ map-append (row_at now) ps (map (moved (length xs)) qs)
      ∙ (λ i. rows_at (numbers i) ps ++ rows_at (numbers i) (map (moved (length xs)) qs))
      ∙ (λ i. rows-append xs ys (length xs) ps (omega arith) mine i ++ rows-moved xs ys qs i)

  pub extended_below : AreBelow (length now) more
  extended_below = subst (AreBelow (length now)) (sym places)
      (all_append (IsBelow (length now)) ps (map (moved (length xs)) qs)
      (more_below (length now) (length xs) ps (omega (arith, length-append xs ys, ap length numbers)) mine)
      (more_below (length now) (length xs + length ys) (map (moved (length xs)) qs) (omega (arith, length-append xs ys, ap length numbers))
      (below-moved (length xs) (length ys) qs theirs)))

-- rows, and the numbers behind them
abbrev pub building : List ℤ → List Place → ℕ → Building
building xs ps from = record { rows = rows_at xs ps; begun = drop from xs }

more_begun : (xs ys : List ℤ) (ps : List Place) (from : ℕ) → from ≤ length xs → AreBelow from ps
    → building (xs ++ ys) ps from ≡ record { rows = rows_at xs ps; begun = drop from xs ++ ys }
more_begun xs ys ps from l h = λ i. record { rows = rows-append xs ys from ps l h i; begun = drop-append-le from xs ys l i }

pub one_put : (xs now : List ℤ) (number : ℤ) (ps : List Place) (from : ℕ) (b : Building) → from ≤ length xs → AreBelow from ps
    → now ≡ xs ++ number ∷ [] → building xs ps from ≡ b → building now ps from ≡ with_number number b
one_put xs now number ps from b l h e v = ap (λ t. building t ps from) e ∙ more_begun xs (number ∷ []) ps from l h ∙ ap (with_number number) v

pub row_put : (xs now : List ℤ) (row : Row) (ps : List Place) (from : ℕ) (b : Building) → from ≤ length xs → AreBelow from ps
    → now ≡ xs ++ row.values → building xs ps from ≡ b → b.begun ≡ [] → closed_by row.side (building now ps from) ≡ with_row row b
row_put xs now row ps from b l h e v none =
    ap (λ t. closed_by row.side (building t ps from)) e
    ∙ ap (closed_by row.side) (more_begun xs row.values ps from l h)
    ∙ ap (λ (t : Building). with_row (record { side = row.side; values = t.begun ++ row.values }) t) v
    ∙ ap (λ t. with_row (record { side = row.side; values = t ++ row.values }) b) none
