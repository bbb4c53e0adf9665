-- Facts on spots: what stands at them, and that they are among the first so many numbers.
use Rattle.std.proofs.Common.{◌≡◌, ℕ, suc, ℤ, ◌+◌, ◌-◌, ◌≤◌, ◌<◌, List, [], ◌∷◌, ◌++◌, map, length, take, drop, slice_range, refl, sym, ◌∙◌, ap, subst, arith, length-append, take-append-drop}
use Rattle.std.proofs.lemmas.List.{map-append, take_at, drop_at, take_all}
use Rattle.std.proofs.Math.Seq.{drop-append-add}
use Rattle.saber_plan.specs.Facts.Lists.{slice-take, all_weaker, all_front, all_append}
use Rattle.saber_select.specs.declared.picked.Spot.{Spot}
use Rattle.saber_select.specs.Found.{Found, AllBelow, AllFrom, Rises, Precedes}
use Rattle.saber_select.specs.Spots.{found_at, found_in, IsWithin, AreWithin}

-- ---- positions that rise

below_from : (n : ℕ) (e : Found) (b : List Found) → e.0 < n → AllFrom n b → AllFrom (suc e.0) b
below_from n e b l = all_weaker (λ (f : Found). n ≤ f.0) (λ (f : Found). suc e.0 ≤ f.0) (λ f h. omega (arith, l, h)) b

pub rises_append : (n : ℕ) (a b : List Found) → Rises a → Rises b → AllBelow n a → AllFrom n b → Rises (a ++ b)
rises_append n [] b r s l h = s
rises_append n (e ∷ a) b r s l h = (all_append (λ (f : Found). suc e.0 ≤ f.0) a b r.0 (below_from n e b l.0 h), rises_append n a b r.1 s l.1 h)

pub rises_front : (a b : List Found) → Rises (a ++ b) → Rises a
rises_front [] b r = tt
rises_front (e ∷ a) b r = (all_front (λ (f : Found). suc e.0 ≤ f.0) a b r.0, rises_front a b r.1)

-- ---- rows among the first so many numbers hang on those alone

found-take : (xs : List ℤ) (n : ℕ) (ss : List Spot) → AreWithin n ss → found_in (take n xs) ss ≡ found_in xs ss
found-take xs n [] h = refl
found-take xs n (s ∷ ss) h = λ i. (s.place, slice-take xs s.start s.end n h.0.rises h.0.within i) ∷ found-take xs n ss h.1 i

more_within : (m n : ℕ) (ss : List Spot) → n ≤ m → AreWithin n ss → AreWithin m ss
more_within m n ss l = all_weaker (IsWithin n) (IsWithin m) (λ s b. record { rises = b.rises; within = omega arith }) ss

-- numbers behind the others change no row
pub found-append : (xs ys : List ℤ) (ss : List Spot) → AreWithin (length xs) ss → found_in (xs ++ ys) ss ≡ found_in xs ss
found-append xs ys ss h =
    sym (found-take (xs ++ ys) (length xs) ss h)
    ∙ ap (λ zs. found_in zs ss) (take_at xs ys (length xs) refl)

slice-behind : (xs ys : List ℤ) → slice_range (xs ++ ys) (length xs) (length (xs ++ ys)) ≡ ys
slice-behind xs ys = ap (take (length (xs ++ ys) - length xs)) (drop_at xs ys (length xs) refl) ∙ take_all (length (xs ++ ys) - length xs) ys (omega (arith, length-append xs ys))

pub kept_within : (xs ys now : List ℤ) (ss : List Spot) → AreWithin (length xs) ss → now ≡ xs ++ ys → AreWithin (length now) ss
kept_within xs ys now ss h e = more_within (length now) (length xs) ss (omega (arith, length-append xs ys, ap length e)) h

pub kept_rising : (xs ys now : List ℤ) (ss : List Spot) → AreWithin (length xs) ss → now ≡ xs ++ ys → Rises (found_in xs ss) → Rises (found_in now ss)
kept_rising xs ys now ss h e r = subst Rises (sym (ap (λ l. found_in l ss) e ∙ found-append xs ys ss h)) r

-- a row of the numbers that come behind the others
module _ (xs values now : List ℤ) (ss more : List Spot) (s : Spot) (place : ℕ) (within : AreWithin (length xs) ss)
    (numbers : now ≡ xs ++ values) (its : s.place ≡ place) (start : s.start ≡ length xs) (end : s.end ≡ length now) (spots : more ≡ ss ++ s ∷ []) where
  its_row : found_at now s ≡ (place, values)
  its_row = (λ i. (its i, slice_range (numbers i) (start i) ((end ∙ ap length numbers) i))) ∙ (λ i. (place, slice-behind xs values i))

  pub put_found : found_in now more ≡ found_in xs ss ++ (place, values) ∷ []
  put_found =
      ap (found_in now) spots ∙ map-append (found_at now) ss (s ∷ [])
      ∙ (λ i. found_in (numbers i) ss ++ its_row i ∷ [])
      ∙ ap (λ es. es ++ (place, values) ∷ []) (found-append xs values ss within)

  longer : length xs ≤ length now
  longer = omega (arith, length-append xs values, ap length numbers)

  pub put_within : AreWithin (length now) more
  put_within = subst (AreWithin (length now)) (sym spots)
      (all_append (IsWithin (length now)) ss (s ∷ []) (more_within (length now) (length xs) ss longer within)
      (record { rises = omega (arith, longer, start, end); within = omega (arith, end) }, tt))

  pub put_rising : Rises (found_in xs ss) → AllBelow place (found_in xs ss) → Rises (found_in now more)
  put_rising r l = subst Rises (sym put_found) (rises_append place (found_in xs ss) ((place, values) ∷ []) r (tt, tt) l (omega arith, tt))

-- ---- the same spot among numbers that come behind so many others

abbrev pub moved : ℕ → Spot → Spot
moved n s = record { place = s.place; start = n + s.start; end = n + s.end }

slice-moved : (xs ys : List ℤ) (s e : ℕ) → slice_range (xs ++ ys) (length xs + s) (length xs + e) ≡ slice_range ys s e
slice-moved xs ys s e = ap (take ((length xs + e) - (length xs + s))) (drop-append-add xs ys s) ∙ ap (λ k. take k (drop s ys)) (omega arith)

found-moved : (xs ys : List ℤ) (ss : List Spot) → found_in (xs ++ ys) (map (moved (length xs)) ss) ≡ found_in ys ss
found-moved xs ys [] = refl
found-moved xs ys (s ∷ ss) = λ i. (s.place, slice-moved xs ys s.start s.end i) ∷ found-moved xs ys ss i

within-moved : (m n : ℕ) (ss : List Spot) → AreWithin n ss → AreWithin (m + n) (map (moved m) ss)
within-moved m n [] h = tt
within-moved m n (s ∷ ss) h = (record { rises = omega (arith, h.0.rises); within = omega (arith, h.0.within) }, within-moved m n ss h.1)

pub first_within : (n k : ℕ) (ss : List Spot) → AreWithin n ss → AreWithin n (take k ss)
first_within n k ss h = all_front (IsWithin n) (take k ss) (drop k ss) (subst (AreWithin n) (sym (take-append-drop k ss)) h)

first_found : (ys : List ℤ) (k : ℕ) (ss : List Spot) → found_in ys ss ≡ found_in ys (take k ss) ++ found_in ys (drop k ss)
first_found ys k ss = ap (found_in ys) (sym (take-append-drop k ss)) ∙ map-append (found_at ys) (take k ss) (drop k ss)

pub first_rising : (ys : List ℤ) (k : ℕ) (ss : List Spot) → Rises (found_in ys ss) → Rises (found_in ys (take k ss))
first_rising ys k ss r = rises_front (found_in ys (take k ss)) (found_in ys (drop k ss)) (subst Rises (first_found ys k ss) r)

pub first_from : (n : ℕ) (ys : List ℤ) (k : ℕ) (ss : List Spot) → AllFrom n (found_in ys ss) → AllFrom n (found_in ys (take k ss))
first_from n ys k ss h = all_front (λ (f : Found). n ≤ f.0) (found_in ys (take k ss)) (found_in ys (drop k ss)) (subst (AllFrom n) (first_found ys k ss) h)

-- all rows of other lists, behind the others
module _ (xs ys now : List ℤ) (ss ts more : List Spot) (mine : AreWithin (length xs) ss) (theirs : AreWithin (length ys) ts)
    (numbers : now ≡ xs ++ ys) (spots : more ≡ ss ++ map (moved (length xs)) ts) where
  pub merged_found : found_in now more ≡ found_in xs ss ++ found_in ys ts
  merged_found =
      ap (found_in now) spots ∙ map-append (found_at now) ss (map (moved (length xs)) ts)
      ∙ (λ i. found_in (numbers i) ss ++ found_in (numbers i) (map (moved (length xs)) ts))
      ∙ (λ i. found-append xs ys ss mine i ++ found-moved xs ys ts i)

  pub merged_within : AreWithin (length now) more
  merged_within = subst (AreWithin (length now)) (sym spots)
      (all_append (IsWithin (length now)) ss (map (moved (length xs)) ts)
      (more_within (length now) (length xs) ss (omega (arith, length-append xs ys, ap length numbers)) mine)
      (more_within (length now) (length xs + length ys) (map (moved (length xs)) ts) (omega (arith, length-append xs ys, ap length numbers))
      (within-moved (length xs) (length ys) ts theirs)))

  pub merged_rising : Rises (found_in xs ss) → Rises (found_in ys ts) → Precedes (found_in xs ss) (found_in ys ts) → Rises (found_in now more)
  merged_rising r s p = subst Rises (sym merged_found) (rises_append p.seam (found_in xs ss) (found_in ys ts) r s p.before p.behind)

-- and the first k of them
pub first_merged : (xs ys now : List ℤ) (ss ts more : List Spot) (k : ℕ) → AreWithin (length xs) ss → AreWithin (length ys) ts → now ≡ xs ++ ys
    → more ≡ ss ++ map (moved (length xs)) (take k ts) → Rises (found_in xs ss) → Rises (found_in ys ts) → Precedes (found_in xs ss) (found_in ys ts)
    → AreWithin (length now) more × Rises (found_in now more)
first_merged xs ys now ss ts more k mine theirs numbers spots r s p =
    let their_first = first_within (length ys) k ts theirs in (
      merged_within xs ys now ss (take k ts) more mine their_first numbers spots,
      merged_rising xs ys now ss (take k ts) more mine their_first numbers spots r (first_rising ys k ts s)
          (record { seam = p.seam; before = p.before; behind = first_from p.seam ys k ts p.behind }),
    )
