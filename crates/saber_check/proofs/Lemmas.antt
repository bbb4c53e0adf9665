-- Laws of the first fault.
use Rattle.std.proofs.Common.{◌≡◌, ℕ, ◌+◌, ◌≤◌, List, [], ◌∷◌, ◌++◌, length, get_or, drop, map, Option, Some, None, refl, sym, ◌∙◌, ap, arith}
use Rattle.std.proofs.lemmas.Bool.Decides.{nat_tests}
use Rattle.std.proofs.lemmas.List.{drop_all}
use Rattle.std.proofs.Math.Seq.{drop-cons}
use Rattle.std.proofs.Common.{◌<◌, add-one}
use Rattle.saber_check.specs.declared.fault.Fault.{Fault}
use Rattle.saber_check.specs.declared.walk.Walk.{Walk}
use Rattle.saber_check.specs.Widths.{span}
use Rattle.saber_check.specs.Least.{sooner, earlier, least, each, Visits}

pub earlier_none : (a : Option Fault) → earlier a None ≡ a
unfolding earlier sooner
earlier_none None = refl
earlier_none (Some f) = refl

pub earlier_assoc : (a b c : Option Fault) → earlier (earlier a b) c ≡ earlier a (earlier b c)
unfolding earlier sooner
earlier_assoc None b c = refl
earlier_assoc (Some f) None c = refl
earlier_assoc (Some f) (Some g) None = refl
earlier_assoc (Some f) (Some g) (Some h) = grind (arith, nat_tests)

pub least_none : least [] ≡ None
unfolding least
least_none = refl

pub least_append : (xs ys : List Fault) → least (xs ++ ys) ≡ earlier (least xs) (least ys)
unfolding least earlier
least_append [] ys = refl
least_append (x ∷ xs) ys = ap (sooner x) (least_append xs ys) ∙ sym (earlier_assoc (Some x) (least xs) (least ys))

pub ruleset walking = (earlier_none, earlier_assoc, least_none, least_append)

-- what is left at k, where the item at k is x
pub drop_item : {X : Type 0} (xs : List X) (k : ℕ) (x : X) → k < length xs → x ≡ get_or xs k x → drop k xs ≡ x ∷ drop (k + 1) xs
drop_item xs k x h e = rw (drop-cons xs k x h, ← e, add-one k) refl

-- the walk stands before what is left at j of some parts that each have a word before
pub record Going {X : Type 0} (width : X → ℕ) (faults : ℕ → ℕ → X → List Fault) (n : ℕ) (xs : List X) (j : ℕ) (old now : Walk) : Type 0 where
  pub place : now.index + span width (drop j xs) ≡ old.index + span width xs
  pub least : earlier now.least (least (each width faults (j + n) (now.index + 1) (drop j xs))) ≡ earlier old.least (least (each width faults n (old.index + 1) xs))

pub each_more : {X : Type 0} (width : X → ℕ) (faults : ℕ → ℕ → X → List Fault) (k i : ℕ) (x : X) (xs : List X) → least (each width faults k i (x ∷ xs)) ≡ earlier (least (faults k i x)) (least (each width faults (k + 1) (i + width x + 1) xs))
unfolding each
each_more width faults k i x xs = least_append (faults k i x) (each width faults (k + 1) (i + width x + 1) xs)

-- one iteration of a loop over parts
pub going_step : {X : Type 0} (width : X → ℕ) (faults : ℕ → ℕ → X → List Fault) (n : ℕ) (xs : List X) (j : ℕ) (x : X) (old now mid next : Walk) →
    j < length xs → x ≡ get_or xs j x → Going width faults n xs j old now → Visits now mid 1 [] → Visits mid next (width x) (faults (j + n) mid.index x) → Going width faults n xs (j + 1) old next
going_step width faults n xs j x old now mid next h e g v w =
    let d = drop_item xs j x h e in
    let a : next.index ≡ now.index + 1 + width x = omega (arith, v.place, w.place) in
    let b : next.least ≡ earlier now.least (least (faults (j + n) (now.index + 1) x)) = grind (arith, walking, v.place, v.least, w.least) in
    let l = g.least in
    let k : j + 1 + n ≡ j + n + 1 = omega arith in
    record {
      place = omega (arith, a, g.place, ap (span width) d);
      least = grind (arith, walking, each_more width faults (j + n) (now.index + 1) x (drop (j + 1) xs), a, b, d, l, k);
    }

-- room for the next part
pub going_room : {X : Type 0} (width : X → ℕ) (faults : ℕ → ℕ → X → List Fault) (n : ℕ) (xs : List X) (j : ℕ) (x : X) (old now : Walk) (most : ℕ) →
    j < length xs → x ≡ get_or xs j x → Going width faults n xs j old now → old.index + span width xs ≤ most → now.index + 1 + width x ≤ most
going_room width faults n xs j x old now most h e g r = omega (arith, g.place, ap (span width) (drop_item xs j x h e))

pub each_none : {X : Type 0} (width : X → ℕ) (faults : ℕ → ℕ → X → List Fault) (k i : ℕ) → each width faults k i [] ≡ []
unfolding each
each_none width faults k i = refl

-- behind the loop
pub going_done : {X : Type 0} (width : X → ℕ) (faults : ℕ → ℕ → X → List Fault) (n : ℕ) (xs : List X) (j : ℕ) (old now : Walk) → length xs ≤ j → Going width faults n xs j old now → Visits old now (span width xs) (each width faults n (old.index + 1) xs)
going_done width faults n xs j old now h g =
    let d : drop j xs ≡ [] = drop_all j xs h in
    record {
      place = omega (arith, g.place, ap (span width) d);
      least = grind (arith, walking, g.least, d, each_none width faults (j + n) (now.index + 1));
    }

pub each_map : {X Y : Type 0} (g : X → Y) (width : Y → ℕ) (faults : ℕ → ℕ → Y → List Fault) (k i : ℕ) (xs : List X) → each width faults k i (map g xs) ≡ each (λ x. width (g x)) (λ l j x. faults l j (g x)) k i xs
unfolding each
each_map g width faults k i [] = refl
each_map g width faults k i (x ∷ xs) = ap (λ ys. faults k i (g x) ++ ys) (each_map g width faults (k + 1) (i + width (g x) + 1) xs)

-- a first part and the parts behind it
pub visits_first : {X : Type 0} (width : X → ℕ) (faults : ℕ → ℕ → X → List Fault) (k : ℕ) (x : X) (xs : List X) (old mid new : Walk) → Visits old mid (width x) (faults k old.index x) → Visits mid new (span width xs) (each width faults (k + 1) (mid.index + 1) xs) → Visits old new (width x + span width xs) (each width faults k old.index (x ∷ xs))
visits_first width faults k x xs old mid new v w = record {
  place = omega (arith, v.place, w.place);
  least = grind (arith, walking, each_more width faults k old.index x xs, v.place, v.least, w.least);
}

pub visits_then : (old mid new : Walk) (m n : ℕ) (xs ys : List Fault) → Visits old mid m xs → Visits mid new n ys → Visits old new (m + n) (xs ++ ys)
visits_then old mid new m n xs ys v w = record {
  place = omega (arith, v.place, w.place);
  least = grind (arith, walking, v.least, w.least);
}

-- a first part, and a loop over the parts behind it
pub visits_all : {X : Type 0} (width : X → ℕ) (faults : ℕ → ℕ → X → List Fault) (x : X) (xs ys : List X) (j : ℕ) (old mid new : Walk) → ys ≡ xs → Visits old mid (width x) (faults 0 old.index x) → length ys ≤ j → Going width faults 1 ys j mid new → Visits old new (width x + span width xs) (each width faults 0 old.index (x ∷ xs))
visits_all width faults x xs ys j old mid new e v h g =
    let d = going_done width faults 1 ys j mid new h g in
    let w : Visits mid new (span width xs) (each width faults 1 (mid.index + 1) xs) = record { place = omega (arith, d.place, ap (span width) e); least = grind (arith, walking, d.least, e) } in
    visits_first width faults 0 x xs old mid new v w
