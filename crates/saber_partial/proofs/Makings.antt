-- Parts in the making: what a row more changes, and what is done.
use Rattle.std.proofs.Common.{◌≡◌, ℕ, ◌+◌, ◌-◌, ◌≤◌, List, [], ◌∷◌, ◌++◌, length, Bool, true, false, Some, refl, sym, ◌∙◌, ap, arith}
use Rattle.std.proofs.lemmas.Bool.{both_ways}
use Rattle.std.specs.List.{AllByRecursion}
use Rattle.saber_plan.specs.Facts.Parts.{merge-empty_left}
use Rattle.saber_plan.specs.Parts.{Part, no_part, merge}
use Rattle.saber_partial.specs.Ones.{before_last, joined_last, last_part, making_of, IsAt, IsOne, Making}
use Rattle.saber_partial.proofs.OneParts.{before_more, joined_more, last_more, length-before, one_not_none, parted}

last_is_one : (ps : List Part) → 1 ≤ length ps → AllByRecursion IsOne ps → IsOne (last_part ps)
last_is_one [] h o = absurd (omega (arith, h))
last_is_one (p ∷ []) h o = o.0
last_is_one (p ∷ r ∷ ps) h o = last_is_one (r ∷ ps) (omega arith) o.1

-- a row more in the last one
pub last_begun : (b : Bool) (ps : List Part) (m : Making) → making_of b ps ≡ m → b ≡ true → last_part ps ≡ m.last
last_begun true ps m e t = ap (λ (x : Making). x.last) e
last_begun false ps m e t = absurd (both_ways false refl t)

pub begun_done : (b : Bool) (ps qs : List Part) (p : Part) (m : Making) → making_of b ps ≡ m → b ≡ true → 1 ≤ length ps → qs ≡ joined_last p ps → (making_of b qs).done ≡ m.done
begun_done true ps qs p m e t h n = ap before_last (n ∙ joined_more ps p h) ∙ before_more (before_last ps) (merge (last_part ps) p) ∙ ap (λ (x : Making). x.done) e
begun_done false ps qs p m e t h n = absurd (both_ways false refl t)

pub begun_last : (b : Bool) (ps qs : List Part) (p : Part) (m : Making) → making_of b ps ≡ m → b ≡ true → 1 ≤ length ps → qs ≡ joined_last p ps → (making_of b qs).last ≡ merge m.last p
begun_last true ps qs p m e t h n = ap last_part (n ∙ joined_more ps p h) ∙ last_more (before_last ps) (merge (last_part ps) p) ∙ ap (λ (x : Making). merge x.last p) e
begun_last false ps qs p m e t h n = absurd (both_ways false refl t)

pub joined_some : (ps qs : List Part) (p : Part) → 1 ≤ length ps → qs ≡ joined_last p ps → 1 ≤ length qs
joined_some [] qs p h n = absurd (omega (arith, h))
joined_some (o ∷ []) qs p h n = let long = ap (length {A = Part}) n in omega (arith, long)
joined_some (o ∷ r ∷ ps) qs p h n = let long = ap (length {A = Part}) n in omega (arith, long)

-- a first row
pub done_still : (b : Bool) (ps : List Part) (m : Making) → making_of b ps ≡ m → b ≡ false → ps ≡ m.done
done_still true ps m e t = absurd (both_ways true t refl)
done_still false ps m e t = ap (λ (x : Making). x.done) e

pub none_still : (b : Bool) (ps : List Part) (m : Making) → making_of b ps ≡ m → b ≡ false → no_part ≡ m.last
none_still true ps m e t = absurd (both_ways true t refl)
none_still false ps m e t = ap (λ (x : Making). x.last) e

pub new_done : (b : Bool) (ps qs : List Part) (p : Part) (m : Making) → making_of b ps ≡ m → b ≡ false → qs ≡ ps ++ p ∷ [] → before_last qs ≡ m.done
new_done b ps qs p m e t n = ap before_last n ∙ before_more ps p ∙ done_still b ps m e t

pub new_last : (b : Bool) (ps qs : List Part) (p : Part) (m : Making) → making_of b ps ≡ m → b ≡ false → qs ≡ ps ++ p ∷ [] → last_part qs ≡ merge m.last p
new_last b ps qs p m e t n = ap last_part n ∙ last_more ps p ∙ sym (merge-empty_left p) ∙ ap (λ (x : Part). merge x p) (none_still b ps m e t)

-- the last one is done
pub ended_at : (b : Bool) (ps : List Part) (m : Making) (n : ℕ) → making_of b ps ≡ m → b ≡ true → 1 ≤ length ps → n ≡ length ps → IsAt m (Some (n - 1)) ps
ended_at true ps m n e t h k = (ap (λ x. x - 1) k ∙ sym (length-before ps) ∙ ap (λ (x : Making). length x.done) e, sym (parted ps h) ∙ (λ i. (e i).done ++ (e i).last ∷ []))
ended_at false ps m n e t h k = absurd (both_ways false refl t)

-- where there is no last one, all are done
pub all_done : (b : Bool) (ps : List Part) (m : Making) → making_of b ps ≡ m → (b ≡ true → 1 ≤ length ps) → AllByRecursion IsOne ps → m.last ≡ no_part → ps ≡ m.done
all_done true ps m e h o n = absurd (one_not_none (last_part ps) (last_is_one ps (h refl) o) (ap (λ (x : Making). x.last) e ∙ n))
all_done false ps m e h o n = ap (λ (x : Making). x.done) e
