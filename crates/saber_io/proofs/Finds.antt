-- The first element of a mapped list.
use Rattle.std.proofs.Common.{◌≡◌, List, [], ◌∷◌, Bool, true, false, cond, map, Some, find, option_map, refl}

-- the first image that passes is the image of the first element whose image passes
pub find-map : {A B : Type 0} (p : B → Bool) (f : A → B) (xs : List A) → find p (map f xs) ≡ option_map f (find (λ x. p (f x)) xs)
find-map p f [] = refl
find-map p f (x ∷ xs) =
    let rest = find (λ y. p (f y)) xs in
    rw (find-map p f xs) (elim (p (f x)) as (λ b. cond b (Some (f x)) (option_map f rest) ≡ option_map f (cond b (Some x) rest)) [ true ↦ refl | false ↦ refl ])
