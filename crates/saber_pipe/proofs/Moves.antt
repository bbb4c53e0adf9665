-- What the calls on the ends of a pipe come to.
use Rattle.std.proofs.Common.{◌≡◌, ◌≢◌, ◌<◌, ℕ, ◌+◌, ◌-◌, ◌^◌, min, ◌⊎◌, inl, inr, ⊎_elim, List, [], ◌∷◌, ◌++◌, drop, length, sym, ap, ◌∙◌, arith, length-drop, length-append}
use Rattle.std.proofs.lemmas.Grind.{flat_map-append}
use Rattle.saber_plan.specs.Outputs.{raised_count}
use Rattle.saber_pipe.specs.declared.items.Item.{Item}
use Rattle.saber_pipe.specs.Order.{bytes_in, bytes_of}

pub bytes-append : (xs ys : List Item) → bytes_of (xs ++ ys) ≡ bytes_of xs ++ bytes_of ys
bytes-append xs ys = flat_map-append bytes_in xs ys

-- where no item is kept, no byte is
pub no_bytes_kept : {Full : Type 0} (kept : List Item) → (kept ≡ []) ⊎ Full → (bytes_of kept ≡ []) ⊎ Full
no_bytes_kept kept still = ⊎_elim (λ none. inl (ap bytes_of none)) (λ full. inr full) still

-- one item more is kept
pub one_kept : (first rest new : List Item) (x : Item) → new ≡ rest ++ x ∷ [] → length (first ++ new) ≡ length (first ++ rest) + 1
one_kept first rest new x e =
    let size : length (first ++ new) ≡ length (first ++ (rest ++ x ∷ [])) = ap (λ l. length (first ++ l)) e in
    let all = length-append first (rest ++ x ∷ []) in
    let more = length-append rest (x ∷ []) in
    let before = length-append first rest in
    omega (arith, size, all, more, before)

-- one piece more is one write more
more_counted : (a b b' : ℕ) → b' ≡ b + 1 → min (a + b') (2 ^ 64 - 1) ≡ min (min (a + b) (2 ^ 64 - 1) + 1) (2 ^ 64 - 1)
more_counted a b b' e = omega (arith, e)

pub one_write : (sent sent' kept kept' : List Item) → sent' ≡ sent → length kept' ≡ length kept + 1 → min (length (sent' ++ kept')) (2 ^ 64 - 1) ≡ raised_count (min (length (sent ++ kept)) (2 ^ 64 - 1))
one_write sent sent' kept kept' same one =
    ap (λ n. min n (2 ^ 64 - 1)) (length-append sent' kept' ∙ ap (λ l. length l + length kept') same)
    ∙ more_counted (length sent) (length kept) (length kept') one
    ∙ ap (λ n. raised_count (min n (2 ^ 64 - 1))) (sym (length-append sent kept))

-- short of the end something is left
pub some_left : (at : ℕ) (xs : List ℕ) → at < length xs → drop at xs ≢ []
some_left at xs short e = let l : length (drop at xs) ≡ 0 = ap length e in omega (arith, length-drop at xs)
