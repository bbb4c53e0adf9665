-- Lists that come by and by, and of which a front is given.
use Rattle.std.proofs.Common.{◌≡◌, ◌≤◌, ℕ, ◌+◌, ◌-◌, List, ◌++◌, take, drop, length, sym, ap, ◌∙◌, arith, length-take}
use Rattle.std.proofs.lemmas.List.{drop-take, drop-drop, drop-append-le, take_at}
use Rattle.std.proofs.Math.Seq.{take-add}

-- what has come from place g on begins with what was given of the whole list there
came_so_far : {A : Type 0} (g n k : ℕ) (xs got : List A) → drop g xs ≡ got ++ drop (g + n) xs → length got ≡ n
    → drop g (take (g + (n + k)) xs) ≡ got ++ drop (g + n) (take (g + n + k) xs)
came_so_far g n k xs got e size =
    drop-take g (n + k) xs ∙ take-add n k (drop g xs)
    ∙ ap (λ l. l ++ take k (drop n (drop g xs))) (ap (take n) e ∙ take_at got (drop (g + n) xs) n size)
    ∙ ap (λ l. got ++ take k l) (drop-drop n g xs)
    ∙ ap (λ l. got ++ l) (sym (drop-take (g + n) k xs))

pub given_of_came : {A : Type 0} (g n t : ℕ) (xs got : List A) → g + n ≤ t → drop g xs ≡ got ++ drop (g + n) xs → length got ≡ n → drop g (take t xs) ≡ got ++ drop (g + n) (take t xs)
given_of_came g n t xs got le e size =
    let k : ℕ = t - (g + n) in
    let one : g + (n + k) ≡ t = omega (arith, le) in
    let two : g + n + k ≡ t = omega (arith, le) in
    ap (λ m. drop g (take m xs)) (sym one) ∙ came_so_far g n k xs got e size ∙ ap (λ m. got ++ drop (g + n) (take m xs)) two

-- more came
pub more_came : {A : Type 0} (g t s : ℕ) (xs : List A) → g ≤ t → t ≤ length xs → drop g (take (t + s) xs) ≡ drop g (take t xs) ++ take s (drop t xs)
more_came g t s xs le within =
    ap (drop g) (take-add t s xs) ∙ drop-append-le g (take t xs) (take s (drop t xs)) (let size = length-take t xs in omega (arith, size, le, within))
