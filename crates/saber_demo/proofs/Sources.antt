-- What is left of the generated file.
use Rattle.std.proofs.Common.{◌≡◌, ℕ, zero, suc, ◌+◌, ◌-◌, ◌<◌, ◌≤◌, List, [], ◌∷◌, ◌++◌, map, length, take, drop, refl, sym, ◌∙◌, ap, append_assoc, add-one, arith, length-append, length-drop}
use Rattle.std.specs.Prelude.{flat_map}
use Rattle.std.proofs.lemmas.List.{drop_all, take-append-drop, drop-drop}
use Rattle.std.specs.List.{join_with_byte}
use Rattle.std.specs.Fmt.{signed_decimal}
use Rattle.saber_plan.specs.declared.rows.Row.{Row}
use Rattle.saber_plan.specs.Windows.{from}
use Rattle.saber_demo.specs.Generator.{state, step, upper, drawn_number}
use Rattle.saber_demo.specs.Rows.{row_of, row_line, generated_file, lines_from}

-- n rows from row j on are those of the file
lines_are : (seed j n : ℕ) → lines_from (state seed j) j n ≡ flat_map row_line (map (λ j. row_of j (drawn_number seed j)) (from j n))
unfolding lines_from state from
lines_are seed j zero = refl
lines_are seed j (suc n) =
    let next : state seed (j + 1) ≡ step (state seed j) = ap (state seed) (add-one j) in
    let rest = lines_are seed (j + 1) n in
    ap (λ l. row_line (row_of j (upper (step (state seed j)))) ++ l) (ap (λ x. lines_from x (j + 1) n) (sym next) ∙ rest)

-- before the first row all is left
pub all_left : (seed n : ℕ) → lines_from seed 0 n ≡ generated_file seed n
unfolding state
all_left seed n = lines_are seed 0 n

-- the next row's line in place of one that was given
pub next_line : (x m n g : ℕ) (line : List ℕ) → g ≡ length line → m < n
    → row_line (row_of m (upper (step x))) ++ lines_from (step x) (m + 1) (n - (m + 1)) ≡ drop g line ++ lines_from x m (n - m)
unfolding lines_from
next_line x m n g line all more =
    let one : n - m ≡ suc (n - (m + 1)) = omega arith in
    let none : drop g line ≡ [] = rw all (drop_all (length line) line (omega arith)) in
    rw (none, one) refl

-- some bytes of the line are given
pub some_given : (line got rest : List ℕ) (g n : ℕ) → drop g line ≡ got ++ drop (g + n) line → drop g line ++ rest ≡ got ++ (drop (g + n) line ++ rest)
some_given line got rest g n e = rw e (append_assoc got (drop (g + n) line) rest)

-- what is left from a place on: the next n, and what is left behind them
pub part_and_rest : {A : Type 0} (n at : ℕ) (xs got : List A) → got ≡ take n (drop at xs) → drop at xs ≡ got ++ drop (at + n) xs
part_and_rest n at xs got e = rw (e, ← drop-drop n at xs) (sym (take-append-drop n (drop at xs)))

-- a line has a byte
pub some_line : (r : Row) → row_line r ≡ [] → ⊥
some_line r none =
    let long = length-append (join_with_byte 44 (map signed_decimal r.values)) (10 ∷ []) ∙ refl in
    let short : length (row_line r) ≡ 0 = ap length none in
    omega arith

-- bytes from a place inside on
pub none_from : {A : Type 0} (n : ℕ) (xs : List A) → drop n xs ≡ [] → length xs ≤ n
none_from n xs none = let size = sym (length-drop n xs) ∙ ap length none in omega arith

-- where all rows are made, none is left
pub none_left : (x m n : ℕ) → n ≤ m → lines_from x m (n - m) ≡ []
unfolding lines_from
none_left x m n all = let e : n - m ≡ 0 = omega arith in rw e refl
