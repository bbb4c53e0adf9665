-- The lines of rows, one by one.
use Rattle.std.proofs.Common.{◌≡◌, List, [], ◌∷◌, ◌++◌, map, filter, flat_map, cond, true, false, ℤ, refl, sym, ◌∙◌, ap, append_assoc, ℕ, ◌≤◌, ◌<◌, ◌+◌, length, drop, get_or, arith}
use Rattle.std.proofs.lemmas.List.{drop_more}
use Rattle.std.specs.Fmt.{signed_decimal}
use Rattle.saber_plan.specs.declared.rows.Row.{Row}
use Rattle.saber_plan.specs.declared.expressions.Product.{Product}
use Rattle.saber_plan.specs.Trees.{Tree}
use Rattle.saber_plan.specs.Values.{value, passes}
use Rattle.saber_plan.specs.Answers.{items_over, line, selected_lines}
use Rattle.saber_select.specs.Printing.{row_text}
use Rattle.saber_digits.specs.Cells.{cells}
use Rattle.saber_digits.specs.CellFacts.{line_after}

-- the first row's line, and those of the others
pub selected_next : (q : Tree) (x : Row) (xs : List Row) → selected_lines q (x ∷ xs) ≡ row_text q x.values ++ selected_lines q xs
selected_next q x xs = elim (passes q.predicate x.values []) as (λ b.
    flat_map (λ zs. line (items_over q.items zs [])) (cond b (x.values ∷ filter (λ zs. passes q.predicate zs []) (map (λ y. y.values) xs)) (filter (λ zs. passes q.predicate zs []) (map (λ y. y.values) xs)))
    ≡ cond b (line (items_over q.items x.values [])) [] ++ selected_lines q xs) [ true ↦ refl | false ↦ refl ]

-- the line of a row, item by item
pub items_line : (old : List ℕ) (zs : List ℤ) (is : List (List Product)) (x : List Product) → 1 ≤ length is → x ≡ get_or is 0 x
    → ((old ++ signed_decimal (value x zs [])) ++ cells (items_over (drop 1 is) zs [])) ++ 10 ∷ [] ≡ old ++ line (items_over is zs [])
items_line old zs [] x h e = absurd (omega arith)
items_line old zs (i ∷ is) x h e = ap (λ y. ((old ++ signed_decimal (value y zs [])) ++ cells (items_over is zs [])) ++ 10 ∷ []) e ∙ line_after old (value i zs []) (items_over is zs [])

-- one row more of some rows is written
pub row_written : (q : Tree) (out all more : List ℕ) (rows : List Row) (k : ℕ) (x : Row) → k < length rows → x ≡ get_or rows k x → out ++ selected_lines q (drop k rows) ≡ all → more ≡ out ++ row_text q x.values → more ++ selected_lines q (drop (k + 1) rows) ≡ all
row_written q out all more rows k x l e h w =
    let rest = selected_lines q (drop (k + 1) rows) in
    let cut : drop k rows ≡ x ∷ drop (k + 1) rows = drop_more rows k x l ∙ ap (λ y. y ∷ drop (k + 1) rows) (sym e) in
    ap (λ t. t ++ rest) w ∙ append_assoc out (row_text q x.values) rest ∙ ap (λ t. out ++ t) (sym (ap (selected_lines q) cut ∙ selected_next q x (drop (k + 1) rows))) ∙ h
