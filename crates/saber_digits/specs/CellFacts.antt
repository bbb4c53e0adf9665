-- Facts on a line, which is a number, then cells, then LF. Any proof may cite them.
use Rattle.std.proofs.Common.{◌≡◌, ℕ, List, [], ◌∷◌, ◌++◌, map, take, ℤ, sym, ◌∙◌, ap, append_assoc, append-nil}
use Rattle.std.specs.Fmt.{signed_decimal}
use Rattle.std.specs.List.{join_with_byte}
use Rattle.saber_plan.specs.Answers.{line}
use Rattle.saber_digits.specs.Cells.{cells, drafted_text}

line_cells : (z : ℤ) (zs : List ℤ) → join_with_byte 44 (map signed_decimal (z ∷ zs)) ≡ signed_decimal z ++ cells zs
line_cells z [] = sym (append-nil (signed_decimal z))
line_cells z (y ∷ ys) = ap (λ l. signed_decimal z ++ 44 ∷ l) (line_cells y ys)

pub line_after : (old : List ℕ) (z : ℤ) (zs : List ℤ) → ((old ++ signed_decimal z) ++ cells zs) ++ 10 ∷ [] ≡ old ++ line (z ∷ zs)
line_after old z zs =
    ap (λ l. l ++ 10 ∷ []) (append_assoc old (signed_decimal z) (cells zs) ∙ ap (λ l. old ++ l) (sym (line_cells z zs)))
    ∙ append_assoc old (join_with_byte 44 (map signed_decimal (z ∷ zs))) (10 ∷ [])

-- a line that ends in an array: what was there, its first number and its cells, and LF
pub ended : (old first out : List ℕ) (before draft : List ℕ) (z : ℤ) (end last : ℕ) (zs : List ℤ) → first ≡ old ++ signed_decimal z → drafted_text out before end ≡ first ++ cells zs
    → take last draft ≡ take end before ++ 10 ∷ [] → drafted_text out draft last ≡ old ++ line (z ∷ zs)
ended old first out before draft z end last zs start shown written =
    ap (λ l. out ++ l) written ∙ sym (append_assoc out (take end before) (10 ∷ []))
    ∙ ap (λ l. l ++ 10 ∷ []) (shown ∙ ap (λ l. l ++ cells zs) start) ∙ line_after old z zs
