-- The lines of a part, group by group.
use Rattle.std.proofs.Common.{◌≡◌, ℕ, ◌+◌, ◌<◌, List, [], ◌∷◌, ◌++◌, length, get_or, drop, map, ◌⊎◌, inl, inr, ℤ, pos, refl, sym, ◌∙◌, ap, ap₂, append_assoc, append-nil}
use Rattle.std.specs.declared.cmp.Ordering.TheVariants.{Less, Equal, Greater}
use Rattle.std.specs.Fmt.{signed_decimal}
use Rattle.saber_digits.specs.Cells.{cells}
use Rattle.saber_plan.specs.declared.expressions.Product.{Product}
use Rattle.saber_plan.specs.declared.plans.Shape.{Shape}
use Rattle.saber_plan.specs.declared.plans.Shape.TheVariants.{Group}
use Rattle.saber_plan.specs.Answers.{key_cmp, line, entry_lines, items_over}
use Rattle.saber_plan.specs.Facts.Maps.{entries-from_rising}
use Rattle.saber_plan.specs.Facts.Parts.{total, exact}
use Rattle.saber_plan.specs.Parts.{Numbers, group_answer, answers_of, join_numbers, part_lines}
use Rattle.saber_plan.specs.Trees.{Tree}
use Rattle.saber_plan.specs.Values.{value}
use Rattle.saber_partial.specs.Printing.{lines_for}
use Rattle.saber_partial.specs.Sorted.{part_of, weave, Rises}
use Rattle.saber_partial.proofs.Listed.{next_asked}
use Rattle.saber_partial.proofs.Weaving.{weave_none, weave_less, weave_equal, weave_greater}

entry_each : (i : ℕ) (is : List (List Product)) (es : List (List ℤ × Numbers)) → lines_for i is es ≡ entry_lines i (map (group_answer Group is) es)
entry_each i is [] = refl
entry_each i is (e ∷ es) = ap (λ l. line (pos i ∷ answers_of Group is e.0 e.1) ++ l) (entry_each i is es)

-- the lines of a part that is a list by key
pub part_lined : (q : Tree) (i : ℕ) (es : List (List ℤ × Numbers)) → q.shape ≡ Group → Rises es → lines_for i q.items es ≡ part_lines q i (part_of es)
part_lined q i es g s =
    entry_each i q.items es
    ∙ sym (ap₂ (λ (shape : Shape) l. entry_lines i (map (group_answer shape q.items) l)) g (entries-from_rising total exact es s))

-- a walk that wrote a line has the others to write
pub written_one : (i : ℕ) (is : List (List Product)) (out new : List ℕ) (zs : List ℤ) (e : List ℤ × Numbers) (xs ys : List (List ℤ × Numbers))
    → zs ≡ answers_of Group is e.0 e.1 → xs ≡ e ∷ ys → new ≡ out ++ line (pos i ∷ zs) → new ++ lines_for i is ys ≡ out ++ lines_for i is xs
written_one i is out new zs e xs ys k h w =
    ap (λ l. l ++ lines_for i is ys) (w ∙ ap (λ m. out ++ line (pos i ∷ m)) k)
    ∙ append_assoc out (line (pos i ∷ answers_of Group is e.0 e.1)) (lines_for i is ys)
    ∙ ap (λ l. out ++ lines_for i is l) (sym h)

-- one that wrote the cell of an item has the cells of the others to write
pub written_cell : (items : List (List Product)) (k : ℕ) (x : List Product) (row : List ℤ) (z : ℤ) (out new : List ℕ) → k < length items → x ≡ get_or items k x
    → z ≡ value x row [] → new ≡ out ++ 44 ∷ signed_decimal z
    → new ++ cells (items_over (drop (k + 1) items) row []) ≡ out ++ cells (items_over (drop k items) row [])
written_cell items k x row z out new low is h w =
    let rest = items_over (drop (k + 1) items) row [] in
    ap (λ l. l ++ cells rest) w
    ∙ append_assoc out (44 ∷ signed_decimal z) (cells rest)
    ∙ ap (λ l. out ++ cells l) (sym (next_asked items k x row z low is h))

-- the next entry of both
module _ (es fs : List (List ℤ × Numbers)) (i j : ℕ) (x y : List ℤ × Numbers) (mine : drop i es ≡ x ∷ drop (i + 1) es) (theirs : drop j fs ≡ y ∷ drop (j + 1) fs) where
  pub next_less : key_cmp x.0 y.0 ≡ Less → weave (drop i es) (drop j fs) ≡ x ∷ weave (drop (i + 1) es) (drop j fs)
  next_less h = ap₂ weave mine theirs ∙ weave_less x y (drop (i + 1) es) (drop (j + 1) fs) h ∙ ap (λ l. x ∷ weave (drop (i + 1) es) l) (sym theirs)

  pub next_equal : key_cmp x.0 y.0 ≡ Equal → weave (drop i es) (drop j fs) ≡ (x.0, join_numbers x.1 y.1) ∷ weave (drop (i + 1) es) (drop (j + 1) fs)
  next_equal h = ap₂ weave mine theirs ∙ weave_equal x y (drop (i + 1) es) (drop (j + 1) fs) h

  pub next_greater : key_cmp x.0 y.0 ≡ Greater → weave (drop i es) (drop j fs) ≡ y ∷ weave (drop i es) (drop (j + 1) fs)
  next_greater h = ap₂ weave mine theirs ∙ weave_greater x y (drop (i + 1) es) (drop (j + 1) fs) h ∙ ap (λ l. y ∷ weave l (drop (j + 1) fs)) (sym mine)

-- at the end of a walk over two lists there is nothing left of one
pub walked_lines : (i : ℕ) (is : List (List Product)) (out : List ℕ) (xs ys : List (List ℤ × Numbers)) → (xs ≡ []) ⊎ (ys ≡ [])
    → (out ++ lines_for i is xs) ++ lines_for i is ys ≡ out ++ lines_for i is (weave xs ys)
walked_lines i is out xs ys (inl e) =
    ap (λ l. (out ++ lines_for i is l) ++ lines_for i is ys) e
    ∙ ap (λ l. l ++ lines_for i is ys) (append-nil out)
    ∙ ap (λ l. out ++ lines_for i is (weave l ys)) (sym e)
walked_lines i is out xs ys (inr e) =
    ap (λ l. (out ++ lines_for i is xs) ++ lines_for i is l) e
    ∙ append-nil (out ++ lines_for i is xs)
    ∙ ap (λ l. out ++ lines_for i is l) (sym (weave_none xs))
    ∙ ap (λ l. out ++ lines_for i is (weave xs l)) (sym e)
