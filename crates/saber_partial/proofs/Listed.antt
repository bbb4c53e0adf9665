-- The answers of a part, group by group, as values.
use Rattle.std.proofs.Common.{◌≡◌, ℕ, ◌+◌, ◌<◌, List, [], ◌∷◌, ◌++◌, length, get_or, drop, map, ◌⊎◌, inl, inr, ℤ, sym, ◌∙◌, ap, subst, subst₂, append_assoc, append-nil}
use Rattle.std.proofs.lemmas.List.{drop_more}
use Rattle.std.proofs.lemmas.Simd.{map-map}
use Rattle.saber_plan.specs.declared.expressions.Product.{Product}
use Rattle.saber_plan.specs.declared.plans.Shape.TheVariants.{Group}
use Rattle.saber_plan.specs.Answers.{items_over}
use Rattle.saber_plan.specs.Facts.Maps.{entries-from_rising}
use Rattle.saber_plan.specs.Facts.Parts.{total, exact}
use Rattle.saber_plan.specs.Parts.{Numbers, group_answer, answers_of, join_numbers, part_answers}
use Rattle.saber_plan.specs.Trees.{Tree}
use Rattle.saber_plan.specs.Values.{value}
use Rattle.saber_partial.specs.declared.layout.Layout.{Layout}
use Rattle.saber_partial.specs.Flat.{entry_in, IsLayout, IsRow}
use Rattle.saber_partial.specs.Printing.{answers_under, joined_row}
use Rattle.saber_partial.specs.Sorted.{part_of, weave, Rises}
use Rattle.saber_partial.specs.Tallies.{CanJoin}
use Rattle.saber_partial.proofs.RowNumbers.{both_entry, both_is_row, flat_row}
use Rattle.saber_partial.proofs.Weaving.{weave_none}

-- the answers of a part that is a list by key
pub part_listed : (q : Tree) (es : List (List ℤ × Numbers)) → q.shape ≡ Group → Rises es → answers_under q.items es ≡ part_answers q (part_of es)
part_listed q es g s = sym (
    ap (λ l. map (λ (e : List ℤ × List ℤ). e.1) (map (group_answer q.shape q.items) l)) (entries-from_rising total exact es s)
    ∙ map-map (λ (e : List ℤ × List ℤ). e.1) (group_answer q.shape q.items) es
    ∙ ap (λ shape. map (λ (e : List ℤ × Numbers). answers_of shape q.items e.0 e.1) es) g)

-- the answers of the group that a row is
pub of_row : (is : List (List Product)) (l : Layout) (xs : List ℤ) (e : List ℤ × Numbers) → IsLayout l → IsRow l xs → entry_in l xs ≡ e
    → items_over is xs [] ≡ answers_of Group is e.0 e.1
of_row is l xs e k r h = ap (λ zs. items_over is zs []) (sym (flat_row l xs k r)) ∙ ap (λ (d : List ℤ × Numbers). answers_of Group is d.0 d.1) h

-- two rows in tables of one layout, that are entries which can be joined
module _ (l m n : Layout) (xs ys : List ℤ) (d e : List ℤ × Numbers) (a : l ≡ m) (b : m ≡ n) (k : IsLayout m) (r : IsRow m xs) (s : IsRow n ys)
    (h : entry_in m xs ≡ d) (g : entry_in n ys ≡ e) (c : CanJoin d.1 e.1) where
  lies : IsLayout l
  lies = subst IsLayout (sym a) k

  row_lies : IsRow l xs
  row_lies = subst (λ (x : Layout). IsRow x xs) (sym a) r

  later_lies : IsRow l ys
  later_lies = subst (λ (x : Layout). IsRow x ys) (sym (a ∙ b)) s

  mine : entry_in l xs ≡ d
  mine = ap (λ (x : Layout). entry_in x xs) a ∙ h

  theirs : entry_in l ys ≡ e
  theirs = ap (λ (x : Layout). entry_in x ys) (a ∙ b) ∙ g

  pub can_both : CanJoin (entry_in l xs).1 (entry_in l ys).1
  can_both = subst₂ (λ (x y : List ℤ × Numbers). CanJoin x.1 y.1) (sym mine) (sym theirs) c

  -- the answers of the group that they are
  pub of_both : (is : List (List Product)) → items_over is (joined_row l xs ys) [] ≡ answers_of Group is d.0 (join_numbers d.1 e.1)
  of_both is =
      of_row is l (joined_row l xs ys) (d.0, join_numbers d.1 e.1) lies (both_is_row l xs ys lies row_lies later_lies can_both)
      (both_entry l xs ys lies row_lies later_lies can_both ∙ (λ i. ((mine i).0, join_numbers (mine i).1 (theirs i).1)))

-- what went from the front of one list to the end of another
pub moved : {A : Type 0} (out new xs ys : List A) (x : A) → new ≡ out ++ x ∷ [] → xs ≡ x ∷ ys → new ++ ys ≡ out ++ xs
moved out new xs ys x w h = ap (λ l. l ++ ys) w ∙ append_assoc out (x ∷ []) ys ∙ ap (λ l. out ++ l) (sym h)

-- the answer to one item, and those to the items behind it
pub next_asked : (items : List (List Product)) (k : ℕ) (x : List Product) (row : List ℤ) (z : ℤ) → k < length items → x ≡ get_or items k x
    → z ≡ value x row [] → items_over (drop k items) row [] ≡ z ∷ items_over (drop (k + 1) items) row []
next_asked items k x row z low is h =
    ap (λ l. items_over l row []) (drop_more items k x low ∙ ap (λ y. y ∷ drop (k + 1) items) (sym is))
    ∙ ap (λ v. v ∷ items_over (drop (k + 1) items) row []) (sym h)

-- a walk that put the answers of one group behind others has those behind it to put
pub put_one : (is : List (List Product)) (out new : List (List ℤ)) (zs : List ℤ) (e : List ℤ × Numbers) (xs ys : List (List ℤ × Numbers))
    → zs ≡ answers_of Group is e.0 e.1 → xs ≡ e ∷ ys → new ≡ out ++ zs ∷ [] → new ++ answers_under is ys ≡ out ++ answers_under is xs
put_one is out new zs e xs ys k h w =
    moved out new (answers_under is xs) (answers_under is ys) (answers_of Group is e.0 e.1) (w ∙ ap (λ m. out ++ m ∷ []) k) (ap (answers_under is) h)

-- at the end of a walk over two lists there is nothing left of one
pub walked_answers : (is : List (List Product)) (out : List (List ℤ)) (xs ys : List (List ℤ × Numbers)) → (xs ≡ []) ⊎ (ys ≡ [])
    → (out ++ answers_under is xs) ++ answers_under is ys ≡ out ++ answers_under is (weave xs ys)
walked_answers is out xs ys (inl e) =
    ap (λ l. (out ++ answers_under is l) ++ answers_under is ys) e
    ∙ ap (λ l. l ++ answers_under is ys) (append-nil out)
    ∙ ap (λ l. out ++ answers_under is (weave l ys)) (sym e)
walked_answers is out xs ys (inr e) =
    ap (λ l. (out ++ answers_under is xs) ++ answers_under is l) e
    ∙ append-nil (out ++ answers_under is xs)
    ∙ ap (λ l. out ++ answers_under is l) (sym (weave_none xs))
    ∙ ap (λ l. out ++ answers_under is (weave xs l)) (sym e)
