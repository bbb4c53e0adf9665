-- Pairs added to a part, one after another.
use Rattle.std.proofs.Common.{◌≡◌, List, [], ◌∷◌, ◌++◌, map, flat_map, Bool, true, false, cond, ℤ, refl, sym, ◌∙◌, ap, append-nil}
use Rattle.std.proofs.lemmas.Grind.{fold-append}
use Rattle.std.proofs.lemmas.List.Concat.{flat_map-append}
use Rattle.std.specs.FinMap.{insert}
use Rattle.saber_plan.specs.Trees.{Tree}
use Rattle.saber_plan.specs.Values.{passes}
use Rattle.saber_plan.specs.Windows.{Placed}
use Rattle.saber_plan.specs.Answers.{pair_key, pairs_with}
use Rattle.saber_plan.specs.Parts.{Part, Numbers, pair_numbers}
use Rattle.saber_plan.specs.Pairing.{with_entries}
use Rattle.std.proofs.lemmas.List.{map-append}
use Rattle.std.proofs.lemmas.List.Elements.{filter-append}
use Rattle.saber_join.specs.Adding.{with_rights, with_lefts}

with-append : (q : Tree) (x : Placed) (us vs : List Placed) → pairs_with q (pair_numbers q) x (us ++ vs) ≡ pairs_with q (pair_numbers q) x us ++ pairs_with q (pair_numbers q) x vs
with-append q x us vs = ap (map (λ y. (pair_key x y, pair_numbers q x y))) (filter-append (λ y. passes q.predicate x.row.values y.row.values) us vs) ∙ map-append _ _ _

one_case : (q : Tree) (p : Part) (x y : Placed) (b : Bool) → with_entries p (map (λ z. (pair_key x z, pair_numbers q x z)) (cond b (y ∷ []) [])) ≡ cond b (insert p (pair_key x y) (pair_numbers q x y)) p
one_case q p x y true = refl
one_case q p x y false = refl

pub with_one : (q : Tree) (p : Part) (x y : Placed) (b : Bool) → passes q.predicate x.row.values y.row.values ≡ b → with_rights q p x (y ∷ []) ≡ cond b (insert p (pair_key x y) (pair_numbers q x y)) p
unfolding with_rights
with_one q p x y b e = one_case q p x y (passes q.predicate x.row.values y.row.values) ∙ ap (λ c. cond c (insert p (pair_key x y) (pair_numbers q x y)) p) e

pub pair_in : (q : Tree) (p : Part) (x y : Placed) (k : List ℤ) (n : Numbers) → passes q.predicate x.row.values y.row.values ≡ true → k ≡ pair_key x y → n ≡ pair_numbers q x y → insert p k n ≡ with_rights q p x (y ∷ [])
pair_in q p x y k n e f g = (λ i. insert p (f i) (g i)) ∙ sym (with_one q p x y true e)

pub pair_out : (q : Tree) (p : Part) (x y : Placed) → passes q.predicate x.row.values y.row.values ≡ false → p ≡ with_rights q p x (y ∷ [])
pair_out q p x y e = sym (with_one q p x y false e)

pub rights_none : (q : Tree) (p : Part) (x : Placed) → with_rights q p x [] ≡ p
unfolding with_rights
rights_none q p x = refl

pub rights_more : (q : Tree) (p : Part) (x : Placed) (us vs : List Placed) → with_rights q p x (us ++ vs) ≡ with_rights q (with_rights q p x us) x vs
unfolding with_rights
rights_more q p x us vs = ap (with_entries p) (with-append q x us vs) ∙ fold-append (λ m e. insert m e.0 e.1) p (pairs_with q (pair_numbers q) x us) (pairs_with q (pair_numbers q) x vs)

pub lefts_none : (q : Tree) (p : Part) (y : Placed) → with_lefts q p y [] ≡ p
unfolding with_lefts
lefts_none q p y = refl

pub lefts_more : (q : Tree) (p : Part) (y : Placed) (us : List Placed) (x : Placed) → with_lefts q p y (us ++ x ∷ []) ≡ with_rights q (with_lefts q p y us) x (y ∷ [])
unfolding with_lefts with_rights
lefts_more q p y us x =
    let g = λ (z : Placed). pairs_with q (pair_numbers q) z (y ∷ []) in
    ap (with_entries p) (flat_map-append g us (x ∷ []) ∙ ap (λ l. flat_map g us ++ l) (append-nil (g x))) ∙ fold-append (λ m e. insert m e.0 e.1) p (flat_map g us) (g x)
