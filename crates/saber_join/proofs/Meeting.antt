-- A row that meets rows of the other side, one after another.
use Rattle.std.proofs.Common.{◌≡◌, ℕ, ◌+◌, ◌<◌, max, min, List, [], ◌∷◌, ◌++◌, length, take, get_or, map, filter, Bool, true, false, cond, ◌&&◌, nat_le, nat_lt, refl, sym, ◌∙◌, ap, subst, append-nil, arith}
use Rattle.std.proofs.lemmas.Bool.Decides.{nat_tests}
use Rattle.std.proofs.lemmas.List.{take_more, map-append}
use Rattle.std.proofs.lemmas.List.Elements.{filter-append}
use Rattle.saber_plan.specs.Trees.{Tree}
use Rattle.saber_plan.specs.Windows.{Placed}
use Rattle.saber_plan.specs.Parts.{Part}
use Rattle.saber_join.specs.Shelves.{Card, no_card, cards_at}
use Rattle.saber_join.specs.Adding.{with_rights, with_lefts}
use Rattle.saber_join.specs.Open.{Windows, pairs_in, Changed, lies_in, rows_in, meeting_rights, meeting_lefts, with_pair}
use Rattle.saber_join.proofs.Adding.{rights_none, rights_more, lefts_none, lefts_more}
use Rattle.saber_join.proofs.Changing.{none_changed}

-- ---- one card more

rows_more : (i : ℕ) (es : List Card) (e : Card) → rows_in i (es ++ e ∷ []) ≡ rows_in i es ++ map (λ e. e.seen) (cond (lies_in i e) (e ∷ []) [])
rows_more i es e = ap (map (λ (e : Card). e.seen)) (filter-append (lies_in i) es (e ∷ [])) ∙ map-append (λ (e : Card). e.seen) (filter (lies_in i) es) (cond (lies_in i e) (e ∷ []) [])

rights_case : (q : Tree) (x : Placed) (us : List Placed) (e : Card) (p : Part) (b : Bool) → with_rights q p x (us ++ map (λ (e : Card). e.seen) (cond b (e ∷ []) [])) ≡ cond b (with_rights q (with_rights q p x us) x (e.seen ∷ [])) (with_rights q p x us)
rights_case q x us e p true = rights_more q p x us (e.seen ∷ [])
rights_case q x us e p false = ap (with_rights q p x) (append-nil us)

lefts_case : (q : Tree) (y : Placed) (us : List Placed) (e : Card) (p : Part) (b : Bool) → with_lefts q p y (us ++ map (λ (e : Card). e.seen) (cond b (e ∷ []) [])) ≡ cond b (with_rights q (with_lefts q p y us) e.seen (y ∷ [])) (with_lefts q p y us)
lefts_case q y us e p true = lefts_more q p y us e.seen
lefts_case q y us e p false = ap (with_lefts q p y) (append-nil us)

inner : (low past first last i : ℕ) → (nat_le low i && nat_lt i past) ≡ true → (nat_le (max low first) i && nat_lt i (min past last)) ≡ (nat_le first i && nat_lt i last)
inner low past first last i h = grind (arith, nat_tests)

outer : (low past first last i : ℕ) → (nat_le low i && nat_lt i past) ≡ false → (nat_le (max low first) i && nat_lt i (min past last)) ≡ false
outer low past first last i h = grind (arith, nat_tests)

module _ (g more h : ℕ → Part → Part) (e : Card) (step : (i : ℕ) (p : Part) → more i p ≡ cond (lies_in i e) (h i (g i p)) (g i p)) (low past : ℕ) (m n k : Windows) (c : Changed g low past m n) (d : Changed h (max low e.first) (min past e.past) n k) where
  met_case : (i : ℕ) (b : Bool) → (nat_le low i && nat_lt i past) ≡ b → pairs_in n i ≡ cond b (g i (pairs_in m i)) (pairs_in m i) → pairs_in k i ≡ cond b (more i (pairs_in m i)) (pairs_in m i)
  met_case i true t s =
      d.at i ∙ ap (λ b. cond b (h i (pairs_in n i)) (pairs_in n i)) (inner low past e.first e.past i t) ∙ ap (λ p. cond (lies_in i e) (h i p) p) s ∙ sym (step i (pairs_in m i))
  met_case i false t s = d.at i ∙ ap (λ b. cond b (h i (pairs_in n i)) (pairs_in n i)) (outer low past e.first e.past i t) ∙ s

  met : Changed more low past m k
  met = record { at = λ i. met_case i (nat_le low i && nat_lt i past) refl (c.at i) }

-- ---- no card yet, and the next of those that are found

pub rights_start : (q : Tree) (x : Placed) (low past : ℕ) (m : Windows) → Changed (meeting_rights q x []) low past m m
rights_start q x low past m = none_changed (meeting_rights q x []) low past m (λ i p. rights_none q p x)

pub lefts_start : (q : Tree) (y : Placed) (low past : ℕ) (m : Windows) → Changed (meeting_lefts q y []) low past m m
lefts_start q y low past m = none_changed (meeting_lefts q y []) low past m (λ i p. lefts_none q p y)

cards_more : (es : List Card) (found : List ℕ) (j a : ℕ) (e : Card) → j < length found → a ≡ get_or found j a → e ≡ get_or es a no_card → cards_at es (take (j + 1) found) ≡ cards_at es (take j found) ++ e ∷ []
cards_more es found j a e l is it = ap (cards_at es) (take_more found j a l) ∙ map-append (λ i. get_or es i no_card) (take j found) (get_or found j a ∷ []) ∙ ap (λ z. cards_at es (take j found) ++ z ∷ []) (ap (λ i. get_or es i no_card) (sym is) ∙ sym it)

pub rights_next : (q : Tree) (x : Placed) (es : List Card) (found : List ℕ) (j a : ℕ) (e : Card) → j < length found → a ≡ get_or found j a → e ≡ get_or es a no_card → (low past : ℕ) (m n k : Windows)
    → Changed (meeting_rights q x (cards_at es (take j found))) low past m n → Changed (with_pair q x e.seen) (max low e.first) (min past e.past) n k → Changed (meeting_rights q x (cards_at es (take (j + 1) found))) low past m k
rights_next q x es found j a e l is it low past m n k c d =
    let us = cards_at es (take j found) in
    subst (λ cs. Changed (meeting_rights q x cs) low past m k) (sym (cards_more es found j a e l is it))
    (met (meeting_rights q x us) (meeting_rights q x (us ++ e ∷ [])) (with_pair q x e.seen) e (λ i p. ap (with_rights q p x) (rows_more i us e) ∙ rights_case q x (rows_in i us) e p (lies_in i e)) low past m n k c d)

pub lefts_next : (q : Tree) (y : Placed) (es : List Card) (found : List ℕ) (j a : ℕ) (e : Card) → j < length found → a ≡ get_or found j a → e ≡ get_or es a no_card → (low past : ℕ) (m n k : Windows)
    → Changed (meeting_lefts q y (cards_at es (take j found))) low past m n → Changed (with_pair q e.seen y) (max low e.first) (min past e.past) n k → Changed (meeting_lefts q y (cards_at es (take (j + 1) found))) low past m k
lefts_next q y es found j a e l is it low past m n k c d =
    let us = cards_at es (take j found) in
    subst (λ cs. Changed (meeting_lefts q y cs) low past m k) (sym (cards_more es found j a e l is it))
    (met (meeting_lefts q y us) (meeting_lefts q y (us ++ e ∷ [])) (with_pair q e.seen y) e (λ i p. ap (with_lefts q p y) (rows_more i us e) ∙ lefts_case q y (rows_in i us) e p (lies_in i e)) low past m n k c d)
