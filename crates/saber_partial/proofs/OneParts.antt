-- Parts of one group, without a key: what they merge to, what can follow them, and such parts in the making.
use Rattle.std.proofs.Common.{◌≡◌, ℕ, suc, ◌+◌, ◌-◌, ◌≤◌, List, [], ◌∷◌, ◌++◌, length, get_or, ℤ, Some, refl, sym, ◌∙◌, ap, ap₂, arith}
use Rattle.std.proofs.Math.ListN.{set}
use Rattle.std.specs.FinMap.{get, get-empty, get-from_entries}
use Rattle.saber_plan.specs.Answers.{key, key_cmp}
use Rattle.saber_plan.specs.Facts.Lists.{all_weaker}
use Rattle.saber_plan.specs.Facts.Parts.{total}
use Rattle.saber_plan.specs.Parts.{Part, Numbers, numbers, no_part, join_numbers, group_part, merge}
use Rattle.saber_plan.specs.Trees.{Tree}
use Rattle.saber_partial.specs.MergeFacts.{not_both}
use Rattle.saber_partial.specs.Ones.{before_last, joined_last, last_part, AreKeyless, AreOf, IsOne}
use Rattle.saber_partial.specs.PartLaws.{OfRows}
use Rattle.saber_partial.specs.Sorted.{alone}
use Rattle.saber_partial.specs.Tallies.{CanJoin, CanMerge}
use Rattle.saber_partial.proofs.Adding.{merge_one, one_part, some_found}
use Rattle.saber_partial.proofs.Counted.{more_rows}
use Rattle.saber_partial.proofs.Rising.{wrote_part}
use Rattle.saber_partial.proofs.RowParted.{all_more}

-- ---- one part

pub no_key : (k : List ℤ) → length k ≡ 0 → k ≡ []
no_key [] h = refl
no_key (z ∷ k) h = absurd (omega (arith, h))

-- what it has under the empty key
pub one_found : (p : Part) (h : IsOne p) → get p [] ≡ Some h.0
one_found p h = ap (λ (m : Part). get m []) h.1 ∙ some_found ([], h.0) []

pub one_not_none : (p : Part) → IsOne p → p ≡ no_part → ⊥
one_not_none p h e = not_both (ap (λ (m : Part). get m []) e ∙ get-empty key_cmp []) (one_found p h)

-- one entry, whose key is empty
pub entry_is_one : (e : List ℤ × Numbers) → e.0 ≡ [] → alone e ≡ alone ([], e.1)
entry_is_one e h = ap (λ (k : List ℤ). alone (k, e.1)) h

-- the key of a part of one entry
-- ---- the row's part

pub row_alone : (q : Tree) (zs : List ℤ) → q.keys ≡ [] → group_part q (zs ∷ []) ≡ alone ([], numbers q.aggregates (zs ∷ []))
row_alone q zs h = one_part q zs ∙ ap (λ ks. alone (key ks zs, numbers q.aggregates (zs ∷ []))) h

pub row_is_one : (q : Tree) (zs : List ℤ) → q.keys ≡ [] → IsOne (group_part q (zs ∷ []))
row_is_one q zs h = (numbers q.aggregates (zs ∷ []), row_alone q zs h)

-- ---- two of them

pub merge_ones : (a b : Numbers) → merge (alone ([], a)) (alone ([], b)) ≡ alone ([], join_numbers a b)
merge_ones a b =
    sym (wrote_part (([], a) ∷ []) (([], join_numbers a b) ∷ []) [] 0 ([], a) b tt (record { within = omega arith; at = λ d. refl }) refl
    ∙ merge_one (alone ([], a)) [] b)

pub merge_is_one : (p r : Part) → IsOne p → IsOne r → IsOne (merge p r)
merge_is_one p r h g = (join_numbers h.0 g.0, ap₂ merge h.1 g.1 ∙ merge_ones h.0 g.0)

key_of : (k : List ℤ) (v : Numbers) → IsOne (alone (k, v)) → k ≡ []
key_of [] v h = refl
key_of (z ∷ k) v h = absurd (not_both (get-from_entries total ((z ∷ k, v) ∷ []) []) (one_found (alone (z ∷ k, v)) h))

-- the key of its entry is empty
pub key_of_one : (e : List ℤ × Numbers) → IsOne (alone e) → e.0 ≡ []
key_of_one e h = key_of e.0 e.1 h

-- two entries that can be joined
pub can_ones : (d e : List ℤ × Numbers) → d.0 ≡ e.0 → CanMerge (alone d) (alone e) → CanJoin d.1 e.1
can_ones d e h c = c.at d.0 d.1 e.1 (some_found d []) (ap (get (alone e)) h ∙ some_found e [])

-- an entry without a key is one
pub keyless_is_one : (e : List ℤ × Numbers) → AreKeyless (alone e) → IsOne (alone e)
keyless_is_one e h = (e.1, entry_is_one e (h e.0 e.1 (some_found e [])))

-- what follows one is without a key
pub keyless_behind : (p r : Part) → IsOne p → CanMerge p r → AreKeyless r
keyless_behind p r h c = λ k a g. no_key k (sym (c.alike [] k h.0 a (one_found p h) g).keys)

pub one_behind : (p : Part) (e : List ℤ × Numbers) → IsOne p → CanMerge p (alone e) → IsOne (alone e)
one_behind p e h c = keyless_is_one e (keyless_behind p (alone e) h c)

pub are_of_more : (q : Tree) (n : ℕ) (ps : List Part) (p : Part) → AreOf q ps → OfRows q n p → AreOf q (ps ++ p ∷ [])
are_of_more q n ps p h g =
    let m = h.0 in
    (m + n, all_more (OfRows q (m + n)) ps p (all_weaker (OfRows q m) (OfRows q (m + n)) (λ x w. more_rows q m (m + n) x (omega arith) w) ps h.1) (more_rows q n (m + n) p (omega arith) g))

-- ---- the last of some

pub parted : (ps : List Part) → 1 ≤ length ps → before_last ps ++ last_part ps ∷ [] ≡ ps
parted [] h = absurd (omega (arith, h))
parted (p ∷ []) h = refl
parted (p ∷ r ∷ ps) h = ap (λ l. p ∷ l) (parted (r ∷ ps) (omega arith))

pub length-before : (ps : List Part) → length (before_last ps) ≡ length ps - 1
length-before [] = refl
length-before (p ∷ []) = refl
length-before (p ∷ r ∷ ps) = let rest = length-before (r ∷ ps) in omega (arith, rest)

pub before_more : (ps : List Part) (p : Part) → before_last (ps ++ p ∷ []) ≡ ps
before_more [] p = refl
before_more (o ∷ []) p = refl
before_more (o ∷ r ∷ ps) p = ap (λ l. o ∷ l) (before_more (r ∷ ps) p)

pub last_more : (ps : List Part) (p : Part) → last_part (ps ++ p ∷ []) ≡ p
last_more [] p = refl
last_more (o ∷ []) p = refl
last_more (o ∷ r ∷ ps) p = last_more (r ∷ ps) p

less_one : (n : ℕ) → suc (suc n) - 1 ≡ suc (suc n - 1)
less_one n = omega arith

pub last_at : (ps : List Part) → get_or ps (length ps - 1) no_part ≡ last_part ps
last_at [] = refl
last_at (p ∷ []) = refl
last_at (p ∷ r ∷ ps) = ap (λ k. get_or (p ∷ r ∷ ps) k no_part) (less_one (length ps)) ∙ last_at (r ∷ ps)

-- the last one written over
pub last_set : (ps : List Part) (q : Part) → set ps (length ps - 1) (merge (last_part ps) q) ≡ joined_last q ps
last_set [] q = refl
last_set (p ∷ []) q = refl
last_set (p ∷ r ∷ ps) q = ap (λ k. set (p ∷ r ∷ ps) k (merge (last_part (r ∷ ps)) q)) (less_one (length ps)) ∙ ap (λ l. p ∷ l) (last_set (r ∷ ps) q)

pub joined_more : (ps : List Part) (q : Part) → 1 ≤ length ps → joined_last q ps ≡ before_last ps ++ merge (last_part ps) q ∷ []
joined_more [] q h = absurd (omega (arith, h))
joined_more (p ∷ []) q h = refl
joined_more (p ∷ r ∷ ps) q h = ap (λ l. p ∷ l) (joined_more (r ∷ ps) q (omega arith))
