-- Parts that follow one another, as one more comes and the last goes.
use Rattle.std.proofs.Common.{◌≡◌, ℕ, zero, suc, ℤ, map, take, slice_index_or, slice_set, ◌≤◌, List, [], ◌∷◌, ◌++◌, length, Option, Some, None, MatchOption, Bor, refl, sym, ◌∙◌, ap, subst, length-append, arith}
use Rattle.std.specs.Option.{option_copied}
use Rattle.std.specs.List.{slice_get}
use Rattle.saber_plan.specs.Parts.{Part, group_answer, part_answers, part_lines, no_part, merge}
use Rattle.saber_plan.specs.Trees.{Tree}
use Rattle.saber_plan.specs.Answers.{key_cmp, entry_lines}
use Rattle.saber_plan.specs.Facts.Maps.{entries-empty}
use Rattle.saber_plan.specs.Facts.Parts.{merge-empty_left, merge-empty_right}
use Rattle.saber_partial.specs.Tallies.{CanMerge}
use Rattle.saber_partial.specs.MergeFacts.{can_ahead, can_back, can_behind, can_first, can_none, none_can}
use Rattle.saber_partial.specs.Piles.{piled_part, CanPile}
use Rattle.saber_laws.proofs.PartLaws.{merge_is_associative}

-- ---- one part more

pub piled-push : (ps : List Part) (p : Part) → piled_part (ps ++ p ∷ []) ≡ merge (piled_part ps) p
piled-push [] p = merge-empty_right p ∙ sym (merge-empty_left p)
piled-push (q ∷ ps) p = ap (merge q) (piled-push ps p) ∙ sym (merge_is_associative q (piled_part ps) p)

pub can_push : (ps : List Part) (p : Part) → CanPile ps → CanMerge (piled_part ps) p → CanPile (ps ++ p ∷ [])
can_push [] p h g = (can_none p, tt)
can_push (q ∷ ps) p h g =
    (subst (CanMerge q) (sym (piled-push ps p)) (can_ahead q (piled_part ps) p h.0 g), can_push ps p h.1 (can_behind q (piled_part ps) p h.0 g))

pub can_pop : (ps : List Part) (p : Part) → CanPile (ps ++ p ∷ []) → CanPile ps × CanMerge (piled_part ps) p
can_pop [] p h = (tt, none_can p)
can_pop (q ∷ ps) p h =
    let behind = can_pop ps p h.1 in
    let all = subst (CanMerge q) (piled-push ps p) h.0 in
    ((can_first q (piled_part ps) p behind.1 all, behind.0), can_back q (piled_part ps) p behind.1 all)

-- ---- the last of some parts takes in what comes behind it

pub record Joined (old rest : List Part) (a b : Part) : Type 0 where
  pub rest_can : CanPile rest
  pub two : CanMerge a b
  pub can : CanPile (rest ++ merge a b ∷ [])
  pub all : piled_part (rest ++ merge a b ∷ []) ≡ merge (piled_part old) b

pub joined : (old rest : List Part) (a b : Part) → old ≡ rest ++ a ∷ [] → CanPile old → CanMerge (piled_part old) b → Joined old rest a b
joined old rest a b e h g =
    let front = can_pop rest a (subst CanPile e h) in
    let one = ap piled_part e ∙ piled-push rest a in
    let both = subst (λ m. CanMerge m b) one g in
    record {
      rest_can = front.0;
      two = can_behind (piled_part rest) a b front.1 both;
      can = can_push rest (merge a b) front.0 (can_ahead (piled_part rest) a b front.1 both);
      all = piled-push rest (merge a b) ∙ sym (merge_is_associative (piled_part rest) a b) ∙ ap (λ m. merge m b) (sym one);
    }

-- the last of some, and another in its place
pub last_is : (ps : List Part) (i : ℕ) (a : Part) → length ps ≡ suc i → a ≡ slice_index_or ps i a → ps ≡ take i ps ++ a ∷ []
last_is [] i a h e = absurd (omega (arith, h))
last_is (p ∷ []) zero a h e = ap (λ q. q ∷ []) (sym e)
last_is (p ∷ []) (suc i) a h e = absurd (omega (arith, h))
last_is (p ∷ q ∷ ps) zero a h e = absurd (omega (arith, h))
last_is (p ∷ q ∷ ps) (suc i) a h e = ap (λ l. p ∷ l) (last_is (q ∷ ps) i a (omega (arith, h)) e)

pub last_set : (ps : List Part) (i : ℕ) (a : Part) → length ps ≡ suc i → slice_set ps i a ≡ take i ps ++ a ∷ []
last_set [] i a h = absurd (omega (arith, h))
last_set (p ∷ []) zero a h = refl
last_set (p ∷ []) (suc i) a h = absurd (omega (arith, h))
last_set (p ∷ q ∷ ps) zero a h = absurd (omega (arith, h))
last_set (p ∷ q ∷ ps) (suc i) a h = ap (λ l. p ∷ l) (last_set (q ∷ ps) i a (omega (arith, h)))

-- ---- one part alone

pub last_alone : (ps rest : List Part) (p : Part) → ps ≡ rest ++ p ∷ [] → length ps ≤ 1 → piled_part ps ≡ p
last_alone ps [] p e h = ap piled_part e ∙ merge-empty_right p
last_alone ps (q ∷ rest) p e h = absurd (let long = ap length e in let more = length-append rest (p ∷ []) in omega (arith, h, long, more))

pub only_part : (ps : List Part) (o : Option (Bor Part)) → length ps ≤ 1 → option_copied o ≡ slice_get ps 0 → MatchOption o (piled_part ps ≡ no_part) (λ p. piled_part ps ≡ p.now)
only_part [] None h e = refl
only_part [] (Some b) h e = absurd (let f : Some b.now ≡ None = e in cc)
only_part (p ∷ []) None h e = absurd (let f : None ≡ Some p = e in cc)
only_part (p ∷ []) (Some b) h e = merge-empty_right p ∙ (let f : Some b.now ≡ Some p = e in cc)
only_part (p ∷ q ∷ ps) o h e = absurd (omega (arith, h))

pub lines-none : (q : Tree) (i : ℕ) → part_lines q i no_part ≡ []
lines-none q i = ap (λ es. entry_lines i (map (group_answer q.shape q.items) es)) (entries-empty key_cmp)

pub answers-none : (q : Tree) → part_answers q no_part ≡ []
answers-none q = ap (λ es. map (λ (e : List ℤ × List ℤ). e.1) (map (group_answer q.shape q.items) es)) (entries-empty key_cmp)
