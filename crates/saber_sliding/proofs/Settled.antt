-- What a queue comes to where the back is the front, by what its front and the merge of its back are.
use Rattle.std.proofs.Common.{◌≡◌, ℕ, ◌≤◌, [], ◌∷◌, length, map, Some, None, refl, sym, ◌∙◌, ap, subst₂, arith}
use Rattle.saber_plan.specs.Trees.{Tree}
use Rattle.saber_plan.specs.Answers.{entry_lines, key_cmp, Entry}
use Rattle.saber_plan.specs.Facts.Maps.{entries-empty}
use Rattle.saber_plan.specs.Facts.Parts.{merge-empty_right}
use Rattle.saber_plan.specs.Parts.{Part, no_part, merge, group_answer, part_answers, part_lines}
use Rattle.saber_partial.specs.Tallies.{CanMerge}
use Rattle.saber_sliding.specs.Entries.{Entries, first_number, queue_entries, suffixes, whole, CanFollow, Sound}
use Rattle.saber_sliding.proofs.Entered.{whole_alone}

-- ---- no group

pub no_answers : (q : Tree) → part_answers q no_part ≡ []
no_answers q = ap (λ es. map (λ (e : Entry). e.1) (map (group_answer q.shape q.items) es)) (entries-empty key_cmp)

pub no_lines : (q : Tree) (i : ℕ) → part_lines q i no_part ≡ []
no_lines q i = ap (λ es. entry_lines i (map (group_answer q.shape q.items) es)) (entries-empty key_cmp)

-- ---- the first entry

pub whole_front : (front back : Entries) (b : Part) → 1 ≤ length front → whole (queue_entries front back b) ≡ merge (whole front) b
whole_front [] back b h = absurd (omega (arith, h))
whole_front (e ∷ front) back b h = refl

pub front_alone : (front back : Entries) (b : Part) → 1 ≤ length front → b ≡ no_part → whole (queue_entries front back b) ≡ whole front
front_alone front back b h e = whole_front front back b h ∙ ap (merge (whole front)) e ∙ merge-empty_right (whole front)

pub front_can : (front : Entries) (p : Part) → 1 ≤ length front → CanFollow p front → CanMerge (whole front) p
front_can [] p h g = absurd (omega (arith, h))
front_can (e ∷ front) p h g = g.0

-- ---- the whole, by what is at hand of it

pub both_seen : (front back es : Entries) (b p q : Part) → 1 ≤ length front → p ≡ whole front → b ≡ q → queue_entries front back b ≡ es → merge p q ≡ whole es
both_seen front back es b p q h e f s = (λ i. merge (e i) (sym f i)) ∙ sym (whole_front front back b h) ∙ ap whole s

pub front_seen : (front back es : Entries) (b p : Part) → 1 ≤ length front → p ≡ whole front → b ≡ no_part → queue_entries front back b ≡ es → p ≡ whole es
front_seen front back es b p h e f s = e ∙ sym (front_alone front back b h f) ∙ ap whole s

pub back_seen : (front back es : Entries) (b q : Part) → Sound front back b → front ≡ [] → b ≡ q → queue_entries front back b ≡ es → q ≡ whole es
back_seen front back es b q sound e f s = let none = ap (λ (l : Entries). length l) e in sym f ∙ whole_alone front back b sound (omega (arith, none)) ∙ ap whole s

pub both_can : (front back : Entries) (b p q : Part) → Sound front back b → 1 ≤ length front → p ≡ whole front → b ≡ q → CanMerge p q
both_can front back b p q sound h e f = subst₂ CanMerge (sym e) f (front_can front b h sound.joins)

-- ---- the first entry's number

pub first_of_front : (front back : Entries) (b : Part) (n : ℕ) → Some n ≡ first_number front → Some n ≡ first_number (queue_entries front back b)
first_of_front [] back b n e = absurd (let f : Some n ≡ None = e in cc)
first_of_front (d ∷ front) back b n e = e

first_of_suffixes : (back : Entries) → first_number (suffixes back) ≡ first_number back
first_of_suffixes [] = refl
first_of_suffixes (d ∷ back) = refl

pub first_of_back : (front back : Entries) (b : Part) → front ≡ [] → first_number back ≡ first_number (queue_entries front back b)
first_of_back front back b e = sym (first_of_suffixes back) ∙ ap (λ l. first_number (queue_entries l back b)) (sym e)
