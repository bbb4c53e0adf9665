-- Windows of a queue that are closed, one after another.
use Rattle.std.proofs.Common.{◌≡◌, ℕ, ◌≤◌, [], ◌∷◌, map, Bool, true, false, cond, nat_le, refl, sym, ◌∙◌, ap, le_trans, arith}
use Rattle.std.proofs.lemmas.Bool.Decides.{nat_tests}
use Rattle.saber_plan.specs.Trees.{Tree}
use Rattle.saber_plan.specs.Answers.{Entry, key_cmp}
use Rattle.saber_plan.specs.Facts.Maps.{entries-empty}
use Rattle.saber_plan.specs.Parts.{Part, no_part, group_answer, part_answers}
use Rattle.saber_sliding.specs.Entries.{Entries, whole, dropped_entries, part_at}
use Rattle.saber_sliding.specs.EntryFacts.{whole-dropped}

-- ---- what is left of a queue

dropped_case : (i j : ℕ) (e : ℕ × Part) (es : Entries) (b : Bool) → nat_le e.0 i ≡ b → i ≤ j → dropped_entries j (dropped_entries i es) ≡ dropped_entries j es
    → dropped_entries j (cond b (dropped_entries i es) (e ∷ es)) ≡ cond (nat_le e.0 j) (dropped_entries j es) (e ∷ es)
dropped_case i j e es true h up rest =
    let past : nat_le e.0 j ≡ true = grind (arith, nat_tests) in
    rest ∙ ap (λ b. cond b (dropped_entries j es) (e ∷ es)) (sym past)
dropped_case i j e es false h up rest = refl

-- what a later window doesn't have may go first
dropped_twice : (i j : ℕ) (es : Entries) → i ≤ j → dropped_entries j (dropped_entries i es) ≡ dropped_entries j es
dropped_twice i j [] up = refl
dropped_twice i j (e ∷ es) up = dropped_case i j e es (nat_le e.0 i) refl up (dropped_twice i j es up)

-- The windows from n on have of these entries what they have of those.
abbrev pub SameFrom : ℕ → Entries → Entries → Type 0
SameFrom n es fs = (i : ℕ) → n ≤ i → dropped_entries i es ≡ dropped_entries i fs

pub same_later : (n k : ℕ) (es fs : Entries) → n ≤ k → SameFrom n es fs → SameFrom k es fs
same_later n k es fs up same = λ i l. same i (le_trans up l)

pub same_dropped : (n : ℕ) (rest es fs : Entries) → rest ≡ dropped_entries n es → SameFrom n es fs → SameFrom n rest fs
same_dropped n rest es fs e same = λ i l. ap (dropped_entries i) e ∙ dropped_twice n i es l ∙ same i l

-- the window's part is the whole of them
pub whole_is : (n : ℕ) (rest es fs : Entries) → rest ≡ dropped_entries n es → SameFrom n es fs → whole rest ≡ part_at fs n
whole_is n rest es fs e same = ap whole (e ∙ same n (omega arith)) ∙ whole-dropped n fs

-- and where none is left, no window from there on has an answer
pub none_left : (q : Tree) (n : ℕ) (rest fs : Entries) → rest ≡ [] → SameFrom n rest fs → (i : ℕ) → n ≤ i → part_answers q (part_at fs i) ≡ []
none_left q n rest fs e same i l =
    let none : part_at fs i ≡ no_part = sym (whole-dropped i fs) ∙ ap whole (sym (same i l) ∙ ap (dropped_entries i) e) in
    ap (part_answers q) none ∙ ap (λ es. map (λ (e : Entry). e.1) (map (group_answer q.shape q.items) es)) (entries-empty key_cmp)
