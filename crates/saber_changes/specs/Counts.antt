-- How often lines come, and which are left when those of two windows cancel one another, by counts.
use Rattle.std.specs.Prelude.{ℕ, suc, ◌-◌, List, [], ◌∷◌, map, if◌then◌else◌, nat_lt, ℤ, unwrap_or}
use Rattle.std.proofs.Common.{Bor}
use Rattle.std.specs.FinMap.{FinMap, get, from_entries}
use Rattle.saber_plan.specs.Answers.{Answers, Change as Changing, key_cmp, same_line, gains, losses}
use Rattle.saber_changes.specs.declared.cancel.Change.{Change}
use Rattle.saber_changes.specs.declared.cancel.Change.TheVariants.{Gained, Lost}

-- how often a line comes
abbrev pub times : List ℤ → Answers → ℕ
times k [] = 0
times k (l ∷ ls) = if same_line k l then suc (times k ls) else times k ls

-- the counts in a tree map, whose keys are lent lines
abbrev pub Counts : Type 0
Counts = FinMap key_cmp ℕ

abbrev pub counts_of : List (Bor (List ℤ) × ℕ) → Counts
counts_of es = from_entries {R = key_cmp} (map (λ e. (e.0.now, e.1)) es)

-- how many of a line they have
abbrev pub tally : Counts → List ℤ → ℕ
tally m k = unwrap_or (get m k) 0

-- how often each is left, once one of a line is taken
abbrev pub one_less : (List ℤ → ℕ) → List ℤ → List ℤ → ℕ
one_less n k l = if same_line l k then n l - 1 else n l

-- and once one is there more
abbrev pub one_more : (List ℤ → ℕ) → List ℤ → List ℤ → ℕ
one_more n k l = if same_line l k then suc (n l) else n l

-- the lines that cancel none, where each of the others is left so often
abbrev pub by_counts : Answers → (List ℤ → ℕ) → Answers
by_counts [] n = []
by_counts (k ∷ ks) n = if nat_lt 0 (n k) then by_counts ks (one_less n k) else k ∷ by_counts ks n

-- what a change means
abbrev pub change_of : Change → Changing
change_of Gained = gains
change_of Lost = losses
