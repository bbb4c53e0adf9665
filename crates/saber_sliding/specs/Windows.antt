-- What windows have of a queue's entries.
use Rattle.std.specs.Prelude.{◌≡◌, ℕ, ◌≤◌, ◌<◌}
use Rattle.saber_plan.specs.Trees.{Tree}
use Rattle.saber_plan.specs.Answers.{Answers}
use Rattle.saber_plan.specs.Parts.{part_answers}
use Rattle.saber_sliding.specs.Entries.{Entries, part_at}

-- the answers of a window, by what it has of these entries
abbrev pub answers_at : Tree → Entries → ℕ → Answers
answers_at q es i = part_answers q (part_at es i)

-- the windows from a up to b have these
abbrev pub AnswersOf : Tree → Entries → ℕ → ℕ → (ℕ → Answers) → Type 0
AnswersOf q es a b at = (i : ℕ) → a ≤ i → i < b → at i ≡ answers_at q es i
