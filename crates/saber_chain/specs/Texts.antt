-- The text of a chain: the rows of the second query are the lines of the first.
use Rattle.std.specs.Prelude.{ℕ, ◌^◌, List, [], ◌∷◌, false}
use Rattle.saber_plan.specs.Sizes.{FileLimits}
use Rattle.saber_plan.specs.Rows.{Read}
use Rattle.saber_plan.specs.Inputs.{Input, going_on}
use Rattle.saber_plan.specs.Trees.{Tree}
use Rattle.saber_plan.specs.Answers.{text}
use Rattle.saber_plan.specs.Files.{input_of}
use Rattle.saber_plan.specs.Tasks.{run_input}
use Rattle.saber_plan.specs.declared.ends.RunEnd.{RunEnd}
use Rattle.saber_plan.specs.Runs.{writes_of}

-- as many lines as a file may have at most, none of them late
abbrev pub between_limits : FileLimits
between_limits = record { most = 2 ^ 40; slack = 0 }

-- what the second query reads of the first one's text
abbrev pub rows_between : Tree → List ℕ → Read
rows_between second between = input_of second between_limits (between ∷ [])

-- how many writes the second query's run over it makes, in tasks of n
abbrev pub writes_between : Tree → ℕ → List ℕ → RunEnd → ℕ → ℕ
writes_between second n between end tasks = writes_of second n (run_input second false (rows_between second between)) end tasks

-- the second query's text over the rows of the first one's
abbrev pub text_of_both : Tree → Tree → Input → List ℕ
text_of_both first second r = text second (going_on (rows_between second (text first r)).rows)
