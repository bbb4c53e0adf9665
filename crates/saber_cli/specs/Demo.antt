-- What a run over generated rows comes to.
use Rattle.std.specs.Prelude.{ℕ, List}
use Rattle.saber_plan.specs.Inputs.{Input, going_on}
use Rattle.saber_plan.specs.Answers.{text}
use Rattle.saber_plan.specs.Tasks.{task_count}
use Rattle.saber_words.specs.Demo.{AskedDemo}
use Rattle.saber_demo.specs.Rows.{demo_rows}
use Rattle.saber_demo.specs.Query.{demo_tree}
use Rattle.saber_demo.specs.Summary.{summary}

-- the first rows that a seed gives, behind which more may come
abbrev pub generated_input : ℕ → ℕ → Input
generated_input seed rows = going_on (demo_rows seed rows)

-- The summary of the query's answer over them: a function of the seed and of the number of rows, whatever the tasks, the ring and the threads.
abbrev pub summary_of_run : ℕ → ℕ → List ℕ
summary_of_run seed rows = summary rows (text demo_tree (generated_input seed rows))

-- how many tasks the run has
abbrev pub tasks_of_run : AskedDemo → ℕ
tasks_of_run d = task_count d.sizes.task (generated_input d.seed d.rows)
