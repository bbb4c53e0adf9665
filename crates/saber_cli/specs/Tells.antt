-- What `demo` comes to, whatever files there are.
use Rattle.std.specs.Prelude.{◌≡◌, ℕ, List, [], Option}
use Rattle.saber_plan.specs.Outputs.{appended_text}
use Rattle.saber_plan.specs.Answers.{text}
use Rattle.saber_words.specs.Commands.{demo}
use Rattle.saber_words.specs.Demo.{AskedDemo}
use Rattle.saber_demo.specs.Query.{demo_tree}
use Rattle.saber_plan.specs.declared.ends.RunEnd.{RunEnd}
use Rattle.saber_plan.specs.declared.ends.RunEnd.TheVariants as ends
use Rattle.saber_notes.specs.declared.outcome.Outcome.{Outcome}
use Rattle.saber_cli.specs.Demo.{generated_input, tasks_of_run}
use Rattle.saber_cli.specs.Gives.{Gives}

-- how a run over generated rows can end: all is answered, or memory lacks
abbrev pub IsWholeOrLacks : RunEnd → Type 0
IsWholeOrLacks ends.AllRead = Unit {0}
IsWholeOrLacks ends.NoMemory = Unit {0}
IsWholeOrLacks _ = ⊥

-- this is the answer over the generated rows, of so many tasks
pub record IsAnswer (d : AskedDemo) (out : List ℕ) (tasks : ℕ) : Type 0 where
  pub text_is : out ≡ text demo_tree (generated_input d.seed d.rows)
  pub tasks_are : tasks ≡ tasks_of_run d

-- Whatever files there are, the run gives what it gives over none: its summary is due.
pub record TellsRun (d : AskedDemo) (o : Outcome) (tasks : ℕ) (old new : Option (List ℕ)) : Type 0 where
  pub out : List ℕ
  pub written : new ≡ appended_text old out
  pub gives : Gives [] (demo d) o tasks out
