-- What goes out.
use Rattle.std.specs.Prelude.{◌≡◌, ◌⊎◌, ℕ, List, [], take}
use Rattle.saber_notes.specs.declared.outcome.Outcome.{Outcome}
use Rattle.saber_notes.specs.declared.outcome.Outcome.TheVariants.{Done, WriteFault, NoMemory}
use Rattle.saber_cli.specs.Due.{Due, shows, tells, runs}
use Rattle.saber_cli.specs.Endings.{end_of}
use Rattle.saber_plan.specs.Runs.{Assembles, reach_of}
use Rattle.saber_plan.specs.Tasks.{run_input}

-- the text of a query goes out whole, a prefix of it where the sink fails, else nothing
pub data PutsText (text : List ℕ) (o : Outcome) (out : List ℕ) : Type 0 where
  whole_text : o ≡ Done → out ≡ text → PutsText text o out
  part : (n : ℕ) → o ≡ WriteFault → out ≡ take n text → PutsText text o out
  no_text : (o ≡ Done → ⊥) → out ≡ [] → PutsText text o out

-- how the writing of a text ends
abbrev pub IsOfPut : Outcome → Type 0
IsOfPut Done = Unit {0}
IsOfPut WriteFault = Unit {0}
IsOfPut NoMemory = Unit {0}
IsOfPut _ = ⊥

-- how many of the tasks of a run over generated rows are assembled for what goes out: all, or none where memory lacks and so nothing goes out
pub record HasTasks (count tasks : ℕ) (o : Outcome) : Type 0 where
  pub all : (o ≡ Done) ⊎ (o ≡ WriteFault) → tasks ≡ count
  pub none : o ≡ NoMemory → tasks ≡ 0

-- what goes out where this is due, and how many tasks are assembled: no tasks but in a run
abbrev pub PutsOut : Due → Outcome → ℕ → List ℕ → Type 0
PutsOut (runs q n ring flush read) o tasks out = Assembles q n (run_input q flush read) (reach_of (end_of o)) tasks out
PutsOut (tells text count) o tasks out = HasTasks count tasks o × PutsText text o out
PutsOut (shows text) o tasks out = (tasks ≡ 0) × PutsText text o out
PutsOut _ o tasks out = (tasks ≡ 0) × (out ≡ [])
