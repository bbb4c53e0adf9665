-- What a command gives over files that tell their contents.
use Rattle.std.specs.Prelude.{ℕ, List, Option, IfSome}
use Rattle.saber_io.specs.Outside.{FilesView}
use Rattle.saber_words.specs.Commands.{Asked}
use Rattle.saber_notes.specs.declared.outcome.Outcome.{Outcome}
use Rattle.saber_cli.specs.Due.{AreNoChain, Contents, Due, IsDueFor, IsDue}
use Rattle.saber_cli.specs.Causes.{Allows}
use Rattle.saber_cli.specs.Puts.{PutsOut}

-- Something is due, and whatever is due allows the outcome and goes out. So each outcome has its cause in what is due, but for a fault of a file or of the
-- sink, which has its own in a count of faults, and for want of memory, which has none.
pub record Does (due : Due → Type 0) (o : Outcome) (tasks : ℕ) (out : List ℕ) : Type 0 where
  pub something : (d : Due) × due d
  pub allows : (d : Due) → due d → Allows d o
  pub puts : (d : Due) → due d → PutsOut d o tasks out

-- what is due for the command was done
abbrev pub Gives : Contents → Asked → Outcome → ℕ → List ℕ → Type 0
Gives files c o tasks out = Does (IsDueFor files c) o tasks out

-- what is due for the words was done, if they are no chain, where files tell
abbrev pub AnswersTold : List (List ℕ) → Option FilesView → Outcome → ℕ → List ℕ → Type 0
AnswersTold words told o tasks out = AreNoChain words → IfSome told (λ t. Does (IsDue words t.contents) o tasks out)
