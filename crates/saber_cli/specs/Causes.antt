-- Which outcomes what is due allows.
use Rattle.std.specs.Prelude.{◌≡◌, ◌⊎◌}
use Rattle.saber_plan.specs.Runs.{IsClean}
use Rattle.saber_notes.specs.declared.outcome.Outcome.{Outcome}
use Rattle.saber_notes.specs.declared.outcome.Outcome.TheVariants.{Done, Usage, FileCount, QueryFault, WriteFault, NoMemory}
use Rattle.saber_cli.specs.Outcomes.{IsFileFault, IsQueryUnread}
use Rattle.saber_cli.specs.Endings.{end_of, EndsSo}
use Rattle.saber_cli.specs.Due.{Due, usage, missing, faulty, unlike, shows, tells, runs}

-- The outcomes that a due allows. Where the query has a fault, or its streams and the files differ in number, the query's file alone can have one. A run ends as its rows
-- and its ring do, but for a fault and want of memory. Generated rows have no file. Faults of files and of the sink come only where a count of faults rose.
abbrev pub Allows : Due → Outcome → Type 0
Allows usage o = (o ≡ Usage) ⊎ (o ≡ NoMemory)
Allows missing o = IsFileFault o ⊎ (o ≡ NoMemory)
Allows (faulty byte cause) o = (o ≡ QueryFault byte cause) ⊎ (IsQueryUnread o ⊎ (o ≡ NoMemory))
Allows (tells out count) o = (o ≡ Done) ⊎ ((o ≡ WriteFault) ⊎ (o ≡ NoMemory))
Allows (unlike streams given) o = (o ≡ FileCount streams given) ⊎ (IsQueryUnread o ⊎ (o ≡ NoMemory))
Allows (shows out) o = (o ≡ Done) ⊎ (IsFileFault o ⊎ ((o ≡ WriteFault) ⊎ (o ≡ NoMemory)))
Allows (runs q n ring flush read) o = (IsClean (end_of o) × EndsSo q n ring flush read o) ⊎ (IsFileFault o ⊎ ((o ≡ WriteFault) ⊎ (o ≡ NoMemory)))
