-- What a part says of its query: what a run of that query alone would.
use Rattle.std.specs.Prelude.{◌≡◌, ℕ, List, length, Option, Some, IfSome}
use Rattle.std.specs.List.{AllZip}
use Rattle.saber_io.specs.Outside.{FilesView}
use Rattle.saber_plan.specs.Trees.{Tree}
use Rattle.saber_words.specs.Commands.{AskedRun, run}
use Rattle.saber_words.specs.Many.{AskedMany}
use Rattle.saber_notes.specs.declared.outcome.InputFile.TheVariants.{Left}
use Rattle.saber_notes.specs.declared.outcome.Outcome.TheVariants.{ReadFault}
use Rattle.saber_cli.specs.Due.{Contents, HasRun, row_names}
use Rattle.saber_cli.specs.Gives.{Gives}
use Rattle.saber_cli.specs.Taken.{TakesBehind}
use Rattle.saber_cli.specs.Writes.{WritesIn}
use Rattle.saber_top.specs.declared.parts.Part.{Part}
use Rattle.saber_top.specs.Commands.{alone}
use Rattle.saber_top.specs.Shared.{Holds}

-- The outcome has its cause, all that is due allows it, and what is due went out to the query's own file, which was new, by one write for each task that has
-- text: all as the command `run` has it of this query
-- over the same file with the same sizes, whatever became of the other queries.
pub record AnswersAlone {T : Type 0} (written : T → Option (List ℕ)) (writes : T → ℕ) (files : Contents) (r : AskedRun) (part : Part T) : Type 0 where
  pub out : List ℕ
  pub holds : Holds (written part.out) out
  pub gives : Gives files (run r) part.outcome part.tasks out
  pub one_write : WritesIn files r part.outcome part.tasks 0 (writes part.out)

-- so it is of each query and its part, over files that tell
abbrev pub EachAnswers : {T : Type 0} → (T → Option (List ℕ)) → (T → ℕ) → AskedMany → Option FilesView → List (Part T) → Type 0
EachAnswers written writes m told parts = IfSome told (λ t. AllZip (λ query part. AnswersAlone written writes t.contents (alone m query) part) m.queries parts)

-- the same of the left file, behind those of all queries
abbrev pub TakesLeft : AskedMany → AskedRun → ℕ → FilesView → FilesView → Type 0
TakesLeft m r tasks old new = (q : Tree) × HasRun old.contents r q × TakesBehind (length m.queries) q r.sizes tasks (row_names r) old new

-- so it is of a part that ends by a fault of reading, where files tell
abbrev pub CutTakesLeft : {T : Type 0} → AskedMany → Option FilesView → Option FilesView → List ℕ → Part T → Type 0
CutTakesLeft m old new query part = part.outcome ≡ ReadFault Left → IfSome old (λ t. (u : FilesView) × (new ≡ Some u) × TakesLeft m (alone m query) part.tasks t u)
