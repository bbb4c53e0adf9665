-- What a run that could not read its row files to the end has assembled of them.
use Rattle.std.specs.Prelude.{◌≡◌, ℕ, List, ◌++◌, length, map, Option, Some, IfSome}
use Rattle.saber_io.specs.Outside.{FilesView, Closed, content_in}
use Rattle.saber_plan.specs.declared.rows.Side.{Side}
use Rattle.saber_plan.specs.Trees.{Tree}
use Rattle.saber_plan.specs.declared.sizes.Sizes.{Sizes}
use Rattle.saber_plan.specs.Sizes.{FileLimits, limits_of}
use Rattle.saber_engine.specs.Gives.{ReadsWhole}
use Rattle.saber_words.specs.Commands.{AskedRun}
use Rattle.saber_notes.specs.declared.outcome.Outcome.{Outcome}
use Rattle.saber_notes.specs.declared.outcome.Outcome.TheVariants.{ReadFault}
use Rattle.saber_cli.specs.Endings.{file_on}
use Rattle.saber_cli.specs.Due.{Contents, HasRun, row_names}
use Rattle.saber_cli.specs.RowFiles.{after_use}

-- of the files with these names, and the sources that were given back of them: at least every whole task of the whole lines that were taken
-- is assembled
abbrev pub TakesOf : Tree → ℕ → FileLimits → ℕ → Contents → List (List ℕ) → List Closed → Type 0
TakesOf q n limits tasks contents names given_back = ReadsWhole q n limits tasks (map (content_in contents) names) (map (λ source. source.0) given_back)

-- the files were opened and given back, and so much is assembled of them
pub record TakesRows (q : Tree) (n : ℕ) (limits : FileLimits) (tasks : ℕ) (names : List (List ℕ)) (old new : Option FilesView) : Type 0 where
  pub given_back : List Closed
  pub told : new ≡ after_use old names given_back
  pub takes : IfSome old (λ t. TakesOf q n limits tasks t.contents names given_back)

-- a fault of reading leaves at least every whole task assembled of what was taken
abbrev pub CutLeavesWhole : Tree → Sizes → Outcome → ℕ → List (Option (List ℕ)) → List (Option (List ℕ)) → Type 0
CutLeavesWhole q s o tasks had has = (side : Side) → o ≡ ReadFault (file_on side) → ReadsWhole q s.task (limits_of s) tasks had has

-- the same over the row files with these names
abbrev pub CutTakesRows : Tree → Sizes → Outcome → ℕ → List (List ℕ) → Option FilesView → Option FilesView → Type 0
CutTakesRows q s o tasks names old new = (side : Side) → o ≡ ReadFault (file_on side) → TakesRows q s.task (limits_of s) tasks names old new

-- The row files' sources were given back behind those of so many queries, and at least every whole task of the whole lines that were taken of them is assembled.
pub record TakesBehind (queries : ℕ) (q : Tree) (s : Sizes) (tasks : ℕ) (names : List (List ℕ)) (old new : FilesView) : Type 0 where
  pub before : List Closed
  pub as_many : length before ≡ queries
  pub given_back : List Closed
  pub closed : new.closed ≡ old.closed ++ before ++ given_back
  pub takes : ReadsWhole q s.task (limits_of s) tasks (map (content_in old.contents) names) (map (λ source. source.0) given_back)

-- so it is of the row files of a run
abbrev pub TakesWhole : AskedRun → ℕ → FilesView → FilesView → Type 0
TakesWhole r tasks old new = (q : Tree) × HasRun old.contents r q × TakesBehind 1 q r.sizes tasks (row_names r) old new

-- the same where files tell, of a call that ends by a fault of reading a row file
abbrev pub TakesTold : AskedRun → Outcome → ℕ → Option FilesView → Option FilesView → Type 0
TakesTold r o tasks old new = (side : Side) → o ≡ ReadFault (file_on side) → IfSome old (λ t. (u : FilesView) × (new ≡ Some u) × TakesWhole r tasks t u)
