-- What the parts of a chain come to: a query's plan, both plans, and the run over the row files.
use Rattle.std.specs.Prelude.{Bool, false, ◌≡◌, ◌≢◌, ◌⊎◌, ◌≤◌, ℕ, suc, List, [], ◌∷◌, length, take, Option, Some, IfSome}
use Rattle.saber_io.specs.Outside.{FilesView, Closed}
use Rattle.saber_plan.specs.declared.plans.Shape.TheVariants.{Join}
use Rattle.saber_plan.specs.declared.rows.Side.{Side}
use Rattle.saber_plan.specs.declared.sizes.Sizes.{Sizes}
use Rattle.saber_plan.specs.Sizes.{limits_of}
use Rattle.saber_plan.specs.Trees.{Tree}
use Rattle.saber_plan.specs.Windows.{has_windows}
use Rattle.saber_plan.specs.Answers.{frame}
use Rattle.saber_plan.specs.declared.ends.RunEnd.{RunEnd}
use Rattle.saber_plan.specs.declared.ends.RunEnd.TheVariants as ends
use Rattle.saber_chain.specs.Sinks.{SinkSeen}
use Rattle.saber_chain.specs.Stops.{SecondStops, stopped_of}
use Rattle.saber_notes.specs.declared.outcome.InputFile.TheVariants.{Query, SecondQuery}
use Rattle.saber_notes.specs.declared.outcome.Outcome.{Outcome}
use Rattle.saber_notes.specs.declared.outcome.Outcome.TheVariants.{QueryFault, SecondQueryFault, Unchainable, FileCount, OpenFault, ReadFault, NoMemory}
use Rattle.saber_cli.specs.Outcomes.{IsUnopened}
use Rattle.saber_cli.specs.Due.{Contents, IsFaulty, contents_of}
use Rattle.saber_cli.specs.Leaves.{AreOf, Matches}
use Rattle.saber_cli.specs.RowFiles.{after_use}
use Rattle.saber_cli.specs.Uses.{IsOfQueryFile}
use Rattle.saber_cli.specs.Taken.{TakesRows}
use Rattle.saber_cli.specs.Chained.{MayBeFirst, IsChainable, RunsChain}

-- ---- a query

-- why the file with this name gave no plan
abbrev pub LacksPlan : Contents → List ℕ → Outcome → Type 0
LacksPlan files name (QueryFault byte cause) = IsFaulty files name byte cause
LacksPlan files name (OpenFault Query) = Unit {0}
LacksPlan files name (ReadFault Query) = Unit {0}
LacksPlan files name NoMemory = Unit {0}
LacksPlan files name _ = ⊥

-- the same of a second query, as it is told
abbrev pub as_second : Outcome → Outcome
as_second (QueryFault byte cause) = SecondQueryFault byte cause
as_second (OpenFault file) = OpenFault SecondQuery
as_second (ReadFault file) = ReadFault SecondQuery
as_second o = o

-- the first one may not be one
abbrev pub MayNotBeFirst : Tree → Type 0
MayNotBeFirst p = (has_windows (frame p) ≡ false) ⊎ (p.partition ≢ [])

-- why two plans make no chain over so many row files
abbrev pub IsMisfit : Tree → Tree → ℕ → Outcome → Type 0
IsMisfit p q files (Unchainable Query) = MayNotBeFirst p
IsMisfit p q files (Unchainable SecondQuery) = MayBeFirst p × (q.shape ≡ Join)
IsMisfit p q files (FileCount streams given) = IsChainable p q × (length p.streams ≡ streams) × (files ≡ given) × (streams ≢ given)
IsMisfit p q files _ = ⊥

-- ---- both queries' files

-- they were opened, read and given back, and nothing failed
pub record BothRead (first second : List ℕ) (old new : Option FilesView) : Type 0 where
  pub one : Closed
  pub two : Closed
  pub one_good : one.1 ≡ 0
  pub two_good : two.1 ≡ 0
  pub told : new ≡ after_use old (first ∷ second ∷ []) (one ∷ two ∷ [])
  pub one_of : IfSome old (λ t. IsOfQueryFile t.contents first one)
  pub two_of : IfSome old (λ t. IsOfQueryFile t.contents second two)

-- ---- the row files

-- The first of the row files with these names were asked for, and those that were opened were given back in this order. Behind two queries' sources
-- without faults, this is what a chain leaves of its files.
pub record UsesChainRows (names : List (List ℕ)) (o : Outcome) (old new : Option FilesView) : Type 0 where
  pub count : ℕ
  pub few : count ≤ length names
  pub given_back : List Closed
  pub told : new ≡ after_use old (take count names) given_back
  pub are_of : IfSome old (λ t. AreOf 0 t.contents given_back names)
  pub matches : (one two : Closed) → one.1 ≡ 0 → two.1 ≡ 0 → Matches 2 (suc (suc (length names))) o (suc (suc count)) (one ∷ two ∷ given_back)

-- Both were run, and whether the second one's stage was stopped, by which the outcome goes, is what its own run tells.
abbrev pub RunsChainSo : Tree → Tree → Sizes → (RunEnd → ℕ → Type 0) → Option (List (List ℕ)) → SinkSeen → SinkSeen → Outcome → ℕ → Option Bool → Type 0
RunsChainSo p q s leaves files had has o tasks told = (runs : RunsChain p q s leaves files had has o tasks) × SecondStops runs.first runs.second told × (runs.stopped ≡ stopped_of told)

-- Over row files with these bytes; or one of them was not opened.
pub data ChainedIn (p q : Tree) (s : Sizes) (leaves : RunEnd → ℕ → Type 0) (content : Option (List (List ℕ))) (had has : SinkSeen) (o : Outcome) (tasks : ℕ) : Type 0 where
  none_run : IsUnopened o → tasks ≡ 0 → has ≡ had → ChainedIn p q s leaves content had has o tasks
  all_run : (all : List (List ℕ)) → content ≡ Some all → RunsChain p q s leaves (Some all) had has o tasks → ChainedIn p q s leaves content had has o tasks

-- the first query's end, with so many tasks, behind a fault of reading the row files with these names
abbrev pub CutTakes : Tree → Sizes → List (List ℕ) → Option FilesView → Option FilesView → RunEnd → ℕ → Type 0
CutTakes p s names old new end tasks = (side : Side) → end ≡ ends.ReadFault side → TakesRows p s.task (limits_of s) tasks names old new

-- over the row files with these names, where files tell
abbrev pub ChainedTold : Tree → Tree → Sizes → List (List ℕ) → Option FilesView → Option FilesView → SinkSeen → SinkSeen → Outcome → ℕ → Type 0
ChainedTold p q s names told new had has o tasks = IfSome told (λ t. ChainedIn p q s (CutTakes p s names told new) (contents_of t.contents names) had has o tasks)
