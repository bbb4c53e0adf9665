-- What a chain comes to: two queries, of which the second one's rows are the lines of the first.
use Rattle.std.specs.Prelude.{Bool, ◌≡◌, ◌≢◌, ℕ, List, [], length, Option, Some, IfSome, true, false}
use Rattle.saber_io.specs.Outside.{FilesView}
use Rattle.saber_plan.specs.Outputs.{raised_by, appended_text}
use Rattle.saber_plan.specs.declared.rows.Side.{Side}
use Rattle.saber_plan.specs.declared.plans.Shape.TheVariants.{Join}
use Rattle.saber_plan.specs.declared.sizes.Sizes.{Sizes}
use Rattle.saber_plan.specs.Sizes.{limits_of}
use Rattle.saber_plan.specs.Inputs.{going_on}
use Rattle.saber_plan.specs.Trees.{Tree}
use Rattle.saber_plan.specs.Windows.{has_windows}
use Rattle.saber_plan.specs.Answers.{frame}
use Rattle.saber_words.specs.Chain.{AskedChain}
use Rattle.saber_plan.specs.declared.ends.RunEnd.{RunEnd}
use Rattle.saber_plan.specs.declared.ends.RunEnd.TheVariants as ends
use Rattle.saber_plan.specs.Files.{input_of}
use Rattle.saber_engine.specs.Endings.{MayStop}
use Rattle.saber_plan.specs.Runs.{Gives}
use Rattle.saber_engine.specs.FedRuns.{TakesWhole}
use Rattle.saber_chain.specs.Sinks.{SinkSeen}
use Rattle.saber_chain.specs.Texts.{between_limits, rows_between, writes_between, text_of_both}
use Rattle.saber_chain.specs.Marks.{IsWhole, IsShort}
use Rattle.saber_notes.specs.declared.outcome.InputFile.TheVariants.{Query, Left, Right, SecondQuery}
use Rattle.saber_notes.specs.declared.outcome.Outcome.{Outcome}
use Rattle.saber_notes.specs.declared.outcome.Outcome.TheVariants.{Done, FileCount, QueryFault, SecondQueryFault, Unchainable, LineRefused, ChainLineRefused, OpenFault, ReadFault, NoMemory}
use Rattle.saber_cli.specs.Due.{Contents, IsFaulty, IsLike, IsPlanned, contents_of, first_run, row_names}
use Rattle.saber_cli.specs.Endings.{chained_as}
use Rattle.saber_cli.specs.Taken.{TakesBehind}

-- ---- the queries

-- the files of both queries have these plans
pub record HasPlans (files : Contents) (a : AskedChain) (p q : Tree) : Type 0 where
  pub first : IsPlanned files a.first p
  pub second : IsPlanned files a.second q

-- where files tell
abbrev pub HasPlansTold : Option FilesView → AskedChain → Tree → Tree → Type 0
HasPlansTold told a p q = IfSome told (λ t. HasPlans t.contents a p q)

-- The first one's lines begin with the numbers of their windows, which rise: it has windows, as all have but a selection without a stream word, and no
-- PARTITION BY.
pub record MayBeFirst (p : Tree) : Type 0 where
  pub windowed : has_windows (frame p) ≡ true
  pub in_order : p.partition ≡ []

-- And they are one stream, so the second one is no join.
pub record IsChainable (p q : Tree) : Type 0 where
  pub begins : MayBeFirst p
  pub has_one_stream : q.shape ≢ Join

-- the row files are asked for: both queries have plans that chain, and each stream of the first one has its file
pub record AsksChainRows (files : Contents) (a : AskedChain) : Type 0 where
  pub first : Tree
  pub second : Tree
  pub plans : HasPlans files a first second
  pub chains : IsChainable first second
  pub like : IsLike (first_run a) first

-- ---- before a run

-- Why nothing was run: the first of what is at fault, in this order. The text of the first query; that of the second one; what the first one's lines
-- begin with; the second one's shape; the number of row files. A file that can't be opened or read has its cause in a count of faults, and is asked for where all
-- before it was good. Want of memory has no cause.
abbrev pub HasReason : Contents → AskedChain → Outcome → Type 0
HasReason files a (QueryFault byte cause) = IsFaulty files a.first byte cause
HasReason files a (SecondQueryFault byte cause) = (p : Tree) × IsPlanned files a.first p × IsFaulty files a.second byte cause
HasReason files a (Unchainable Query) = (p : Tree) × (q : Tree) × HasPlans files a p q × ¬ (MayBeFirst p)
HasReason files a (Unchainable SecondQuery) = (p : Tree) × (q : Tree) × HasPlans files a p q × MayBeFirst p × (q.shape ≡ Join)
HasReason files a (FileCount streams given) =
    (p : Tree) × (q : Tree) × HasPlans files a p q × IsChainable p q × (length p.streams ≡ streams) × (length (row_names (first_run a)) ≡ given) × (streams ≢ given)
HasReason files a (OpenFault Query) = Unit {0}
HasReason files a (ReadFault Query) = Unit {0}
HasReason files a (OpenFault SecondQuery) = (p : Tree) × IsPlanned files a.first p
HasReason files a (ReadFault SecondQuery) = (p : Tree) × IsPlanned files a.first p
HasReason files a (OpenFault Left) = AsksChainRows files a
HasReason files a (OpenFault Right) = AsksChainRows files a
HasReason files a NoMemory = Unit {0}
HasReason files a _ = ⊥

-- ---- a run

-- all of the second query's text over the first one's goes out
abbrev pub IsAnswered : Outcome → Type 0
IsAnswered Done = Unit {0}
IsAnswered (LineRefused side line cause) = Unit {0}
IsAnswered (ChainLineRefused line cause) = Unit {0}
IsAnswered _ = ⊥

-- Both plans were run, the first one over row files with these bytes, if they tell, and the second one over what the first one gave; and the outcome
-- tells how each ended, and for want of memory of the second one whether its stage was stopped by that, or its rows ended so. The first one writes where no write fails, and the second one once for each of its tasks that has text. The second one reads to the end only where the first one's text is whole, and is
-- cut off only where it isn't; none of its tasks is too wide. What is known of how many tasks a first query that ended so has assembled holds of this one.
pub record RunsChain (p q : Tree) (s : Sizes) (leaves : RunEnd → ℕ → Type 0) (files : Option (List (List ℕ))) (had has : SinkSeen) (o : Outcome) (tasks : ℕ) : Type 0 where
  pub first : RunEnd
  pub second : RunEnd
  pub stopped : Bool
  pub stops : MayStop second stopped
  pub first_tasks : ℕ
  pub outcome : o ≡ chained_as s.ring first second stopped
  pub between : List ℕ
  pub out : List ℕ
  pub written : has.written ≡ appended_text had.written out
  pub gives_first : IfSome files (λ fs. Gives p s.task s.ring false (input_of p (limits_of s) fs) first first_tasks between)
  pub gives_second : Gives q s.task s.ring false (rows_between q between) second tasks out
  pub one_write : has.writes ≡ raised_by had.writes (writes_between q s.task between second tasks)
  pub whole_tasks : (side : Side) → second ≡ ends.ReadFault side → TakesWhole q s.task between_limits tasks between
  pub whole_first : leaves first first_tasks
  pub never : first ≢ ends.WriteFault
  pub all : second ≡ ends.AllRead → IsWhole first
  pub cut : (side : Side) → second ≡ ends.ReadFault side → IsShort first
  pub narrow : (task need : ℕ) → second ≢ ends.TooWide task need
  pub whole : IsAnswered o → IfSome files (λ fs. has.written ≡ appended_text had.written (text_of_both p q (going_on (input_of p (limits_of s) fs).rows)))

-- ---- the whole

-- What a chain comes to over files that tell their contents: nothing was run, for a reason; or both queries were, over all row files.
pub data ChainsOver (files : Contents) (leaves : Tree → RunEnd → ℕ → Type 0) (a : AskedChain) (o : Outcome) (tasks : ℕ) (had has : SinkSeen) : Type 0 where
  not_run : HasReason files a o → tasks ≡ 0 → has ≡ had → ChainsOver files leaves a o tasks had has
  both_run : (r : AsksChainRows files a) (all : List (List ℕ)) → contents_of files (row_names (first_run a)) ≡ Some all
      → RunsChain r.first r.second a.sizes (leaves r.first) (Some all) had has o tasks → ChainsOver files leaves a o tasks had has

-- a first query that could not read its rows to the end has at least every whole task assembled of what was taken of its row files, behind both queries' files
abbrev pub CutTakesChain : AskedChain → FilesView → Option FilesView → Tree → RunEnd → ℕ → Type 0
CutTakesChain a old new q end tasks =
    (side : Side) → end ≡ ends.ReadFault side → (u : FilesView) × (new ≡ Some u) × TakesBehind 2 q a.sizes tasks (row_names (first_run a)) old u

-- the whole where files tell, before and after the call
abbrev pub AnswersChain : AskedChain → Outcome → ℕ → Option FilesView → Option FilesView → SinkSeen → SinkSeen → Type 0
AnswersChain a o tasks told new had has = IfSome told (λ t. ChainsOver t.contents (CutTakesChain a t new) a o tasks had has)
