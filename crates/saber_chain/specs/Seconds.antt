-- What a run of the second query gives.
use Rattle.std.specs.Prelude.{◌≡◌, ℕ, ◌^◌, List, Option, Some, false}
use Rattle.saber_plan.specs.Outputs.{raised_by, appended_text}
use Rattle.saber_io.specs.declared.feeds.EndMark.{EndMark}
use Rattle.saber_io.specs.declared.feeds.EndMark.TheVariants as marks
use Rattle.saber_plan.specs.declared.rows.Side.{Side}
use Rattle.saber_plan.specs.declared.sizes.Sizes.{Sizes}
use Rattle.saber_plan.specs.Trees.{Tree}
use Rattle.saber_engine.specs.declared.ends.Ran.{Ran}
use Rattle.saber_plan.specs.declared.ends.RunEnd.{RunEnd}
use Rattle.saber_plan.specs.declared.ends.RunEnd.TheVariants.{AllRead, ReadFault}
use Rattle.saber_plan.specs.Runs.{Gives}
use Rattle.saber_engine.specs.FedRuns.{GoesOn, TakesWhole}
use Rattle.saber_chain.specs.Sinks.{SinkSeen, seen_of}
use Rattle.saber_chain.specs.Texts.{between_limits, rows_between, writes_between}

-- tasks, ring and threads are those of both queries
abbrev pub second_sizes : Sizes → Sizes
second_sizes s = record { task = s.task; ring = s.ring; threads = s.threads; max_lines = 2 ^ 40; slack = 0; flush = false }

-- over what was taken of the first one's text: over every text that goes on from it, and is this where the mark says so
pub record RunsSecond (q : Tree) (s : Sizes) (taken : List ℕ) (mark : Option EndMark) (had has : SinkSeen) (end : RunEnd) (tasks : ℕ) : Type 0 where
  pub out : List ℕ
  pub written : has.written ≡ appended_text had.written out
  pub gives : (all : List ℕ) → GoesOn taken mark all → Gives q s.task s.ring false (rows_between q all) end tasks out
  pub one_write : (all : List ℕ) → GoesOn taken mark all → has.writes ≡ raised_by had.writes (writes_between q s.task all end tasks)
  pub whole : (side : Side) → end ≡ ReadFault side → TakesWhole q s.task between_limits tasks taken
  pub all_read : end ≡ AllRead → mark ≡ Some marks.End
  pub cut : (side : Side) → end ≡ ReadFault side → mark ≡ Some marks.Cut

-- the same by the struct that tells how it ended, of what its sink had written and has
abbrev pub RunsSecondTo : {K : Type 0} → (K → Option (List ℕ)) → (K → ℕ) → Tree → Sizes → List ℕ → Option EndMark → K → Ran K → Type 0
RunsSecondTo written writes q s taken mark sink ran = RunsSecond q s taken mark (seen_of written writes sink) (seen_of written writes ran.sink) ran.end ran.tasks

-- over all of the first one's text, which ends so
pub record ReadsBetween (q : Tree) (s : Sizes) (between : List ℕ) (mark : EndMark) (had has : SinkSeen) (end : RunEnd) (tasks : ℕ) : Type 0 where
  pub out : List ℕ
  pub written : has.written ≡ appended_text had.written out
  pub gives : Gives q s.task s.ring false (rows_between q between) end tasks out
  pub one_write : has.writes ≡ raised_by had.writes (writes_between q s.task between end tasks)
  pub whole : (side : Side) → end ≡ ReadFault side → TakesWhole q s.task between_limits tasks between
  pub all_read : end ≡ AllRead → mark ≡ marks.End
  pub cut : (side : Side) → end ≡ ReadFault side → mark ≡ marks.Cut
