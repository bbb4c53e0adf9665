-- What a chain gives.
use Rattle.std.specs.Prelude.{◌≡◌, ◌≢◌, ◌≤◌, ℕ, List, Option, IfSome, false}
use Rattle.saber_plan.specs.Outputs.{Rose, raised_by, appended_text}
use Rattle.saber_plan.specs.declared.rows.Side.{Side}
use Rattle.saber_plan.specs.declared.sizes.Sizes.{Sizes}
use Rattle.saber_plan.specs.Sizes.{limits_of}
use Rattle.saber_plan.specs.Inputs.{going_on}
use Rattle.saber_plan.specs.Trees.{Tree}
use Rattle.saber_dispatch.specs.declared.inputs.Inputs.{Inputs}
use Rattle.saber_plan.specs.declared.ends.RunEnd.TheVariants.{ReadFault, WriteFault}
use Rattle.saber_plan.specs.Files.{input_of}
use Rattle.saber_plan.specs.Runs.{Gives}
use Rattle.saber_engine.specs.FedRuns.{TakesWhole}
use Rattle.saber_chain.specs.declared.chained.Chained.{Chained}
use Rattle.saber_chain.specs.Sinks.{SinkSeen, seen_of}
use Rattle.saber_chain.specs.Texts.{between_limits, rows_between, writes_between, text_of_both}
use Rattle.saber_chain.specs.Marks.{mark_after, IsWhole}
use Rattle.saber_chain.specs.Firsts.{RunsFirst}
use Rattle.saber_chain.specs.Seconds.{ReadsBetween}
use Rattle.saber_chain.specs.Stops.{SecondStops}

-- What goes out is what the second query gives over the lines that the first one gave, by one write for each of its tasks that has text; and where
-- both texts are whole, the text of both. The files of the first query may tell their bytes.
pub record Chains {S K : Type 0} (first second : Tree) (s : Sizes) (files : Option (List (List ℕ))) (had has : SinkSeen) (c : Chained S K) : Type 0 where
  pub between : List ℕ
  pub out : List ℕ
  pub written : has.written ≡ appended_text had.written out
  pub gives_first : IfSome files (λ fs. Gives first s.task s.ring false (input_of first (limits_of s) fs) c.first c.first_tasks between)
  pub gives_second : Gives second s.task s.ring false (rows_between second between) c.second c.tasks out
  pub one_write : has.writes ≡ raised_by had.writes (writes_between second s.task between c.second c.tasks)
  pub whole_tasks : (side : Side) → c.second ≡ ReadFault side → TakesWhole second s.task between_limits c.tasks between
  pub whole_text : IsWhole c.first → IsWhole c.second → IfSome files (λ fs. out ≡ text_of_both first second (going_on (input_of first (limits_of s) fs).rows))

module _ {S K : Type 0} (left : S → Option (List ℕ)) (faults : S → ℕ) (written : K → Option (List ℕ)) (sink_faults made : K → ℕ) where
  -- both runs
  pub record RunsBoth (first second : Tree) (s : Sizes) (had : Inputs S) (sink : K) (c : Chained S K) : Type 0 where
    pub between : List ℕ
    pub runs_first : RunsFirst left faults first s had c.inputs c.first c.first_tasks between
    pub runs_second : ReadsBetween second s between (mark_after c.first) (seen_of written made sink) (seen_of written made c.sink) c.second c.tasks
    pub write : c.second ≡ WriteFault → Rose (sink_faults sink) (sink_faults c.sink)
    pub write_good : c.second ≢ WriteFault → sink_faults c.sink ≡ sink_faults sink
    pub writes : sink_faults sink ≤ sink_faults c.sink
    pub stopped : SecondStops c.first c.second c.second_stopped
