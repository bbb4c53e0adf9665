-- The result stage as contracts see it, and where it stands after some tasks.
use Rattle.std.specs.Prelude.{◌≡◌, ◌≤◌, ℕ, suc, List, Option}
use Rattle.saber_plan.specs.Inputs.{Input}
use Rattle.saber_plan.specs.Trees.{Tree}
use Rattle.saber_plan.specs.Answers.{text, frame}
use Rattle.saber_plan.specs.GivenRows.{RowsFit}
use Rattle.saber_plan.specs.Windows.{Fits, no_rows}
use Rattle.saber_plan.specs.Tasks.{Kept, upto, kept_behind}
use Rattle.saber_plan.specs.Outputs.{raised_by, Rose, appended_text}
use Rattle.saber_plan.specs.Runs.{IsCut, tasks_with_text}
use Rattle.saber_plan.specs.declared.stages.StageState.{StageState}
use Rattle.saber_plan.specs.declared.stages.StageState.TheVariants.{Running, SinkFailed, NoMemory}

-- what the sink has written, where it tells, and its counts of faults and of writes; what the store keeps; how many tasks are behind; and whether it
-- goes on
pub record StageView : Type 0 where
  pub written : Option (List ℕ)
  pub faults : ℕ
  pub writes : ℕ
  pub kept : Kept
  pub k : ℕ
  pub state : StageState

-- an input that the plan can be given, cut into tasks of n rows
pub record Tasks (q : Tree) (n : ℕ) (r : Input) : Type 0 where
  pub windows : Fits (frame q)
  pub fits : RowsFit q no_rows r.rows
  pub size : 1 ≤ n

-- what the sink had written when the stage was made, and its counts of faults and of writes then
pub record Start : Type 0 where
  pub written : Option (List ℕ)
  pub faults : ℕ
  pub writes : ℕ

-- that much is written, where the sink tells
pub record IsCutOff (q : Tree) (n : ℕ) (r : Input) (k : ℕ) (start written : Option (List ℕ)) : Type 0 where
  pub out : List ℕ
  pub written_is : written ≡ appended_text start out
  pub is_cut : IsCut q n r k out

-- The stage has k tasks of n rows behind it: while it runs, the text of their rows is written, and what is to be kept of them is kept;
-- where the sink failed, a prefix of the next task's text is out too, and the count of faults rose, which it else did not; where memory lacked, nothing more is out.
-- There was one write for each of the k tasks that has text, and one more where it failed.
abbrev pub After : Tree → ℕ → Input → Start → StageView → StageState → Type 0
After q n r start s Running =
    (s.written ≡ appended_text start.written (text q (upto n r s.k))) × (s.kept ≡ kept_behind q (upto n r s.k)) × (s.faults ≡ start.faults)
    × (s.writes ≡ raised_by start.writes (tasks_with_text q n r s.k))
After q n r start s SinkFailed =
    IsCutOff q n r s.k start.written s.written × Rose start.faults s.faults × (start.faults ≤ s.faults)
    × (s.writes ≡ raised_by start.writes (suc (tasks_with_text q n r s.k)))
After q n r start s NoMemory =
    (s.written ≡ appended_text start.written (text q (upto n r s.k))) × (s.faults ≡ start.faults)
    × (s.writes ≡ raised_by start.writes (tasks_with_text q n r s.k))

-- What the stage keeps of a run: where it stands, and while it goes on what its store knows of the input of the tasks behind it.
pub record Keeps (q : Tree) (n : ℕ) (r : Input) (start : Start) (taken : Input → Type 0) (s : StageView) : Type 0 where
  pub after : After q n r start s s.state
  pub taken_is : s.state ≡ Running → taken (upto n r s.k)
