-- What the pieces of the tasks that are given make.
use Rattle.std.specs.Prelude.{◌≡◌, ℕ, List, fold}
use Rattle.std.specs.FinMap.{empty}
use Rattle.saber_plan.specs.Inputs.{Input}
use Rattle.saber_plan.specs.Trees.{Tree}
use Rattle.saber_plan.specs.Windows.{Fits, Ordered, no_rows}
use Rattle.saber_plan.specs.Answers.{frame, alike, way}
use Rattle.saber_plan.specs.Tasks.{Stage, piece, take_in, stage_at}
use Rattle.saber_core.specs.declared.events.Event.{Event}
use Rattle.saber_laws.specs.Pieces.{Standing, no_task_behind, tasks_behind, TakesTasks}
use Rattle.saber_core.specs.Machine.{fresh, given_count}
use Rattle.saber_core.specs.Runs.{state_after, gives}

-- the pieces of these tasks, taken in one after another
abbrev pub joined_by : Tree → ℕ → Input → Stage → List ℕ → Stage
joined_by q n r s tasks = fold (λ a t. take_in q a (piece q n r t)) s tasks

-- those of the tasks given, in the order of the gives, make the text and the open parts of as many tasks, where windows print their answers
-- as they are, or rows theirs
abbrev pub GivesMakeText : Type 0
GivesMakeText = (q : Tree) → way q ≡ alike → Fits (frame q) → (n : ℕ) (r : Input) → Ordered no_rows r.rows → (start : List ℕ) (size seats : ℕ) (events : List Event)
    → joined_by q n r (record { written = start; parts = empty }) (gives (fresh size seats) events)
    ≡ stage_at q n r start (given_count (state_after (fresh size seats) events))

-- and however the query answers, by what each task's arrivals add to the text and by what is kept behind them
abbrev pub GivenTasksMakeText : Type 0
GivenTasksMakeText = (q : Tree) → Fits (frame q) → (n : ℕ) (r : Input) → Ordered no_rows r.rows → (start : List ℕ) (size seats : ℕ) (events : List Event) (made : Standing)
    → TakesTasks q n r (gives (fresh size seats) events) (no_task_behind start) made
    → made ≡ tasks_behind q n r start (given_count (state_after (fresh size seats) events))
