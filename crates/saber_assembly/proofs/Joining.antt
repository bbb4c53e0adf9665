-- The pieces of tasks that follow one another.
use Rattle.std.proofs.Common.{◌≡◌, ℕ, zero, suc, ◌+◌, List, sym, ◌∙◌, ap, subst, arith}
use Rattle.std.specs.List.{range_with_len}
use Rattle.std.specs.FinMap.{empty}
use Rattle.saber_plan.specs.Inputs.{Input}
use Rattle.saber_plan.specs.Trees.{Tree}
use Rattle.saber_plan.specs.Tasks.{Stage, joined_to}
use Rattle.saber_core.specs.Machine.{fresh, given_count}
use Rattle.saber_core.specs.Runs.{state_after}
use Rattle.saber_core.proofs.Orders.{orderly}
use Rattle.saber_assembly.specs.Gives.{joined_by, GivesMakeText, GivenTasksMakeText}
use Rattle.saber_laws.specs.Pieces.{no_task_behind, TakesTasks}
use Rattle.saber_laws.proofs.StepLaws.{tasks_make_text}
use Rattle.saber_laws.proofs.TaskLaws.{pieces_make_text}

next_is : (a : ℕ) → a + 1 ≡ suc a
next_is a = omega arith

more_is : (a k : ℕ) → a + 1 + k ≡ a + suc k
more_is a k = omega arith

none_is : (a : ℕ) → a ≡ a + 0
none_is a = omega arith

from_zero : (k : ℕ) → 0 + k ≡ k
from_zero k = omega arith

-- from task a on, k of them
joined_on : (q : Tree) (n : ℕ) (r : Input) (s : Stage) (k a : ℕ) → joined_by q n r (joined_to q n r s a) (range_with_len a k) ≡ joined_to q n r s (a + k)
joined_on q n r s zero a = ap (joined_to q n r s) (none_is a)
joined_on q n r s (suc k) a =
    ap (λ b. joined_by q n r b (range_with_len (a + 1) k)) (sym (ap (joined_to q n r s) (next_is a))) ∙ joined_on q n r s k (a + 1) ∙ ap (joined_to q n r s) (more_is a k)

pub gives_make_text : GivesMakeText
gives_make_text q e f n r o start size seats events =
    let g = given_count (state_after (fresh size seats) events) in
    let s : Stage = record { written = start; parts = empty } in
    ap (joined_by q n r s) (orderly size seats events).gives_in_order ∙ joined_on q n r s g 0 ∙ ap (joined_to q n r s) (from_zero g) ∙ pieces_make_text q e f n r o start g

pub given_tasks_make_text : GivenTasksMakeText
given_tasks_make_text q f n r o start size seats events made t =
    tasks_make_text q f n r o start (given_count (state_after (fresh size seats) events)) made
    (subst (λ tasks. TakesTasks q n r tasks (no_task_behind start) made) (orderly size seats events).gives_in_order t)
