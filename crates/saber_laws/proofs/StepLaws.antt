-- The text and the open parts, one piece further.
use Rattle.std.proofs.Common.{◌≡◌, ℕ, zero, suc, ◌+◌, List, ◌++◌, refl, sym, ◌∙◌, ap, subst, append_assoc, append-nil, arith}
use Rattle.std.specs.List.{range_with_len}
use Rattle.saber_plan.specs.Trees.{Tree}
use Rattle.saber_plan.specs.Inputs.{Input}
use Rattle.saber_plan.specs.Windows.{Fits, Ordered, no_rows}
use Rattle.saber_plan.specs.Answers.{frame, text}
use Rattle.saber_plan.specs.Tasks.{task_start, upto, kept_behind, added_text}
use Rattle.saber_laws.specs.Pieces.{TextGoesOn, PiecesPrint, OpenGoesOn, NoRowsGiveNothing, Standing, no_task_behind, tasks_behind, TakesTask, TakesTasks, TasksMakeText}
use Rattle.saber_laws.proofs.AssemblyLaws.{text_law, written_law, open_law}
use Rattle.saber_laws.proofs.TaskCutLaws.{cut_rises, no_tasks_no_rows}
use Rattle.saber_laws.proofs.TaskLaws.{text-none, open-none, kept-none}

pub text_goes_on : TextGoesOn
text_goes_on q w r x y o a = text_law q w r x y o a

pub pieces_print : PiecesPrint
pieces_print q w r x y o a = written_law q w r x y o a

pub open_goes_on : OpenGoesOn
open_goes_on q w r x y o a = sym (open_law q w r x y o a)

pub no_rows_give_nothing : NoRowsGiveNothing
no_rows_give_nothing q w = record { text = text-none q w; parts = open-none q w; kept = kept-none q w }

-- ---- the pieces of tasks, one after another

next_is : (a k : ℕ) → a + 1 + k ≡ a + suc k
next_is a k = omega arith

none_is : (a : ℕ) → a ≡ a + 0
none_is a = omega arith

module _ (q : Tree) (w : Fits (frame q)) (n : ℕ) (r : Input) (o : Ordered no_rows r.rows) (start : List ℕ) where
  begins : no_task_behind start ≡ tasks_behind q n r start 0
  begins = λ i. record {
    written = (sym (append-nil start) ∙ ap (λ l. start ++ l) (sym (ap (text q) (no_tasks_no_rows n r) ∙ text-none q w))) i;
    kept = sym (ap (kept_behind q) (no_tasks_no_rows n r) ∙ kept-none q w) i;
  }

  -- task a's piece is taken in behind the tasks before it
  one_more : (a : ℕ) (new : Standing) → TakesTask q n r a (tasks_behind q n r start a) new → tasks_behind q n r start (a + 1) ≡ new
  one_more a new t =
      let adds = added_text q r (task_start n r a) (task_start n r (a + 1)) in
      let goes_on = text_law q w r (task_start n r a) (task_start n r (a + 1)) o (cut_rises n r a) in λ i. record {
        written = (ap (λ l. start ++ l) goes_on ∙ sym (append_assoc start (text q (upto n r a)) adds) ∙ sym (t.written refl)) i;
        kept = sym (t.kept refl) i;
      }

  -- those of k tasks from task a on are
  go_on : (k a : ℕ) (new : Standing) → TakesTasks q n r (range_with_len a k) (tasks_behind q n r start a) new → new ≡ tasks_behind q n r start (a + k)
  go_on zero a new e = sym e ∙ ap (tasks_behind q n r start) (none_is a)
  go_on (suc k) a new (next, t, ts) =
      go_on k (a + 1) new (subst (λ s. TakesTasks q n r (range_with_len (a + 1) k) s new) (sym (one_more a next t)) ts) ∙ ap (tasks_behind q n r start) (next_is a k)

from_zero : (k : ℕ) → 0 + k ≡ k
from_zero k = omega arith

pub tasks_make_text : TasksMakeText
tasks_make_text q w n r o start k made t =
    go_on q w n r o start k 0 made (subst (λ s. TakesTasks q n r (range_with_len 0 k) s made) (begins q w n r o start) t) ∙ ap (tasks_behind q n r start) (from_zero k)
