-- How many tasks there are, and counts of faults that stay.
use Rattle.std.proofs.Common.{◌≡◌, ◌≤◌, ◌<◌, ◌^◌, ℕ, ◌+◌, length, List, [], ◌∷◌, ◌++◌, take, Bool, true, false, cond, ◌&&◌, ◌||◌, nat_lt, sym, ◌∙◌, ap, arith, append-nil, length-append, length-take}
use Rattle.std.specs.Int.{div_ceil}
use Rattle.saber_plan.specs.declared.sizes.Sizes.{Sizes}
use Rattle.saber_plan.specs.Inputs.{Input}
use Rattle.saber_plan.specs.Trees.{Tree}
use Rattle.saber_plan.specs.Windows.{no_rows}
use Rattle.saber_plan.specs.Facts.Counts.{one_task_more, tasks_have_rows, ceil_rises, mark_count}
use Rattle.saber_plan.specs.Tasks.{task_start, upto, row_tasks, task_count}
use Rattle.saber_fragment.specs.declared.blocks.Block.{Block}
use Rattle.saber_dispatch.specs.Sources.{NoneFell}
use Rattle.saber_dispatch.specs.Cutting.{Adds, IsNextBlock, and_block}

pub none_same : (a : List ℕ) → NoneFell a a
none_same [] = tt
none_same (x ∷ a) = (omega arith, none_same a)

-- ---- counts of tasks

count_case : (b x : Bool) (c k : ℕ) → k ≤ c → cond (b && x) (k + 1) k ≤ cond b (c + 1) c
count_case true true c k h = omega (arith, h)
count_case true false c k h = omega (arith, h)
count_case false x c k h = h

-- the first tasks of an input are no more than all
pub first_few : (n : ℕ) (r : Input) (k : ℕ) → 1 ≤ n → task_count n (upto n r k) ≤ task_count n r
first_few n r k some =
    let x = task_start n r k in
    count_case r.ended (nat_lt (length r.rows) x) (row_tasks n r) (row_tasks n (upto n r k)) (ceil_rises n (length (take x r.rows)) (length r.rows) some (omega (arith, length-take x r.rows)))

-- ---- a block

module _ (q : Tree) (s : Sizes) (r : Input) (b : Block) (next : IsNextBlock q s r b) where
  number : b.number ≡ row_tasks s.task r
  number = next.number ∙ ap (λ e. cond e (row_tasks s.task r + 1) (row_tasks s.task r)) next.unended

  -- there are few blocks
  pub few_blocks : b.number < 2 ^ 42
  few_blocks =
      let all = length-append r.rows b.rows in
      let rows = mark_count no_rows (r.rows ++ b.rows) in
      omega (arith, number, tasks_have_rows s.task (length r.rows) next.size, all, rows, next.fits.left, next.fits.right)

  by_end : (e : Bool) → Adds q s r b e → task_count s.task (record { rows = r.rows ++ b.rows; ended = e }) ≡ b.number + 1
  by_end false a = ap (λ k. div_ceil k s.task) (length-append r.rows b.rows) ∙ sym (one_task_more s.task b.number (length r.rows) (length b.rows) next.size a.whole a.some a.few)
  by_end true a = ap (λ l. div_ceil (length l) s.task + 1) (ap (λ l. r.rows ++ l) a.none ∙ append-nil r.rows) ∙ ap (λ k. k + 1) (sym number)

  -- one task more
  pub next_count : task_count s.task (and_block r b) ≡ b.number + 1
  next_count = ap (λ e. task_count s.task (record { rows = r.rows ++ b.rows; ended = e || b.ended })) next.unended ∙ by_end b.ended next.adds
