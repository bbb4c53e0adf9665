-- A block that is given, as the block of its task in the input with it.
use Rattle.std.proofs.Common.{◌≡◌, ◌≤◌, ℕ, suc, zero, ◌+◌, ◌-◌, ◌*◌, min, length, List, [], ◌∷◌, ◌++◌, take, drop, slice_range, Bool, true, false, ◌||◌, refl, sym, ◌∙◌, ap, subst, arith, append-nil, length-append}
use Rattle.std.proofs.lemmas.List.{take_all, drop_all}
use Rattle.std.proofs.lemmas.Grind.{div_ceil_times}
use Rattle.std.proofs.Math.Seq.{drop-append_seam}
use Rattle.saber_plan.specs.declared.rows.Row.{Row}
use Rattle.saber_plan.specs.declared.windows.Mark.{Mark}
use Rattle.saber_plan.specs.declared.sizes.Sizes.{Sizes}
use Rattle.saber_plan.specs.Inputs.{Input, going_on}
use Rattle.saber_plan.specs.Trees.{Tree}
use Rattle.saber_plan.specs.Windows.{mark_after, step_mark, last_mark}
use Rattle.saber_plan.specs.Tasks.{task_start, upto, row_tasks, task_count, places, places_by}
use Rattle.saber_plan.specs.Needs.{free, task_rows}
use Rattle.saber_fragment.specs.declared.blocks.Block.{Block}
use Rattle.saber_fragment.specs.Drafts.{EndWith}
use Rattle.saber_assembly.specs.declared.work.RunData.{RunData}
use Rattle.saber_plan.specs.Stages.{Tasks}
use Rattle.saber_assembly.specs.Works.{HasFirstRows, input_of, with_block}
use Rattle.saber_dispatch.specs.Cutting.{Adds, IsNextBlock}
use Rattle.saber_dispatch.specs.Keeping.{IsPlaced}
use Rattle.saber_places.specs.Counting.{places_behind}
use Rattle.saber_dispatch.specs.Supplying.{IsSupplied, BlocksAreSupplied}
use Rattle.saber_dispatch.proofs.NextTasks.{goes_on, row_cut, upto_rows, upto_end, upto_all, upto_seam}

take_nothing : {A : Type 0} (n : ℕ) → take {A = A} n [] ≡ []
take_nothing zero = refl
take_nothing (suc n) = refl

-- the block of the next task of rows xs: its input's tasks up to it
pub record Stands (q : Tree) (n : ℕ) (xs : List Row) (b : Block) (more : Input) : Type 0 where
  pub front : upto n more b.number ≡ going_on xs
  pub whole : upto n more (b.number + 1) ≡ more
  pub rows : b.rows ≡ task_rows n more b.number

module _ (q : Tree) (s : Sizes) (xs : List Row) (b : Block) (some : 1 ≤ s.task) where
  length_all : length (xs ++ b.rows) ≡ length xs + length b.rows
  length_all = length-append xs b.rows

  next_times : (b.number + 1) * s.task ≡ b.number * s.task + s.task
  next_times = grind arith

  slice_behind : (x y : ℕ) → x ≡ length xs → length xs + length b.rows ≤ y → slice_range (xs ++ b.rows) x y ≡ b.rows
  slice_behind x y at far = ap (λ n. take (y - n) (drop n (xs ++ b.rows))) at ∙ ap (take (y - length xs)) (drop-append_seam xs b.rows) ∙ take_all (y - length xs) b.rows (omega (arith, far))

  stands_by : (e : Bool) → b.number ≡ row_tasks s.task (going_on xs) → Adds q s (going_on xs) b e → Stands q s.task xs b (record { rows = xs ++ b.rows; ended = e })
  stands_by false number a =
      let here : task_start s.task (going_on (xs ++ b.rows)) b.number ≡ length xs = omega (arith, length_all, a.whole) in
      let all : length (xs ++ b.rows) ≤ (b.number + 1) * s.task = omega (arith, length_all, a.whole, a.few, next_times) in
      let behind : length xs + length b.rows ≤ task_start s.task (going_on (xs ++ b.rows)) (b.number + 1) = omega (arith, length_all, all) in
      record {
        front = upto_seam s.task xs b.rows false b.number some a.whole;
        whole = upto_all s.task (xs ++ b.rows) (b.number + 1) all;
        rows = sym (slice_behind (task_start s.task (going_on (xs ++ b.rows)) b.number) (task_start s.task (going_on (xs ++ b.rows)) (b.number + 1)) here behind);
      }
  stands_by true number a =
      let same : xs ++ b.rows ≡ xs = ap (λ l. xs ++ l) a.none ∙ append-nil xs in
      let h = div_ceil_times (length xs) s.task some in
      let room : length xs ≤ b.number * s.task = omega (arith, h.0, ap (λ j. j * s.task) number) in
      let ended : Input = record { rows = xs; ended = true } in
      let at : task_start s.task ended b.number ≡ length xs = row_cut true (row_tasks s.task ended) b.number (length xs) (b.number * s.task) (omega (arith, number)) ∙ omega (arith, room) in
      let none : task_rows s.task ended b.number ≡ [] =
      ap (λ x. slice_range xs x (task_start s.task ended (b.number + 1))) at ∙ ap (take (task_start s.task ended (b.number + 1) - length xs)) (drop_all (length xs) xs (omega arith)) ∙ take_nothing (task_start s.task ended (b.number + 1) - length xs) in
      let back : (l : List Row) → xs ≡ l → (upto s.task (record { rows = l; ended = true }) b.number ≡ going_on xs) × (upto s.task (record { rows = l; ended = true }) (b.number + 1) ≡ record { rows = l; ended = true }) × (b.rows ≡ task_rows s.task (record { rows = l; ended = true }) b.number) =
      λ l e. subst (λ m. (upto s.task (record { rows = m; ended = true }) b.number ≡ going_on xs) × (upto s.task (record { rows = m; ended = true }) (b.number + 1) ≡ record { rows = m; ended = true }) × (b.rows ≡ task_rows s.task (record { rows = m; ended = true }) b.number)) e
      (upto_rows s.task ended b.number (omega (arith, number)) ∙ ap going_on (take_all (min (b.number * s.task) (length xs)) xs (omega (arith, room))), upto_end s.task xs (b.number + 1) (omega (arith, number)), a.none ∙ sym none) in
      let at_all = back (xs ++ b.rows) (sym same) in
      record { front = at_all.0; whole = at_all.1; rows = at_all.2 }

same_places : (q : Tree) (ks : List ℕ) (xs : List Row) (x y : ℕ) → places_behind q ks (take x xs) (slice_range xs x y) ≡ places_by q ks xs x y
same_places q [] xs x y = refl
same_places q (k ∷ ks) xs x y = refl

unended : (m : Mark) (xs : List Row) → m.ended ≡ false → (mark_after m xs).ended ≡ false
unended m [] h = h
unended m (x ∷ xs) h = unended (step_mark m x) xs h

module _ {O : Type 0} (plan : O → Tree) (told : RunData O) (s : Sizes) (b : Block) (size : told.size ≡ s.task) (next : IsNextBlock (plan told.operator) s (input_of told) b) (placed : IsPlaced (plan told.operator) told.rows b)
    (of_input : HasFirstRows (with_block told b) (b.number + 1)) where
  abbrev q : Tree
  q = plan told.operator

  abbrev more : Input
  more = input_of (with_block told b)

  number : b.number ≡ row_tasks s.task (going_on told.rows)
  number = next.number ∙ ap (task_count s.task) (goes_on (input_of told) next.unended)

  ends : b.ended ≡ more.ended
  ends = sym (ap (λ x. x || b.ended) next.unended)

  rows_stand : Stands q s.task told.rows b (record { rows = told.rows ++ b.rows; ended = b.ended })
  rows_stand = stands_by q s told.rows b next.size b.ended number (subst (λ i. Adds q s i b b.ended) (goes_on (input_of told) next.unended) next.adds)

  stand : Stands q told.size told.rows b more
  stand = subst (λ n. Stands q n told.rows b more) (sym size) (subst (λ e. Stands q s.task told.rows b (record { rows = told.rows ++ b.rows; ended = e })) ends rows_stand)

  stand_places : places_behind q q.partition told.rows b.rows ≡ places q more.rows (task_start told.size more b.number) (task_start told.size more (b.number + 1))
  stand_places =
      (λ j. places_behind q q.partition (ap (λ (i : Input). i.rows) (sym stand.front) j) (stand.rows j))
      ∙ same_places q q.partition more.rows (task_start told.size more b.number) (task_start told.size more (b.number + 1))

  tasks : Tasks q told.size more
  tasks = record { windows = next.windows; fits = next.fits; size = subst (λ n. 1 ≤ n) (sym size) next.size }

  supplied : IsSupplied plan told b
  supplied = record {
    block = record {
      tasks = tasks;
      block = record {
        earlier = subst (λ (l : List Row). EndWith l b.earlier) (ap (λ (i : Input). i.rows) (sym stand.front)) next.earlier;
        before = next.before ∙ sym (ap last_mark stand.front);
        rows = stand.rows;
        places = placed ∙ stand_places;
        ended = ends ∙ sym (ap (λ (i : Input). i.ended) stand.whole);
      };
      opens = ap (λ (i : Input). i.ended) stand.front;
      number = refl;
      first = next.first ∙ ap (λ i. free q s.task i b.number) (goes_on (input_of told) next.unended ∙ sym stand.front) ∙ ap (λ n. free q n (upto told.size more b.number) b.number) (sym size);
    };
    told_is = record { tasks = tasks; whole = stand.whole; of_input = of_input };
  }

pub blocks_are_supplied : {O : Type 0} (plan : O → Tree) → BlocksAreSupplied plan
blocks_are_supplied plan told s b size next placed of_input = supplied plan told s b size next placed of_input
