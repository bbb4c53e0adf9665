-- The laws of the engine's work.
use Rattle.std.proofs.Common.{false, true, length-take, ◌≡◌, ℕ, ◌+◌, ◌*◌, ◌-◌, ◌≤◌, ◌<◌, min, zero, suc, Bool, cond, ◌&&◌, ◌||◌, nat_lt, List, ◌++◌, Option, length, take, drop, slice_range, refl, sym, ◌∙◌, ap, subst, le_refl, le_trans, length-append, length-drop, ⊎_elim, arith}
use Rattle.std.specs.Int.{div_ceil}
use Rattle.std.proofs.lemmas.Bool.Decides.{nat_tests}
use Rattle.std.proofs.lemmas.Bool.{cases_lt}
use Rattle.std.proofs.lemmas.List.{take-append-le, take-take, take_all}
use Rattle.std.proofs.lemmas.Option.{IfSome_then}
use Rattle.std.proofs.Math.Nat.{mul-le-mul}
use Rattle.saber_plan.specs.declared.rows.Row.{Row}
use Rattle.saber_plan.specs.Inputs.{Input}
use Rattle.saber_plan.specs.Trees.{Tree}
use Rattle.saber_plan.specs.Tasks.{Kept, task_start, upto, row_tasks, kept_behind}
use Rattle.saber_plan.specs.Answers.{text}
use Rattle.saber_plan.specs.Needs.{free, task_rows}
use Rattle.saber_laws.proofs.TaskCutLaws.{first_of_first, cut_rises, rows_fit}
use Rattle.saber_laws.proofs.GrowLaws.{first_tell_free}
use Rattle.saber_laws.proofs.FreeLaws.{tasks_look_back, tasks_look_on}
use Rattle.saber_laws.proofs.WriteLaws.{first_with_text}
use Rattle.saber_fragment.specs.declared.blocks.Block.{Block}
use Rattle.saber_fragment.specs.Stores.{Follows, CanTakeIn}
use Rattle.saber_plan.specs.Outputs.{raised_by, appended_text}
use Rattle.saber_assembly.specs.declared.stage.Stage.{Stage}
use Rattle.saber_plan.specs.declared.stages.StageState.TheVariants.{Running}
use Rattle.saber_assembly.specs.declared.work.RunData.{RunData}
use Rattle.saber_assembly.specs.Stages.{stage_view, IsPieceAt}
use Rattle.saber_plan.specs.Stages.{StageView, Start, Tasks, After, Keeps}
use Rattle.saber_assembly.specs.Works.{IsTold, HasFirstRows, input_of, with_input, with_block, first_tasks, start_of, IsBlockOf, IsPieceOf, IsStageOf, first_needed}

slice_size : {A : Type 0} (a b : ℕ) (l : List A) → length (slice_range l a b) ≡ min (b - a) (length l - a)
slice_size a b l = let size = length-take (b - a) (drop a l) in let rest = length-drop a l in size ∙ ap (min (b - a)) rest

none_on : (j : ℕ) → j ≡ 0 + j
none_on j = omega arith

next_is : (m j : ℕ) → m + j + 1 ≡ suc m + j
next_is m j = omega arith

back_up : (j k : ℕ) → j ≤ k → k - j + j ≡ k
back_up j k le = omega (arith, le)

-- ---- an input of which all comes in the first d tasks, and one task more

-- where the end is behind task d, that is not so here: the task begins at a row, or behind the last
not_past : (b : Bool) (c l d x : ℕ) → (b && nat_lt l (cond (b && nat_lt c d) (suc l) (min x l))) ≡ false
    → cond (b && nat_lt c d) (suc l) (min x l) ≤ l
not_past true c l d x e = ⊎_elim (λ k. grind (arith, nat_tests, e)) (λ k. grind (arith, nat_tests, e)) (cases_lt c d)
not_past false c l d x e = omega arith

-- all rows come in the first tasks
all_come : {A : Type 0} (xs : List A) (x : ℕ) → take x xs ≡ xs → length xs ≤ x
all_come xs x e = let size = length-take x xs in let same = ap length e in omega (arith, size, same)

-- so one task's rows are all those behind the task's begin
behind_cut : (l r all a b : ℕ) → all ≡ l + r → r ≡ min (b - a) (all - a) → all ≤ b → a ≤ all → a ≡ l
behind_cut l r all a b e f g h = omega (arith, e, f, g, h)

-- an input that ended has less than d whole tasks of rows, if all of it comes in the first d
ends_within : (c l d x : ℕ) → (true && nat_lt l (cond (true && nat_lt c d) (suc l) (min x l))) ≡ true → c < d
ends_within c l d x e = ⊎_elim (λ k. k) (λ k. absurd (let f : false ≡ true = grind (arith, nat_tests, e, k) in let g = f in cc)) (cases_lt c d)

-- and then no task more begins behind that begin
no_more : (b : Bool) (c c2 l l2 d n : ℕ) → b ≡ true → c < d → l ≤ c * n → 1 ≤ n
    → cond (b && nat_lt c2 d) (suc l2) (min (d * n) l2) ≡ l → (l2 ≡ l → c2 ≡ c) → l ≤ l2 → ⊥
no_more true c c2 l l2 d n t less rows size at same le =
    let more : (c + 1) * n ≤ d * n = mul-le-mul (omega (arith, less)) (le_refl n) in
    let one : (c + 1) * n ≡ n + c * n = grind arith in
    ⊎_elim
    (λ k. let far : suc l2 ≡ l = grind (arith, nat_tests, at, k) in omega (arith, far, le))
    (λ k.
    let near : min (d * n) l2 ≡ l = grind (arith, nat_tests, at, k) in
    let both : l2 ≡ l = omega (arith, near, more, one, rows, size) in
    let alike = same both in omega (arith, alike, k, less))
    (cases_lt c2 d)
no_more false c c2 l l2 d n t less rows size at same le = absurd (let h = t in cc)

or_true : (b c : Bool) → b ≡ true → (b || c) ≡ true
or_true true c e = refl
or_true false c e = absurd (let h = e in cc)

is_false : (b : Bool) → (b ≡ true → ⊥) → b ≡ false
is_false true f = absurd (f refl)
is_false false f = refl

module _ (n : ℕ) (size : 1 ≤ n) (r r' : Input) (bs : List Row) (e : Bool) (d : ℕ)
    (was : upto n r d ≡ r) (rows_are : r'.rows ≡ r.rows ++ bs) (ends : r'.ended ≡ (r.ended || e)) (now : upto n r' (d + 1) ≡ r')
    (block : bs ≡ task_rows n r' d) (opens : (upto n r' d).ended ≡ false) where
  all_is : length r'.rows ≡ length r.rows + length bs
  all_is = ap length rows_are ∙ length-append r.rows bs

  cut_is : task_start n r' d ≡ length r.rows
  cut_is =
      behind_cut (length r.rows) (length bs) (length r'.rows) (task_start n r' d) (task_start n r' (d + 1)) all_is
      (ap length block ∙ slice_size (task_start n r' d) (task_start n r' (d + 1)) r'.rows)
      (all_come r'.rows (task_start n r' (d + 1)) (ap (λ (z : Input). z.rows) now))
      (not_past r'.ended (row_tasks n r') (length r'.rows) d (d * n) opens)

  not_ended : r.ended ≡ true → ⊥
  not_ended t =
      let within : row_tasks n r < d =
      ends_within (row_tasks n r) (length r.rows) d (d * n)
      (subst (λ z. (z && nat_lt (length r.rows) (cond (z && nat_lt (row_tasks n r) d) (suc (length r.rows)) (min (d * n) (length r.rows)))) ≡ z) t
      (ap (λ (z : Input). z.ended) was)) in
      no_more r'.ended (row_tasks n r) (row_tasks n r') (length r.rows) (length r'.rows) d n (ends ∙ or_true r.ended e t) within
      (rows_fit (length r.rows) n size) size cut_is (λ same. ap (λ l. div_ceil l n) same) (let l = all_is in omega (arith, l))

  -- what was there is what comes in the first d tasks of it
  pub came_before : upto n r' d ≡ r
  came_before = λ i. record {
    rows =
        (ap (λ c. take c r'.rows) cut_is ∙ ap (take (length r.rows)) rows_are ∙ take-append-le (length r.rows) r.rows bs (le_refl (length r.rows))
        ∙ take_all (length r.rows) r.rows (le_refl (length r.rows))) i;
    ended = (opens ∙ sym (is_false r.ended not_ended)) i;
  }

-- ---- the rows of the first tasks

up_to_all : {A : Type 0} (x : ℕ) (xs : List A) → take (min x (length xs)) xs ≡ take x xs
up_to_all x xs = ⊎_elim
    (λ k. ap (λ m. take m xs) (omega (arith, k)))
    (λ k. take_all (min x (length xs)) xs (omega (arith, k)) ∙ sym (take_all x xs (omega (arith, k))))
    (cases_lt x (length xs))

cut_rows : {A : Type 0} (b : Bool) (c j x : ℕ) (xs : List A) → (c < j → length xs ≤ x) → take (cond (b && nat_lt c j) (suc (length xs)) (min x (length xs))) xs ≡ take x xs
cut_rows true c j x xs all = ⊎_elim
    (λ k.
    let past : length xs ≤ x = all k in
    let at : cond (true && nat_lt c j) (suc (length xs)) (min x (length xs)) ≡ suc (length xs) = grind (arith, nat_tests, k) in
    ap (λ m. take m xs) at ∙ take_all (suc (length xs)) xs (omega arith) ∙ sym (take_all x xs past))
    (λ k.
    let at : cond (true && nat_lt c j) (suc (length xs)) (min x (length xs)) ≡ min x (length xs) = grind (arith, nat_tests, k) in
    ap (λ m. take m xs) at ∙ up_to_all x xs)
    (cases_lt c j)
cut_rows false c j x xs all = up_to_all x xs

pub upto_rows : (n : ℕ) (r : Input) (j : ℕ) → 1 ≤ n → (upto n r j).rows ≡ take (j * n) r.rows
upto_rows n r j size =
    cut_rows r.ended (row_tasks n r) j (j * n) r.rows
    (λ past. le_trans (rows_fit (length r.rows) n size) (mul-le-mul (omega (arith, past)) (le_refl n)))

-- the piece of task k follows what a stage after k tasks has taken in
pub follows : (q : Tree) (n : ℕ) (r : Input) (start : Start) (s : StageView) (taken : Input → Type 0) (of : Input → ℕ → ℕ → Type 0)
    → Tasks q n r → task_start n r s.k ≤ task_start n r (s.k + 1) → Keeps q n r start taken s → s.state ≡ Running → IsPieceAt n r s.k of
    → Follows q s.kept taken of r (task_start n r s.k) (task_start n r (s.k + 1))
follows q n r start s taken of t up kept run p =
    let a : After q n r start s Running = subst (After q n r start s) run kept.after in
    record {
      windows = t.windows;
      fits = t.fits;
      rises = up;
      kept_is = a.1;
      taken_is = kept.taken_is run;
      of_is = p;
    }

module _ {O : Type 0} (plan : O → Tree) where
  pub block_keeps : (told : RunData O) (d k : ℕ) (b : Block) → IsTold plan told d → IsTold plan (with_block told b) (d + 1)
      → IsBlockOf plan (with_block told b) d b → k ≤ d → first_tasks (with_block told b) k ≡ first_tasks told k
  block_keeps told d k b was now is le =
      let n : ℕ = told.size in let r : Input = input_of told in let r' : Input = input_of (with_block told b) in
      ap (with_input told)
      (sym (first_of_first n r' d k le)
      ∙ ap (λ z. upto n z k) (came_before n now.tasks.size r r' b.rows b.ended d was.whole refl refl now.whole is.block.rows is.opens))

  pub tasks_again : (told : RunData O) (d j k : ℕ) → IsTold plan told d → k ≤ j → j ≤ d → first_tasks (first_tasks told j) k ≡ first_tasks told k
  tasks_again told d j k was le within = ap (with_input told) (first_of_first told.size (input_of told) j k le)

  pub tasks_whole : (told : RunData O) (d : ℕ) → IsTold plan told d → first_tasks told d ≡ told
  tasks_whole told d was = ap (with_input told) was.whole

  -- as long as all filled rows are those of the input's first tasks, so are the rows of fewer
  pub first_rows : (told : RunData O) (d j : ℕ) → IsTold plan told d → j ≤ d → HasFirstRows (first_tasks told j) j
  first_rows told d j was le =
      IfSome_then told.all was.of_input
      (λ rows e. upto_rows told.size (input_of told) j was.tasks.size ∙ ap (take (j * told.size)) e
      ∙ take-take (j * told.size) (d * told.size) rows (mul-le-mul le (le_refl told.size)))

  -- no task needs rows of a later one first
  pub needed_early : (told : RunData O) (d t : ℕ) → IsTold plan told d → t ≤ d → first_needed plan (first_tasks told t) t ≤ t
  needed_early told d t was le = tasks_look_back (plan told.operator) told.size (upto told.size (input_of told) t) t was.tasks.size

  -- nor does a task need fewer of the first rows than one before it
  steps_up : (told : RunData O) (d j m : ℕ) → IsTold plan told d → first_needed plan told j ≤ first_needed plan told (m + j)
  steps_up told d j zero was = subst (λ k. first_needed plan told j ≤ first_needed plan told k) (none_on j) (le_refl _)
  steps_up told d j (suc m) was =
      le_trans (steps_up told d j m was)
      (subst (λ k. first_needed plan told (m + j) ≤ first_needed plan told k) (next_is m j)
      (tasks_look_on (plan told.operator) was.tasks.windows told.size (input_of told) (m + j) was.tasks.fits.ordered was.tasks.size))

  pub needed_rises : (told : RunData O) (d j k : ℕ) → IsTold plan told d → j ≤ k → k ≤ d
      → first_needed plan (first_tasks told j) j ≤ first_needed plan (first_tasks told k) k
  needed_rises told d j k was le within =
      let q = plan told.operator in let n = told.size in let r = input_of told in
      let up : free q n r j ≤ free q n r k = subst (λ c. free q n r j ≤ free q n r c) (back_up j k le) (steps_up told d j (k - j) was) in
      subst (λ c. c ≤ free q n (upto n r k) k) (sym (first_tell_free q n r j j (le_refl j)))
      (subst (λ c. free q n r j ≤ c) (sym (first_tell_free q n r k k (le_refl k))) up)

  -- ---- the stage

  module _ {S K : Type 0} (contents : S → Kept) (taken : O → S → Input → Type 0) (written : K → Option (List ℕ)) (faults writes : K → ℕ) where
    -- what a stage that runs after k tasks keeps, it keeps by the rows of later tasks too
    pub keeps_on : (told : RunData O) (k : ℕ) (s : Stage S K) → IsStageOf plan (stage_view contents written faults writes) taken (first_tasks told k) k false s
        → Keeps (plan told.operator) told.size (input_of told) (start_of told) (taken told.operator s.store) (stage_view contents written faults writes s)
    keeps_on told k s is =
        let q = plan told.operator in let n = told.size in let r = input_of told in let v = stage_view contents written faults writes s in
        let a : After q n (upto n r k) (start_of told) v Running = subst (After q n (upto n r k) (start_of told) v) (is.runs refl) is.keeps.after in
        let few : s.k ≤ k = subst (λ c. c ≤ k) (sym is.behind) (le_refl k) in
        let same : upto n (upto n r k) s.k ≡ upto n r s.k = first_of_first n r k s.k few in
        let b : After q n r (start_of told) v Running = (
          a.0 ∙ ap (λ z. appended_text told.written (text q z)) same,
          a.1 ∙ ap (kept_behind q) same,
          a.2,
          a.3 ∙ ap (raised_by told.writes) (first_with_text q n r k s.k few),
        ) in
        record {
          after = subst (After q n r (start_of told) v) (sym (is.runs refl)) b;
          taken_is = λ run. subst (taken told.operator s.store) same (is.keeps.taken_is run);
        }

    -- its store can take in the next task's piece
    pub takes_next : {P : Type 0} (is_of : O → P → Input → ℕ → ℕ → Type 0) (told : RunData O) (k : ℕ) (s : Stage S K) (p : P)
        → IsStageOf plan (stage_view contents written faults writes) taken (first_tasks told k) k false s → IsPieceOf plan is_of told k p
        → CanTakeIn (plan told.operator) (contents s.store) (taken told.operator s.store) (is_of told.operator p)
    takes_next is_of told k s p is of =
        let q = plan told.operator in let n = told.size in let r = input_of told in
        let piece : IsPieceAt n r s.k (is_of told.operator p) =
        subst (λ j. IsPieceAt n r j (is_of told.operator p)) (sym is.behind) of.piece in (
          r,
          task_start n r s.k,
          task_start n r (s.k + 1),
          follows q n r (start_of told) (stage_view contents written faults writes s) (taken told.operator s.store) (is_of told.operator p) of.tasks
              (cut_rises n r s.k) (keeps_on told k s is) (is.runs refl) piece,
        )
