-- What the end of the input does to windows and tasks.
use Rattle.std.proofs.Common.{◌≡◌, ℕ, suc, ◌+◌, ◌-◌, ◌*◌, ◌≤◌, min, length, Bool, true, false, cond, ◌&&◌, ◌||◌, nat_lt, refl, ◌∙◌, ap, arith}
use Rattle.std.proofs.lemmas.List.{take_all}
use Rattle.std.proofs.lemmas.Bool.Decides.{nat_tests}
use Rattle.saber_plan.specs.Inputs.{first_arrivals}
use Rattle.saber_plan.specs.Windows.{mark_of, last_mark, closed_count, begun_count, past_count}
use Rattle.saber_plan.specs.Answers.{frame}
use Rattle.saber_plan.specs.Tasks.{task_start, row_tasks, task_count, unclosed}
use Rattle.saber_laws.specs.Ends.{EndsBeginNone, EndsCloseAll, NothingOpenBehind, TasksMakeAll}
use Rattle.saber_laws.proofs.WindowLaws.{begun_ending, begun_count_ending}
use Rattle.saber_laws.proofs.TaskLaws.{no_numbers}
use Rattle.saber_laws.proofs.TaskCutLaws.{rows_fit}

pub ends_begin_none : EndsBeginNone
ends_begin_none f e m = record { tests = λ i. begun_ending f i e m; counts = begun_count_ending f e m }

pub ends_close_all : EndsCloseAll
ends_close_all f m = begun_count_ending f true m

-- ---- behind the end

pub nothing_open_behind : NothingOpenBehind
unfolding unclosed
nothing_open_behind q r e =
    let f = frame q in
    let m = last_mark r in
    let all : closed_count f m ≡ begun_count f m = ap (λ b. cond (b || (mark_of r.rows).ended) (begun_count f m) (past_count f m)) e in
    no_numbers (closed_count f m) (begun_count f m - closed_count f m) _ (omega (arith, all))

all_case : (b : Bool) (c l x : ℕ) → l ≤ x → (k : ℕ) → k ≡ cond b (c + 1) c → cond (b && nat_lt c k) (suc l) (min x l) ≡ cond b (suc l) l
all_case true c l x h k e = grind (arith, nat_tests, e)
all_case false c l x h k e = omega arith

whole_case : (b : Bool) (l : ℕ) → (b && nat_lt l (cond b (suc l) l)) ≡ b
whole_case true l = grind (arith, nat_tests)
whole_case false l = refl

long_enough : (b : Bool) (l : ℕ) → l ≤ cond b (suc l) l
long_enough true l = omega arith
long_enough false l = omega arith

enough : (b : Bool) (c n l : ℕ) → l ≤ c * n → l ≤ cond b (c + 1) c * n
enough true c n l h = let step : (c + 1) * n ≡ c * n + n = grind arith in omega (arith, step)
enough false c n l h = h

pub tasks_make_all : TasksMakeAll
tasks_make_all n r h =
    let l = length r.rows in
    let b = r.ended in
    let at : task_start n r (task_count n r) ≡ cond b (suc l) l = all_case b (row_tasks n r) l (task_count n r * n) (enough b (row_tasks n r) n l (rows_fit l n h)) (task_count n r) refl in
    ap (first_arrivals r) at ∙ (λ j. record { rows = take_all (cond b (suc l) l) r.rows (long_enough b l) j; ended = whole_case b l j })
