-- Where tasks begin.
use Rattle.std.proofs.Common.{◌≡◌, ℕ, suc, ◌+◌, ◌*◌, ◌≤◌, ◌<◌, min, [], length, Bool, true, false, cond, ◌&&◌, nat_lt, refl, ◌∙◌, ap, length-take, le_trans, ⊎_elim, arith}
use Rattle.std.specs.Int.{div_ceil}
use Rattle.std.proofs.lemmas.Grind.{div_ceil_times}
use Rattle.std.proofs.lemmas.Bool.Decides.{nat_tests}
use Rattle.std.proofs.lemmas.Bool.{cases_lt}
use Rattle.saber_plan.specs.Inputs.{Input, first_arrivals, going_on}
use Rattle.saber_plan.specs.Tasks.{task_start, upto, row_tasks}
use Rattle.saber_laws.proofs.EndLaws.{arrived_twice}

keeps_case : (b : Bool) (c l k t x y : ℕ) → k ≤ t → x ≤ y → cond (b && nat_lt c k) (suc l) (min x l) ≤ cond (b && nat_lt c t) (suc l) (min y l)
keeps_case true c l k t x y a d = ⊎_elim
    (λ e. ⊎_elim (λ g. grind (arith, nat_tests)) (λ g. grind (arith, nat_tests)) (cases_lt c k))
    (λ e. grind (arith, nat_tests))
    (cases_lt c t)
keeps_case false c l k t x y a d = omega arith

-- a later task begins no earlier
pub cuts_rise : (n : ℕ) (r : Input) (k t : ℕ) → k ≤ t → task_start n r k ≤ task_start n r t
cuts_rise n r k t a = let more : k * n ≤ t * n = grind arith in keeps_case r.ended (row_tasks n r) (length r.rows) k t (k * n) (t * n) a more

pub cut_rises : (n : ℕ) (r : Input) (k : ℕ) → task_start n r k ≤ task_start n r (k + 1)
cut_rises n r k = cuts_rise n r k (k + 1) (omega arith)

none_case : (b : Bool) (c l x : ℕ) → x ≡ 0 → cond (b && nat_lt c 0) (suc l) (min x l) ≡ 0
none_case true c l x e = grind (arith, nat_tests)
none_case false c l x e = omega arith

no_end : (b : Bool) (l : ℕ) → (b && nat_lt l 0) ≡ false
no_end true l = grind (arith, nat_tests)
no_end false l = refl

pub nothing_arrived : (r : Input) → first_arrivals r 0 ≡ going_on []
nothing_arrived r = λ j. record { rows = []; ended = no_end r.ended (length r.rows) j }

-- no task has arrivals
pub no_tasks_no_rows : (n : ℕ) (r : Input) → upto n r 0 ≡ going_on []
no_tasks_no_rows n r = let none : 0 * n ≡ 0 = omega arith in ap (first_arrivals r) (none_case r.ended (row_tasks n r) (length r.rows) (0 * n) none) ∙ nothing_arrived r

-- the tasks with rows have all rows
pub rows_fit : (l n : ℕ) → 1 ≤ n → l ≤ div_ceil l n * n
rows_fit l n h = (div_ceil_times l n h).0

before_case : (b : Bool) (c l k x p : ℕ) → (c < k → l ≤ x) → p < cond (b && nat_lt c k) (suc l) (min x l) → p < l → p < x
before_case true c l k x p f h g = ⊎_elim (λ e. let all = f e in omega arith) (λ e. grind (arith, nat_tests)) (cases_lt c k)
before_case false c l k x p f h g = omega arith

times : (c k n : ℕ) → c ≤ k → c * n ≤ k * n
times c k n h = grind arith

all_rows : (n : ℕ) (r : Input) (k : ℕ) → 1 ≤ n → row_tasks n r < k → length r.rows ≤ k * n
all_rows n r k h l =
    let all = rows_fit (length r.rows) n h in
    let more = times (row_tasks n r) k n (omega arith) in
    le_trans all more

-- a row before task k
pub row_before : (n : ℕ) (r : Input) (k p : ℕ) → 1 ≤ n → p < task_start n r k → p < length r.rows → p < k * n
row_before n r k p h = before_case r.ended (row_tasks n r) (length r.rows) k (k * n) p (all_rows n r k h)

from_case : (b : Bool) (c l k x p : ℕ) → cond (b && nat_lt c k) (suc l) (min x l) ≤ p → p < l → x ≤ p
from_case true c l k x p h g = ⊎_elim (λ e. grind (arith, nat_tests)) (λ e. grind (arith, nat_tests)) (cases_lt c k)
from_case false c l k x p h g = omega arith

-- a row of task k or of a later one
pub row_from : (n : ℕ) (r : Input) (k p : ℕ) → task_start n r k ≤ p → p < length r.rows → k * n ≤ p
row_from n r k p = from_case r.ended (row_tasks n r) (length r.rows) k (k * n) p

cut_case : (b : Bool) (c l k x p : ℕ) → (c < k → l ≤ x) → x ≤ p → p < l → cond (b && nat_lt c k) (suc l) (min x l) ≤ p
cut_case true c l k x p f h g = ⊎_elim (λ e. let all = f e in absurd (omega arith)) (λ e. grind (arith, nat_tests)) (cases_lt c k)
cut_case false c l k x p f h g = omega arith

pub cut_by : (n : ℕ) (r : Input) (k p : ℕ) → 1 ≤ n → k * n ≤ p → p < length r.rows → task_start n r k ≤ p
cut_by n r k p h = cut_case r.ended (row_tasks n r) (length r.rows) k (k * n) p (all_rows n r k h)

-- ---- an input that is cut where a task begins

twice_case : (b : Bool) (c c2 l l2 at t d x y : ℕ) → at ≡ cond (b && nat_lt c d) (suc l) (min y l) → l2 ≡ min at l → (l2 ≡ l → c2 ≡ c) → t ≤ d → x ≤ y
    → cond ((b && nat_lt l at) && nat_lt c2 t) (suc l2) (min x l2) ≡ cond (b && nat_lt c t) (suc l) (min x l)
twice_case true c c2 l l2 at t d x y e f g a h = ⊎_elim
    (λ k.
    let far : at ≡ suc l = grind (arith, nat_tests, e) in
    let all : l2 ≡ l = omega (arith, far, f) in
    let same = g all in
    grind (arith, nat_tests, far, all, same))
    (λ k.
    let near : at ≡ min y l = grind (arith, nat_tests, e) in
    let less : l2 ≡ min y l = omega (arith, near, f) in
    grind (arith, nat_tests, near, less))
    (cases_lt c d)
twice_case false c c2 l l2 at t d x y e f g a h = omega (arith, e, f)

-- earlier tasks begin there where they did
pub cut-upto : (n : ℕ) (r : Input) (d t : ℕ) → t ≤ d → task_start n (upto n r d) t ≡ task_start n r t
cut-upto n r d t a = twice_case r.ended (row_tasks n r) (row_tasks n (upto n r d)) (length r.rows) (length (upto n r d).rows) (task_start n r d) t d (t * n) (d * n) refl (length-take (task_start n r d) r.rows) (λ e. ap (λ l. div_ceil l n) e) a (times t d n a)

pub first_of_first : (n : ℕ) (r : Input) (d t : ℕ) → t ≤ d → upto n (upto n r d) t ≡ upto n r t
first_of_first n r d t a = ap (first_arrivals (upto n r d)) (cut-upto n r d t a) ∙ arrived_twice r (task_start n r t) (task_start n r d) (cuts_rise n r t d a)
