-- What a task needs and gives stays, as rows are added after it.
use Rattle.std.proofs.Common.{◌≡◌, ℕ, ◌+◌, ◌/◌, ◌≤◌, slice_range, ◌∙◌, ap, ap₂, le_trans, arith}
use Rattle.std.specs.Option.{option_map_or}
use Rattle.saber_plan.specs.Inputs.{Input}
use Rattle.saber_plan.specs.Trees.{Tree}
use Rattle.saber_plan.specs.Windows.{last_mark}
use Rattle.saber_plan.specs.Answers.{by_shape, frame}
use Rattle.saber_plan.specs.Tasks.{task_start, upto, places}
use Rattle.saber_plan.specs.Needs.{first_open, free, back_rows, task_rows, back_mark}
use Rattle.saber_plan.specs.Facts.Lists.{slice-take}
use Rattle.saber_laws.proofs.ListLaws.{places_stay}
use Rattle.saber_laws.proofs.TaskCutLaws.{cut_rises, cuts_rise, cut-upto, first_of_first}
use Rattle.saber_laws.specs.Needs.{NeedsStay}
use Rattle.saber_laws.proofs.FreeLaws.{tasks_look_back}

pub first_tell_free : (q : Tree) (n : ℕ) (r : Input) (d t : ℕ) → t ≤ d → free q n (upto n r d) t ≡ free q n r t
first_tell_free q n r d t l = ap (λ u. by_shape q.shape t t (option_map_or (λ p. p / n) (first_open (frame q) u) t)) (first_of_first n r d t l)

pub back_mark-upto : (q : Tree) (n : ℕ) (r : Input) (d t : ℕ) → 1 ≤ n → t ≤ d → back_mark q n (upto n r d) t ≡ back_mark q n r t
back_mark-upto q n r d t h l = ap (λ f. last_mark (upto n (upto n r d) f)) (first_tell_free q n r d t l) ∙ ap last_mark (first_of_first n r d (free q n r t) (le_trans (tasks_look_back q n r t h) l))

pub back_rows-upto : (q : Tree) (n : ℕ) (r : Input) (d t : ℕ) → 1 ≤ n → t ≤ d → back_rows q n (upto n r d) t ≡ back_rows q n r t
back_rows-upto q n r d t h l =
    let back = tasks_look_back q n r t h in
    ap (λ f. slice_range (upto n r d).rows (task_start n (upto n r d) f) (task_start n (upto n r d) t)) (first_tell_free q n r d t l)
    ∙ ap₂ (slice_range (upto n r d).rows) (cut-upto n r d (free q n r t) (le_trans back l)) (cut-upto n r d t l)
    ∙ slice-take r.rows (task_start n r (free q n r t)) (task_start n r t) (task_start n r d) (cuts_rise n r (free q n r t) t back) (cuts_rise n r t d l)

pub task_rows-upto : (n : ℕ) (r : Input) (d t : ℕ) → t + 1 ≤ d → task_rows n (upto n r d) t ≡ task_rows n r t
task_rows-upto n r d t l =
    let less : t ≤ d = omega arith in
    ap₂ (slice_range (upto n r d).rows) (cut-upto n r d t less) (cut-upto n r d (t + 1) l)
    ∙ slice-take r.rows (task_start n r t) (task_start n r (t + 1)) (task_start n r d) (cut_rises n r t) (cuts_rise n r (t + 1) d l)

-- where its rows stand in their substreams
pub places-upto : (q : Tree) (n : ℕ) (r : Input) (d t : ℕ) → t + 1 ≤ d
    → places q (upto n r d).rows (task_start n (upto n r d) t) (task_start n (upto n r d) (t + 1)) ≡ places q r.rows (task_start n r t) (task_start n r (t + 1))
places-upto q n r d t l =
    let less : t ≤ d = omega arith in
    ap₂ (places q (upto n r d).rows) (cut-upto n r d t less) (cut-upto n r d (t + 1) l)
    ∙ places_stay q r.rows (task_start n r t) (task_start n r (t + 1)) (task_start n r d) (cut_rises n r t) (cuts_rise n r (t + 1) d l)

pub needs_stay : NeedsStay
needs_stay q n r d t h l = record { begins = cut-upto n r d t l; free_pointer = first_tell_free q n r d t l; mark = back_mark-upto q n r d t h l; rows = back_rows-upto q n r d t h l }
