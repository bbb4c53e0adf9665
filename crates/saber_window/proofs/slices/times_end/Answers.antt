use Rattle.std.proofs.Common.{◌≡◌, ℕ, List, ◌+◌, ◌-◌, ◌<◌, length, Some, drop, get_or, sym, ap, subst, ◌∙◌, arith}
use Rattle.std.specs.List.{slice_get}
use Rattle.std.proofs.lemmas.Option.{slice_get-get_or}
use Rattle.std.proofs.lemmas.List.{length-drop}
use Rattle.saber_plan.specs.declared.rows.Row.{Row}
use Rattle.saber_window.specs.Together.{CountsAlike}
use Rattle.saber_plan.specs.declared.windows.Measure.TheVariants as measures
use Rattle.saber_plan.specs.Windows.{one}
use Rattle.saber_window.proofs.SliceFacts.{slice_get-drop, slice_get-undrop, left_at, times_together, in_all}
use Rattle.saber_window.proofs.slices.times_end.Goals as goal

-- the first row
first_row : (rows : List Row) (from : ℕ) (r : Row) → from < length rows → Some r ≡ slice_get rows from → Some r ≡ slice_get (drop from rows) 0
first_row rows from r there is =
    let at : from ≡ from + 0 = omega arith in
    slice_get-drop rows from 0 r (omega (arith, there)) (is ∙ ap (slice_get rows) at)

pub next_other-requires-clause-small : goal.next_other-requires-clause-small
next_other-requires-clause-small c =
    let time = (left_at (drop c.args.from c.args.rows.now) 0 c.row.result c.requires.left (first_row c.args.rows.now c.args.from c.row.result c.requires.there c.row.ensures)).time in
    let is = c.stamp-time.ensures.stamp in
    omega (arith, time, is)

pub returns-clause-together : goal.returns-clause-together
returns-clause-together c =
    let a = c.args in
    let zs = drop a.from a.rows.now in
    let rows = a.rows.now in
    let last = c.last_below.result in
    let from = c.last_below.ensures.from in
    let below = c.last_below.ensures.below in
    let there = below.there in
    let long = length-drop a.from rows in
    let n = last + 1 - a.from in
    let d = get_or zs (n - 1) c.row.result in
    let is_last : Some d ≡ slice_get zs (n - 1) = sym (slice_get-get_or zs (n - 1) c.row.result (omega (arith, from, there, long))) in
    let at : a.from + (n - 1) ≡ last = omega (arith, from) in
    let among : Some d ≡ slice_get rows last = slice_get-undrop rows a.from (n - 1) d (omega (arith, from, there)) is_last ∙ ap (slice_get rows) at in
    let until = c.next_other.result in
    let stamp_is = c.stamp-time.ensures.stamp in
    in_all (one measures.Range a.slide a.size) a.before.now rows a.from (last + 1) (omega (arith, there))
    (times_together a.slide a.size a.before.now zs n until c.row.result d c.requires.left c.requires.order (first_row rows a.from c.row.result c.requires.there c.row.ensures) is_last (below.below d among)
    (subst (λ t. CountsAlike a.slide a.size t until) stamp_is c.next_other.ensures.first)
    (subst (λ t. CountsAlike a.slide 0 t until) stamp_is c.next_other.ensures.past))
