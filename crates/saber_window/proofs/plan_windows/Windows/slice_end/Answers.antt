use Rattle.std.proofs.Common.{rules, ◌+◌, ◌≡◌, ◌-◌, drop, subst, arith}
use Rattle.saber_plan.specs.declared.windows.Measure.TheVariants as measures
use Rattle.saber_plan.specs.Windows.{Frame, one}
use Rattle.saber_window.specs.Together.{LieTogether}
use Rattle.saber_window.proofs.SliceFacts.{alone, in_all}
use Rattle.saber_window.proofs.plan_windows.Windows.slice_end.Goals as goal

pub returns-in-One-Rows-default-default-clause-together : goal.returns-in-One-Rows-default-default-clause-together
returns-in-One-Rows-default-default-clause-together c =
    let w = c.in-One-Rows-default-default in
    let same : one measures.Rows w.slide w.size ≡ c.args.self.now = search rules in
    subst (λ (f : Frame). LieTogether f c.args.before.now c.args.rows.now c.args.from c.rows_end.result) same c.rows_end.ensures.together

pub returns-in-One-Range-default-default-clause-together : goal.returns-in-One-Range-default-default-clause-together
returns-in-One-Range-default-default-clause-together c =
    let w = c.in-One-Range-default-default in
    let same : one measures.Range w.slide w.size ≡ c.args.self.now = search rules in
    subst (λ (f : Frame). LieTogether f c.args.before.now c.args.rows.now c.args.from c.times_end.result) same c.times_end.ensures.together

pub returns-in-Neither-clause-together : goal.returns-in-Neither-clause-together
returns-in-Neither-clause-together c =
    let there = c.requires.there in
    in_all c.args.self.now c.args.before.now c.args.rows.now c.args.from (c.args.from + 1) (omega (arith, there))
    (alone c.args.self.now c.args.before.now (drop c.args.from c.args.rows.now) (c.args.from + 1 - c.args.from) (omega arith))

pub returns-in-Both-clause-together : goal.returns-in-Both-clause-together
returns-in-Both-clause-together c =
    let there = c.requires.there in
    in_all c.args.self.now c.args.before.now c.args.rows.now c.args.from (c.args.from + 1) (omega (arith, there))
    (alone c.args.self.now c.args.before.now (drop c.args.from c.args.rows.now) (c.args.from + 1 - c.args.from) (omega arith))
