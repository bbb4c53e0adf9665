use Rattle.std.proofs.Common.{arith}
use Rattle.saber_plan.specs.Facts.Lines.{judge_many, judge_long}
use Rattle.saber_rows.proofs.lines.Lines.long_cause.Goals as goal

pub returns-then-self : goal.returns-then-self
returns-then-self c content long = judge_many _ _ _ content (omega (arith, c.if-self.true))

pub returns : goal.returns
returns c content long = judge_long _ _ _ content (omega (arith, c.if-self.false)) long
