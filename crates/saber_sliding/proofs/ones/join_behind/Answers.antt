use Rattle.std.proofs.Common.{◌∙◌, ap, length, arith}
use Rattle.std.proofs.lemmas.Result.{on_ok_weaker}
use Rattle.saber_sliding.specs.Entries.{Entries}
use Rattle.saber_sliding.proofs.Stacked.{length-joined}
use Rattle.saber_sliding.proofs.ones.join_behind.Goals as goal

pub returns-then-late-clause-steps : goal.returns-then-late-clause-steps
returns-then-late-clause-steps g c =
    let same = ap (λ (l : Entries). length l) c.join_last.ensures.joined ∙ length-joined c.args.part.now c.args.back.now in
    let step = c.join_last.ensures.steps in
    omega (arith, same, step)

pub returns-clause-steps : goal.returns-clause-steps
returns-clause-steps g c =
    let same = ap (λ (l : Entries). length l) c.join_last.ensures.joined ∙ length-joined c.args.part.now c.args.back.now in
    let step = c.join_last.ensures.steps in
    on_ok_weaker c.take_behind.result (λ more. omega (arith, same, step, more)) c.take_behind.ensures.steps
