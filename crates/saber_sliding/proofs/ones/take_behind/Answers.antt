use Rattle.std.proofs.Common.{sym, ◌∙◌, ap, arith}
use Rattle.std.proofs.lemmas.Result.{on_ok_weaker}
use Rattle.saber_partial.specs.Piles.{piled_part}
use Rattle.saber_sliding.proofs.Stacked.{piled_can, piled_first, piled_more}
use Rattle.saber_sliding.proofs.ones.take_behind.Goals as goal

pub returns-then-len-eq0-clause-part : goal.returns-then-len-eq0-clause-part
returns-then-len-eq0-clause-part g c =
    let none = sym c.len.ensures ∙ c.if-len-eq0.true in
    on_ok_weaker c.push.result (λ new. ap piled_part new ∙ piled_first c.args.all.now c.args.part.now none) c.push.ensures.ok

pub join-requires-clause-can : goal.join-requires-clause-can
join-requires-clause-can g c = piled_can c.args.all.now c.args.part.now c.requires.few c.requires.can

pub returns-clause-part : goal.returns-clause-part
returns-clause-part g c =
    let some = c.if-len-eq0.false in
    let long = c.len.ensures in
    ap piled_part c.join.ensures.joined ∙ piled_more c.args.all.now c.args.part.now (omega (arith, some, long)) c.requires.few
