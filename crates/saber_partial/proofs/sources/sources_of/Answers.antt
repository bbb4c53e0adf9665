use Rattle.std.proofs.Common.{take, ◌∙◌, subst, arith}
use Rattle.std.proofs.lemmas.List.{length-set, take_all}
use Rattle.saber_partial.specs.Sources.{AreSources}
use Rattle.saber_partial.proofs.Sourced.{sources_front, sources_more}
use Rattle.saber_partial.proofs.sources.sources_of.Goals as goal

pub loop-k-preserved : goal.loop-k-preserved
loop-k-preserved c =
    let test = c.loop-k-test.true in
    let few = c.requires in
    let long = c.loop-k.invariant.long in
    record {
      long = length-set c.loop-k.sources c.loop-k.k _ ∙ long;
      front = sources_more c.args.aggregates.now c.loop-k.sources c.loop-k.k _ c.of.result test (omega (arith, test, few, long)) c.loop-k.invariant.front c.of.ensures;
    }

pub returns : goal.returns
returns c =
    let test = c.loop-k-test.false in
    sources_front c.args.aggregates.now c.loop-k.k c.loop-k.sources
    (subst (λ (gs : _). AreSources gs (take c.loop-k.k c.loop-k.sources)) (take_all c.loop-k.k c.args.aggregates.now (omega (arith, test))) c.loop-k.invariant.front)
