use Rattle.std.proofs.Common.{rules, subst}
use Rattle.crossbeam_queue.specs.Passes.{view}
use Rattle.saber_pipe.specs.declared.rule.Log.{Log}
use Rattle.saber_pipe.specs.Order.{Promised}
use Rattle.saber_pipe.proofs.Relays.{merges, kept}
use Rattle.saber_pipe.proofs.Sendings.{settles}
use Rattle.saber_pipe.proofs.feed.PipeFeed.settle.Goals as goal

pub absorb-requires-clause-rule : goal.absorb-requires-clause-rule
absorb-requires-clause-rule g c = merges _ _ _ _ c.args.self.may

pub learn_as-requires-clause-rule : goal.learn_as-requires-clause-rule
learn_as-requires-clause-rule g c = kept _ _ (search rules)

pub returns : goal.returns
returns g c = settles (view c.args.receipt.end).whole (view c.args.self.end).got c.args.receipt.told
    (subst (λ (v : Log). Promised v.whole v.got) c.absorb.ensures.rule c.learn_as.ensures.rule.1)
