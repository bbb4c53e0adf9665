use Rattle.std.proofs.Common.{◌≡◌, ◌++◌, ap, sym, ◌∙◌, subst}
use Rattle.saber_pipe.specs.declared.rule.Log.{Log}
use Rattle.saber_pipe.specs.Order.{mark_of}
use Rattle.saber_pipe.specs.PipeFeeds.{got}
use Rattle.saber_pipe.proofs.Marks.{front_unmarked}
use Rattle.saber_pipe.proofs.Relays.{merges}
use Rattle.saber_pipe.proofs.feed.PipeFeed.dismiss.Goals as goal

pub absorb-requires-clause-rule : goal.absorb-requires-clause-rule
absorb-requires-clause-rule g c = merges _ _ _ _ c.args.self.now.may

pub returns-clause-sent : goal.returns-clause-sent
returns-clause-sent g c = let learned = c.learn_as.ensures.rule in
    let order = subst (λ (v : Log). v.sent ≡ v.got ++ learned.0) c.absorb.ensures.rule learned.1 in
    absurd (c.requires.over (front_unmarked (got c.args.self.now) learned.0 (ap mark_of (sym order) ∙ c.in-Kept.outbox.unended)))
