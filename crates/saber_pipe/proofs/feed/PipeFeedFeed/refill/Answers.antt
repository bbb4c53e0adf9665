use Rattle.std.proofs.Common.{rules, ◌∷◌, [], inl, refl, ap, sym, ◌∙◌}
use Rattle.saber_pipe.specs.declared.items.Item.{Item}
use Rattle.saber_pipe.specs.declared.rule.Log.{Log}
use Rattle.crossbeam_queue.specs.Passes.{view}
use Rattle.saber_pipe.specs.Order.{mark_of}
use Rattle.saber_pipe.proofs.Relays.{gets, knows}
use Rattle.saber_pipe.proofs.Marks.{mark_after}
use Rattle.saber_pipe.proofs.Moves.{some_left}
use Rattle.saber_pipe.proofs.feed.PipeFeedFeed.refill.Goals as goal

pub pop_as-requires-clause-rule : goal.pop_as-requires-clause-rule
pop_as-requires-clause-rule g c = (gets _ _ c.args.self.now.may, knows _ _ c.args.self.now.may)

pub invariant_of-self-in-Piece-clause-may : goal.invariant_of-self-in-Piece-clause-may
invariant_of-self-in-Piece-clause-may g c = ap (λ (u : Log). u.gets) c.in-Some.ensures.rule.0 ∙ c.args.self.now.may

pub invariant_of-self-in-Piece-clause-marked : goal.invariant_of-self-in-Piece-clause-marked
invariant_of-self-in-Piece-clause-marked g c = c.args.self.now.marked ∙ c.in-Some.ensures.rule.1
    ∙ sym (ap (λ (u : Log). mark_of u.got) c.in-Some.ensures.rule.0 ∙ mark_after (view c.args.self.now.end).got c.in-Some.item c.in-Some.ensures.rule.1 ∙ ap (λ (x : Item). mark_of (x ∷ [])) c.in-Piece.is)

pub invariant_of-self-in-Last-clause-may : goal.invariant_of-self-in-Last-clause-may
invariant_of-self-in-Last-clause-may g c = ap (λ (u : Log). u.gets) c.in-Some.ensures.rule.0 ∙ c.args.self.now.may

pub invariant_of-self-in-Last-clause-marked : goal.invariant_of-self-in-Last-clause-marked
invariant_of-self-in-Last-clause-marked g c =
    sym (ap (λ (u : Log). mark_of u.got) c.in-Some.ensures.rule.0 ∙ mark_after (view c.args.self.now.end).got c.in-Some.item c.in-Some.ensures.rule.1 ∙ ap (λ (x : Item). mark_of (x ∷ [])) c.in-Last.is)

pub returns-then-self-len-clause-takes : goal.returns-then-self-len-clause-takes
returns-then-self-len-clause-takes g c = inl ((refl, refl), some_left c.args.self.now.at c.args.self.now.piece.items (search rules))
