use Rattle.std.proofs.Common.{refl, sym}
use Rattle.saber_partial.proofs.Makings.{ended_at, none_still}
use Rattle.saber_partial.proofs.one_gathering.OneGathering.end.Goals as goal

pub returns-then-not-self-clause-part : goal.returns-then-not-self-clause-part
returns-then-not-self-clause-part c = (sym (none_still c.self.inside.begun c.self.inside.parts c.args.self.now c.self.view_is c.if-not-self.true), refl)

pub returns-then-not-self-clause-last : goal.returns-then-not-self-clause-last
returns-then-not-self-clause-last c = sym (none_still c.self.inside.begun c.self.inside.parts c.args.self.now c.self.view_is c.if-not-self.true)

pub returns-clause-part : goal.returns-clause-part
returns-clause-part c =
    ended_at c.self.inside.begun c.self.inside.parts c.args.self.now c.len.result c.self.view_is c.if-not-self.false (c.self.invariant c.if-not-self.false) c.len.ensures
