use Rattle.std.proofs.Common.{sym, ◌∙◌}
use Rattle.saber_partial.proofs.PileFacts.{last_alone}
use Rattle.saber_partial.proofs.piles.take_all.Goals as goal

pub returns-in-Some : goal.returns-in-Some
returns-in-Some g c = sym (last_alone c.settle.new.parts.items c.pop.new.self.items c.in-Some.part c.in-Some.ensures.items c.in_ok-settle.ensures.one) ∙ c.in_ok-settle.ensures.same
