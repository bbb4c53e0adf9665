use Rattle.std.proofs.Common.{◌≡◌, sym, subst, ◌∙◌, ap}
use Rattle.std.proofs.lemmas.Result.{on_ok_weaker}
use Rattle.saber_partial.specs.Piles.{piled_part, CanPile}
use Rattle.saber_partial.proofs.PileFacts.{piled-push, can_push}
use Rattle.saber_partial.proofs.piles.put_behind.Goals as goal

pub carry-requires : goal.carry-requires
carry-requires g c = subst CanPile (sym c.in_ok-push.ensures.items) (can_push c.args.parts.now.items c.args.part c.requires.can c.requires.room)

pub returns-clause-all : goal.returns-clause-all
returns-clause-all g c =
    let pushed = ap piled_part c.in_ok-push.ensures.items ∙ piled-push c.args.parts.now.items c.args.part in
    on_ok_weaker c.carry.result (λ (e : piled_part c.carry.new.parts.items ≡ piled_part c.push.new.self.items). e ∙ pushed) c.carry.ensures.same
