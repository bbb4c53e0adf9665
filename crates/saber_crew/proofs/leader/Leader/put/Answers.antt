use Rattle.std.proofs.Common.{refl, sym, ap, ◌∙◌, subst}
use Rattle.std.specs.Prelude.{Some}
use Rattle.saber_ring.specs.Plays.{more_filled}
use Rattle.saber_crew.specs.Leaders.{CanFill}
use Rattle.saber_crew.proofs.Filling.{can_fill_on}
use Rattle.saber_crew.proofs.Leading.{then_fills, goes_fills, fills_none}
use Rattle.saber_crew.proofs.leader.Leader.put.Goals as goal

pub loop-init : goal.loop-init
loop-init g c = (fills_none c.args.self.now, refl, refl)

pub returns-in-None-offer-clause-put : goal.returns-in-None-offer-clause-put
returns-in-None-offer-clause-put g c = let f = c.offer.ensures.put c.in-None-offer.is in let i = c.loop.invariant in
    (f.0, sym i.1 ∙ f.1, f.2 ∙ ap (λ r. Some (more_filled f.0 (g.W.Work.filled f.0.told r))) i.2)

pub offer-requires : goal.offer-requires
offer-requires g c =
    let i = c.loop.invariant in let w = g.W.Work in
    subst (λ r. CanFill w.is_told w.filled w.upto w.first w.is_rows c.args.t r c.args.frees.now c.loop.self.seat) (sym i.2)
    (can_fill_on w.is_told w.filled w.upto w.first w.is_rows c.args.t c.args.rows c.args.frees.now c.args.self.now.seat c.loop.self.seat i.0.seen i.1 c.requires)

pub returns-in-None-offer-clause-fills : goal.returns-in-None-offer-clause-fills
returns-in-None-offer-clause-fills g c = then_fills c.args.self.now c.loop.self c.offer.new.self c.loop.invariant.0 c.offer.ensures.fills

pub returns-then-not-turn_or_wait-clause-fills : goal.returns-then-not-turn_or_wait-clause-fills
returns-then-not-turn_or_wait-clause-fills g c =
    let v = c.args.self.now in let o = c.offer.new.self in let n = c.turn_or_wait.new.self in
    then_fills v o n (then_fills v c.loop.self o c.loop.invariant.0 c.offer.ensures.fills) (goes_fills o n c.turn_or_wait.ensures.goes)
