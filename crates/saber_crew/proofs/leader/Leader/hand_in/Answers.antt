use Rattle.std.proofs.Common.{subst}
use Rattle.saber_crew.specs.Leaders.{GoesOn, seen_at}
use Rattle.saber_crew.proofs.Leading.{goes_by}
use Rattle.saber_crew.proofs.leader.Leader.hand_in.Goals as goal

pub returns : goal.returns
returns g c =
    let e = c.finish_hand.ensures in let ring = c.self.inside.bench.now.ring.now in
    record { goes = subst (λ v. GoesOn v (seen_at ring c.finish_hand.new.seat)) c.self.view_is (goes_by ring c.self.inside.seat c.finish_hand.new.seat c.self.invariant.ready e.idle.0 e.goes) }
