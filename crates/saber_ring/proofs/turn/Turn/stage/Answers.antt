use Rattle.std.proofs.Common.{◌^◌, refl, ◌≤◌}
use Rattle.std.proofs.Props.{props}
use Rattle.saber_ring.proofs.turn.Turn.stage.Goals as goal

pub returns : goal.returns
returns g c =
    let prop : IsProp (c.args.self.now.behind ≤ 2 ^ 42) = hlevel props in
    ((refl, λ w i. record { behind = c.args.self.now.behind; stage = w; state = c.args.self.now.state; small = prop (c.self-1.given w).0 c.args.self.now.small i }), record { writes_back = tt; value = refl })
