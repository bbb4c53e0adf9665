use Rattle.std.proofs.Common.{◌≡◌, ℕ}
use Rattle.saber_engine.proofs.FedDry.{CameSo}
use Rattle.std.specs.Prelude.{None}
use Rattle.saber_assembly.specs.declared.work.RunData.{RunData}
use Rattle.saber_engine.specs.FedSupplying.{feed_seen, HasFed}
use Rattle.saber_engine.proofs.fed_blocks.FedBlocksSupplySaberWork.next.Given as goal

abbrev pub invariant-loop : goal.invariant-loop
invariant-loop g l =
    let f = g.F.Feed in
    (l.self.end ≡ None)
    × ((told : RunData g.row.O.Denot) (d : ℕ) → HasFed g.O.Operator.plan g.J.BeginsFed.sizes g.J.BeginsFed.faults (feed_seen f.taken f.waiting f.mark f.faults l.fn.from) l.fn.self.cutter l.fn.self.keeper l.fn.self.end told d
    → HasFed g.O.Operator.plan g.J.BeginsFed.sizes g.J.BeginsFed.faults (feed_seen f.taken f.waiting f.mark f.faults l.from) l.self.cutter l.self.keeper l.self.end told d)
    × CameSo l.counter (f.taken l.fn.from) (f.taken l.from) (f.waiting l.from) (f.mark l.fn.from) (f.mark l.from)
