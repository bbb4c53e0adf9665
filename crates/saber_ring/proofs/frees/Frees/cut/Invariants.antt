use Rattle.std.proofs.Common.{◌≡◌, ◌+◌, ◌-◌, ◌≤◌, drop}
use Rattle.saber_ring.proofs.frees.Frees.cut.Given as goal

abbrev pub invariant-loop-self : goal.invariant-loop-self
invariant-loop-self l =
    (l.fn.self.base ≤ l.self.base) × (l.self.base ≤ l.fn.self.base + (l.from - l.fn.self.base))
    × (l.self.list.items ≡ drop (l.self.base - l.fn.self.base) l.fn.self.list.items)

abbrev pub decreases-loop-self : goal.decreases-loop-self
decreases-loop-self l = l.from - l.self.base
