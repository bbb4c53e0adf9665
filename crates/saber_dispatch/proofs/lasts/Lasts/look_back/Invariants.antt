use Rattle.std.proofs.Common.{◌≡◌, ◌-◌, drop}
use Rattle.saber_dispatch.proofs.lasts.Lasts.look_back.Given as goal

abbrev pub invariant-loop : goal.invariant-loop
invariant-loop l = record {
  list : l.self.list.items ≡ drop (l.counter - l.fn.self.first) l.fn.self.list.items;
  first : l.self.first ≡ l.fn.self.first;
  windows : l.self.windows ≡ l.fn.self.windows;
}
