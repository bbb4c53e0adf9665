use Rattle.std.proofs.Common.{sym, ◌∙◌}
use Rattle.saber_dispatch.proofs.Faults.{fault_told, all_not_fault}
use Rattle.saber_dispatch.proofs.cutter.Cutter.next_block.Goals as goal

pub returns-in-Some-clause-sound : goal.returns-in-Some-clause-sound
returns-in-Some-clause-sound g c b is side e = let n = c.stop_at.new.self in all_not_fault side (sym (c.stop_at.ensures.all b is) ∙ fault_told n.flush n.number n.ended side e)

pub returns-in-None-clause-sound : goal.returns-in-None-clause-sound
returns-in-None-clause-sound g c b is side e = let n = c.read_block.new.self in c.read_block.ensures.sound b is side (fault_told n.flush n.number n.ended side e)
