use Rattle.std.proofs.Common.{refl}
use Rattle.saber_changes.proofs.Walking.{passed}
use Rattle.saber_plan.proofs.Appended.{behind_both}
use Rattle.saber_changes.proofs.walk.Walk.pass.Goals as goal

pub returns-clause-ok : goal.returns-clause-ok
returns-clause-ok c at stands none is =
    passed c.args.change at c.args.self.now c.reach.new.self _ c.args.window c.args.out.now.items c.reach.new.out.items c.write_change.new.out.items c.requires.low c.in_ok-reach.ensures.next refl is
    (c.in_ok-reach.ensures.ok at stands none) c.in_ok-write_change.ensures.ok

pub returns-in_err-reach-clause-behind : goal.returns-in_err-reach-clause-behind
returns-in_err-reach-clause-behind c = c.reach.ensures.behind

pub returns-in_err-write_change-clause-behind : goal.returns-in_err-write_change-clause-behind
returns-in_err-write_change-clause-behind c = behind_both c.args.out.now.items c.reach.new.out.items c.write_change.new.out.items c.reach.ensures.behind c.write_change.ensures.behind

pub returns-clause-behind : goal.returns-clause-behind
returns-clause-behind c = behind_both c.args.out.now.items c.reach.new.out.items c.write_change.new.out.items c.reach.ensures.behind c.write_change.ensures.behind
