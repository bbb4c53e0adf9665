use Rattle.std.proofs.Common.{sym, subst}
use Rattle.std.specs.Prelude.{None}
use Rattle.saber_engine.specs.LastTasks.{ComesLast}
use Rattle.saber_engine.proofs.LastTakes.{comes_last, none_stopped, none_lacking}
use Rattle.saber_engine.proofs.last_task.last_block.Goals as goal

pub returns-in-AllGiven : goal.returns-in-AllGiven
returns-in-AllGiven c =
    let e = c.end_block.ensures in
    subst (λ v. ComesLast c.args.cutter.now v c.end_block.result) (sym c.in-AllGiven.is) (comes_last c.args.cutter.now c.end_block.result e.none e.due e.ends)

pub returns-in-Stopped : goal.returns-in-Stopped
returns-in-Stopped c = subst (λ v. ComesLast c.args.cutter.now v None) (sym c.in-Stopped.is) (none_stopped c.args.cutter.now)

pub returns-in-NoMemory : goal.returns-in-NoMemory
returns-in-NoMemory c = subst (λ v. ComesLast c.args.cutter.now v None) (sym c.in-NoMemory.is) (none_lacking c.args.cutter.now)
