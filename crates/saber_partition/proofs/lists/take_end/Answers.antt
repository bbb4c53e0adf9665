use Rattle.std.proofs.Common.{sym, subst}
use Rattle.saber_plan.specs.Trees.{tree_of}
use Rattle.saber_plan.proofs.Appended.{behind_itself}
use Rattle.saber_partition.specs.Lists.{Lists, TakenAll}
use Rattle.saber_partition.specs.Stores.{kept_lists}
use Rattle.saber_partition.proofs.Coming.{end_open, end_closed}
use Rattle.saber_partition.proofs.lists.take_end.Goals as goal

pub returns-then-not-ended-clause-came : goal.returns-then-not-ended-clause-came
returns-then-not-ended-clause-came g c xs taken = end_open (tree_of c.args.plan.now) xs c.args.ended (kept_lists c.args.store.now) c.args.out.now.items c.if-not-ended.true taken

pub returns-clause-came : goal.returns-clause-came
returns-clause-came g c xs taken =
    let q = tree_of c.args.plan.now in
    end_closed q xs c.args.ended (kept_lists c.take_all.new.store) c.args.out.now.items c.close_all.new.out.items
    c.if-not-ended.false
    c.in_ok-all.ensures.none
    (c.in_ok-close_all.ensures.printed xs (subst (λ (m : Lists). TakenAll q xs m) (sym c.in_ok-all.ensures.all) taken))

pub returns-then-not-ended-clause-behind : goal.returns-then-not-ended-clause-behind
returns-then-not-ended-clause-behind g c = behind_itself c.args.out.now.items

pub returns-in_err-close_all-clause-behind : goal.returns-in_err-close_all-clause-behind
returns-in_err-close_all-clause-behind g c = c.close_all.ensures.behind

pub returns-clause-behind : goal.returns-clause-behind
returns-clause-behind g c = c.close_all.ensures.behind
