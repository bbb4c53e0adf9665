use Rattle.std.proofs.Common.{subst, sym, arith}
use Rattle.saber_sliding.proofs.Entered.{Turned, turned_can, turned_more}
use Rattle.saber_sliding.proofs.groups.sum_up.Goals as goal

pub merge_behind-requires : goal.merge_behind-requires
merge_behind-requires g c =
    turned_can c.args.back.now.items c.loop-alloc.back.items c.loop-alloc.front.items c.pop.new.self.items c.in-Some.number c.in-Some.part c.requires.chained c.loop-alloc.invariant.turned c.in-Some.ensures.items

pub loop-alloc-preserved : goal.loop-alloc-preserved
loop-alloc-preserved g c =
    let more = c.loop-alloc-test.true in
    let long = c.loop-alloc.back.ok.0 in
    let now = c.in-Some.ensures.len in
    let left = c.pop.new.self.ok.0 in
    let step = c.in_ok-merge_behind.ensures.steps in
    let used = c.loop-alloc.invariant.steps in
    record {
      turned = subst (Turned c.args.back.now.items c.pop.new.self.items) (sym c.in_ok-push_front.ensures.items)
          (turned_more c.args.back.now.items c.loop-alloc.back.items c.loop-alloc.front.items c.pop.new.self.items c.in-Some.number c.in-Some.part c.merge_behind.new.part c.loop-alloc.invariant.turned c.in-Some.ensures.items c.in_ok-merge_behind.ensures.part);
      low = omega (arith, more, long, now, left);
      steps = omega (arith, more, long, now, left, step, used);
    }
