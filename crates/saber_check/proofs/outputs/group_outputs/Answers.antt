use Rattle.std.proofs.Common.{◌+◌, length, ap, arith}
use Rattle.saber_query.specs.Trees.{query_of}
use Rattle.saber_check.proofs.OutputLaws.{few_others, walked_first, walked_next, walked_all}
use Rattle.saber_check.proofs.outputs.group_outputs.Goals as goal

pub loop-next-init : goal.loop-next-init
loop-next-init c = walked_first (query_of c.args.query.now) _ (length c.args.keys.now + 1) _ _ _ _ c.as_slice-others.ensures c.new.ensures.items c.new-2.ensures.items c.in_ok-put_item.ensures.aggregates c.in_ok-put_item.ensures.items

pub put_item-requires-in-loop-next-clause-room : goal.put_item-requires-in-loop-next-clause-room
put_item-requires-in-loop-next-clause-room c = omega (arith, c.loop-next.invariant.few, c.loop-next-test.true, ap length c.as_slice-others.ensures, few_others (query_of c.args.query.now) c.requires.small)

pub loop-next-preserved : goal.loop-next-preserved
loop-next-preserved c = walked_next (query_of c.args.query.now) _ _ (length c.args.keys.now + 1) c.next-item.result _ _ _ _ c.loop-next-test.true c.next-item.is c.loop-next.invariant c.in_ok-put_item-2.ensures.aggregates c.in_ok-put_item-2.ensures.items

pub returns-clause-aggregates : goal.returns-clause-aggregates
returns-clause-aggregates c = (walked_all (query_of c.args.query.now) _ _ (length c.args.keys.now + 1) _ _ c.loop-next-test.false c.loop-next.invariant).0

pub returns-clause-items : goal.returns-clause-items
returns-clause-items c = (walked_all (query_of c.args.query.now) _ _ (length c.args.keys.now + 1) _ _ c.loop-next-test.false c.loop-next.invariant).1
