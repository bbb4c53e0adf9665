use Rattle.std.proofs.Common.{length, sym, ap, arith}
use Rattle.saber_query.specs.Trees.{query_of}
use Rattle.saber_check.proofs.OutputLaws.{few_keys, key_inside}
use Rattle.saber_check.proofs.outputs.item_output.Goals as goal

pub overflow_cast-result : goal.overflow_cast-result
overflow_cast-result c = omega (arith, ap length c.requires.keys, few_keys (query_of c.args.query.now) c.requires.small)

pub overflow_cast-result-in-Some : goal.overflow_cast-result-in-Some
overflow_cast-result-in-Some c = omega (arith, few_keys (query_of c.args.query.now) c.requires.small, key_inside (query_of c.args.query.now) c.in-Value.inner.first.first c.in-Some.place (sym c.in-Some.ensures))
