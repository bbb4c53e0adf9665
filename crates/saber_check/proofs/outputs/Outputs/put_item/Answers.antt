use Rattle.std.proofs.Common.{length, ap, arith}
use Rattle.saber_query.specs.Trees.{query_of}
use Rattle.saber_check.proofs.OutputLaws.{few_keys}
use Rattle.saber_check.proofs.outputs.Outputs.put_item.Goals as goal

pub overflow_cast-keys : goal.overflow_cast-keys
overflow_cast-keys c = omega (arith, ap length c.requires.keys, few_keys (query_of c.args.query.now) c.requires.small)

pub overflow_add-keys : goal.overflow_add-keys
overflow_add-keys c = omega (arith, ap length c.requires.keys, few_keys (query_of c.args.query.now) c.requires.small)

pub put-requires : goal.put-requires
put-requires c = omega (arith, ap length c.requires.keys, few_keys (query_of c.args.query.now) c.requires.small, c.requires.room)
