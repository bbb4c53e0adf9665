use Rattle.std.proofs.Common.{length, arith, ap}
use Rattle.saber_check.proofs.PlanLemmas.{names_span}
use Rattle.saber_check.proofs.expressions.place_in.Goals as goal

pub place_in_more-requires : goal.place_in_more-requires
place_in_more-requires c = omega (arith, ap length c.as_slice.ensures, names_span c.args.decl.now.more)

pub overflow_add-result : goal.overflow_add-result
overflow_add-result c = omega (arith, ap length c.as_slice.ensures, names_span c.args.decl.now.more, c.place_in_more.ensures.small)
