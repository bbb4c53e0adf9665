-- The first task that needs too many tasks' rows.
use Rattle.std.proofs.Common.{◌-◌, [], nat_lt, ap, arith}
use Rattle.std.proofs.lemmas.Bool.{le-ltb}
use Rattle.saber_plan.specs.Tasks.{task_count}
use Rattle.saber_plan.specs.Needs.{need, first_number}
use Rattle.saber_laws.specs.Needs.{NoneIsWide}
use Rattle.saber_laws.proofs.NumberedLaws.{filter_none}

pub none_is_wide : NoneIsWide
none_is_wide q n r most few = ap first_number (filter_none (λ k. nat_lt most (need q n r k)) 0 (task_count n r) (λ k a b. le-ltb most (need q n r k) (few k (omega (arith, b)))))
