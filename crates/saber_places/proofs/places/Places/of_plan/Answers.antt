use Rattle.std.proofs.Common.{◌≤◌, length, subst, rules}
use Rattle.saber_plan.specs.Trees.{tree_of}
use Rattle.saber_places.proofs.Counted.{counts_nothing}
use Rattle.saber_places.proofs.places.Places.of_plan.Goals as goal

pub returns : goal.returns
returns c =
    let q = tree_of c.args.plan.now in
    let ks = c.partition-partition.result.now in
    let some : 1 ≤ length ks = search rules in
    counts_nothing q (record { columns = c.extend_from_slice.new.self; known = c.new.result; counts = c.new-2.result }) c.partition-partition.ensures.checked (search rules) (search rules) (search rules) (subst (λ l. 1 ≤ length l) c.partition-partition.ensures.is some)
