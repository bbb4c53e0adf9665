use Rattle.std.proofs.Common.{arith}
use Rattle.saber_partial.proofs.Sourced.{source_at, sources_long}
use Rattle.saber_partial.proofs.first_row.write_values.Goals as goal

pub bounds-sources-k : goal.bounds-sources-k
bounds-sources-k c =
    let many = sources_long c.args.aggregates.now c.args.sources.now c.requires.sources in
    let test = c.loop-k-test.true in
    let long = c.requires.long in
    omega (arith, many, test, long)

pub value-requires-clause-source : goal.value-requires-clause-source
value-requires-clause-source c =
    let test = c.loop-k-test.true in
    let long = c.requires.long in
    source_at c.args.aggregates.now c.args.sources.now c.loop-k.k _ _ c.requires.sources (omega (arith, test, long))
