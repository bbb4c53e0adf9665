use Rattle.std.proofs.Common.{length, ap, arith}
use Rattle.saber_plan.specs.Parts.{Part}
use Rattle.saber_partial.specs.Piles.{piled_part}
use Rattle.saber_sliding.specs.Entries.{suffixes}
use Rattle.saber_sliding.proofs.Entered.{seen_turned_all, sound_turned_all}
use Rattle.saber_sliding.proofs.ones.OneQueue.of_entries.Goals as goal

pub invariant_of-result : goal.invariant_of-result
invariant_of-result g c =
    let n = c.take_over.new in
    let none = ap (length {A = Part}) c.empty.ensures in
    (sound_turned_all n.self n.back (piled_part c.empty.result) c.take_over.ensures.back (ap piled_part c.empty.ensures), omega (arith, none))

pub returns-clause-entries : goal.returns-clause-entries
returns-clause-entries g c =
    let n = c.take_over.new in
    seen_turned_all n.self n.back (suffixes c.args.entries) (piled_part c.empty.result) c.take_over.ensures.front c.take_over.ensures.back (ap piled_part c.empty.ensures)
