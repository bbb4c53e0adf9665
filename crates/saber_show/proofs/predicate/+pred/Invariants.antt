use Rattle.saber_show.proofs.SpellLemmas.{Still, units, conjs}
use Rattle.saber_show.proofs.predicate.+pred.Given as goal

abbrev pub invariant-conj-loop-next : goal.invariant-conj-loop-next
invariant-conj-loop-next l = Still units l.next-items l.next-index l.initial.out.items l.out.items

abbrev pub invariant-pred-loop-next : goal.invariant-pred-loop-next
invariant-pred-loop-next l = Still conjs l.next-items l.next-index l.initial.out.items l.out.items
