use Rattle.std.proofs.Common.{◌≤◌, drop, length, sym, subst, ◌∙◌, ap, arith}
use Rattle.saber_partial.specs.Piles.{piled_part}
use Rattle.saber_sliding.specs.Entries.{dropped_entries, queue_entries, suffixes, Chained, IsSound, Queue}
use Rattle.saber_sliding.specs.EntryFacts.{nothing_first}
use Rattle.saber_sliding.proofs.Entered.{still_sound, chained_left, seen_late, seen_some, seen_none}
use Rattle.saber_sliding.proofs.Stacked.{first_there}
use Rattle.saber_sliding.proofs.ones.OneQueue.drop_some.Goals as goal

pub invariant_of-self : goal.invariant_of-self
invariant_of-self c =
    let s = c.self.inside in
    (subst (λ l. IsSound s.late l s.back (piled_part s.all)) (sym c.drop_front.ensures) (still_sound s.late c.args.i s.front s.back (piled_part s.all) c.self.invariant.0), c.self.invariant.1)

pub returns-in-Some-clause-entries : goal.returns-in-Some-clause-entries
returns-in-Some-clause-entries c =
    let s = c.self.inside in
    let some : 1 ≤ length (dropped_entries c.args.i s.front) = subst (λ l. 1 ≤ length l) c.drop_front.ensures (first_there c.drop_front.new.front _ c.in-Some.ensures) in
    ap (λ l. queue_entries l s.back (piled_part s.all)) c.drop_front.ensures ∙ seen_some c.args.i s.front s.back (piled_part s.all) (omega (arith, some)) ∙ ap (dropped_entries c.args.i) (ap (λ (q : Queue). q.entries) c.self.view_is)

pub returns-then-gone-eq0-clause-entries : goal.returns-then-gone-eq0-clause-entries
returns-then-gone-eq0-clause-entries c =
    let s = c.self.inside in
    let front = nothing_first c.drop_front.new.front (sym c.in-None.ensures) in
    let same = ap (λ n. drop n s.back) (sym c.if-gone-eq0.true) ∙ c.count_gone-gone.ensures.gone in
    ap (λ l. queue_entries l s.back (piled_part s.all)) front ∙ ap suffixes same ∙ seen_none c.args.i s.front s.back (piled_part s.all) (sym c.drop_front.ensures ∙ front) ∙ ap (dropped_entries c.args.i) (ap (λ (q : Queue). q.entries) c.self.view_is)

pub invariant_of-self-2 : goal.invariant_of-self-2
invariant_of-self-2 c =
    let s = c.self.inside in
    let none = ap length c.clear.ensures in (
      (nothing_first c.drop_front.new.front (sym c.in-None.ensures), subst Chained (sym c.drop_front-2.ensures) (chained_left s.late s.front s.back (piled_part s.all) c.count_gone-gone.result c.self.invariant.0)),
      omega (arith, none),
    )

pub returns-clause-entries : goal.returns-clause-entries
returns-clause-entries c =
    let s = c.self.inside in
    let front = nothing_first c.drop_front.new.front (sym c.in-None.ensures) in
    seen_late c.drop_front.new.front c.drop_front-2.new.self (piled_part c.clear.new.self) front ∙ ap suffixes (c.drop_front-2.ensures ∙ c.count_gone-gone.ensures.gone)
    ∙ seen_none c.args.i s.front s.back (piled_part s.all) (sym c.drop_front.ensures ∙ front) ∙ ap (dropped_entries c.args.i) (ap (λ (q : Queue). q.entries) c.self.view_is)
