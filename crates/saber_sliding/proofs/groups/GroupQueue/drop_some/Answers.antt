use Rattle.std.proofs.Common.{◌≡◌, ◌<◌, ℕ, zero, suc, false, ◌==◌, drop, length, sym, subst, ◌∙◌, ap, arith}
use Rattle.std.proofs.lemmas.Bool.{eqb-true, false≢true}
use Rattle.saber_sliding.specs.Entries.{dropped_entries, queue_entries, suffixes, Chained, IsSound, Queue}
use Rattle.saber_sliding.proofs.Entered.{nothing, still_sound, chained_left, seen_late, seen_some, seen_none}
use Rattle.saber_sliding.proofs.groups.GroupQueue.drop_some.Goals as goal

pub invariant_of-self : goal.invariant_of-self
invariant_of-self c =
    let s = c.self.inside in
    subst (λ l. IsSound s.late l s.back.items s.back_part.part) (sym c.drop_front.ensures) (still_sound s.late c.args.i s.front.items s.back.items s.back_part.part c.self.invariant)

some : (n : ℕ) → false ≡ (n == 0) → 0 < n
some zero e = absurd (false≢true e)
some (suc n) e = omega arith

pub returns-then-not-is_empty-clause-entries : goal.returns-then-not-is_empty-clause-entries
returns-then-not-is_empty-clause-entries c =
    let s = c.self.inside in
    let left = some c.drop_front.new.front.len c.if-not-is_empty.ensures in
    let long = c.drop_front.new.front.ok.0 in
    let same = ap length c.drop_front.ensures in
    ap (λ l. queue_entries l s.back.items s.back_part.part) c.drop_front.ensures ∙ seen_some c.args.i s.front.items s.back.items s.back_part.part (omega (arith, left, long, same)) ∙ ap (dropped_entries c.args.i) (ap (λ (q : Queue). q.entries) c.self.view_is)

pub returns-then-gone-eq0-clause-entries : goal.returns-then-gone-eq0-clause-entries
returns-then-gone-eq0-clause-entries c =
    let s = c.self.inside in
    let long = c.drop_front.new.front.ok.0 in
    let none : c.drop_front.new.front.len ≡ 0 = eqb-true c.drop_front.new.front.len 0 (sym c.if-not-is_empty.ensures) in
    let front = nothing c.drop_front.new.front.items (omega (arith, long, none)) in
    let same = ap (λ n. drop n s.back.items) (sym c.if-gone-eq0.true) ∙ subst (λ l. drop c.count_gone-gone.result l ≡ dropped_entries c.args.i l) c.deref.ensures.value c.count_gone-gone.ensures.gone in
    ap (λ l. queue_entries l s.back.items s.back_part.part) front ∙ ap suffixes same ∙ seen_none c.args.i s.front.items s.back.items s.back_part.part (sym c.drop_front.ensures ∙ front) ∙ ap (dropped_entries c.args.i) (ap (λ (q : Queue). q.entries) c.self.view_is)

pub invariant_of-self-2 : goal.invariant_of-self-2
invariant_of-self-2 c =
    let s = c.self.inside in
    let long = c.drop_front.new.front.ok.0 in
    let none : c.drop_front.new.front.len ≡ 0 = eqb-true c.drop_front.new.front.len 0 (sym c.if-not-is_empty.ensures) in (
      nothing c.drop_front.new.front.items (omega (arith, long, none)),
      subst Chained (sym c.drop_first.ensures) (chained_left s.late s.front.items s.back.items s.back_part.part c.count_gone-gone.result c.self.invariant),
    )

pub returns-clause-entries : goal.returns-clause-entries
returns-clause-entries c =
    let s = c.self.inside in
    let long = c.drop_front.new.front.ok.0 in
    let none : c.drop_front.new.front.len ≡ 0 = eqb-true c.drop_front.new.front.len 0 (sym c.if-not-is_empty.ensures) in
    let front = nothing c.drop_front.new.front.items (omega (arith, long, none)) in
    let same = subst (λ l. drop c.count_gone-gone.result l ≡ dropped_entries c.args.i l) c.deref.ensures.value c.count_gone-gone.ensures.gone in
    seen_late c.drop_front.new.front.items c.drop_first.new.back.items c.clear.new.self.part front ∙ ap suffixes (c.drop_first.ensures ∙ same)
    ∙ seen_none c.args.i s.front.items s.back.items s.back_part.part (sym c.drop_front.ensures ∙ front) ∙ ap (dropped_entries c.args.i) (ap (λ (q : Queue). q.entries) c.self.view_is)
