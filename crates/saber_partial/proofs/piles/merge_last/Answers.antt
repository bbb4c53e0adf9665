use Rattle.std.proofs.Common.{◌∷◌, [], length, length-append, sym, subst, ◌∙◌, ap, arith}
use Rattle.std.proofs.lemmas.Result.{on_ok_weaker}
use Rattle.saber_partial.specs.Piles.{piled_part, CanPile}
use Rattle.saber_partial.proofs.PileFacts.{piled-push, can_pop}
use Rattle.saber_partial.proofs.piles.merge_last.Goals as goal

pub merge_behind-requires-clause-some : goal.merge_behind-requires-clause-some
merge_behind-requires-clause-some g c =
    let two = c.requires.two in
    let all = ap length c.in-Some.ensures.items in
    let more = length-append c.pop.new.self.items (c.in-Some.last ∷ []) in
    omega (arith, two, all, more)

pub merge_behind-requires-clause-can : goal.merge_behind-requires-clause-can
merge_behind-requires-clause-can g c = (can_pop c.pop.new.self.items c.in-Some.last (subst CanPile c.in-Some.ensures.items c.requires.can)).0

pub merge_behind-requires-clause-room : goal.merge_behind-requires-clause-room
merge_behind-requires-clause-room g c = (can_pop c.pop.new.self.items c.in-Some.last (subst CanPile c.in-Some.ensures.items c.requires.can)).1

pub returns-clause-same : goal.returns-clause-same
returns-clause-same g c =
    let old = ap piled_part c.in-Some.ensures.items ∙ piled-push c.pop.new.self.items c.in-Some.last in
    on_ok_weaker c.merge_behind.result (λ e. e ∙ sym old) c.merge_behind.ensures.all

pub returns-clause-fewer : goal.returns-clause-fewer
returns-clause-fewer g c =
    let few = c.merge_behind.ensures.fewer in
    let all = ap length c.in-Some.ensures.items in
    let more = length-append c.pop.new.self.items (c.in-Some.last ∷ []) in
    omega (arith, few, all, more)
