use Rattle.std.proofs.Common.{◌≡◌, sym, subst, ◌∙◌, ap}
use Rattle.saber_plan.specs.Trees.{tree_of}
use Rattle.saber_plan.specs.Parts.{part_answers, no_part}
use Rattle.saber_partial.specs.Piles.{piled_part, Pile}
use Rattle.saber_partial.proofs.PileFacts.{answers-none}
use Rattle.saber_partial.proofs.piles.Pile.answers.Goals as goal

pub returns-in_default-clause-ok : goal.returns-in_default-clause-ok
returns-in_default-clause-ok g c =
    let none = subst (λ l. piled_part l ≡ no_part) c.deref.ensures.value c.in_default.ensures in
    let q = tree_of c.args.plan.now in
    let answers = ap (part_answers q) (sym (ap (λ (p : Pile). p.part) c.self.view_is) ∙ sym c.in_ok-settle.ensures.same ∙ none) ∙ answers-none q in
    c.new.ensures ∙ sym answers
