use Rattle.std.proofs.Common.{◌≡◌, ◌++◌, sym, subst, ◌∙◌, ap, append-nil}
use Rattle.saber_plan.specs.Trees.{tree_of}
use Rattle.saber_plan.specs.Parts.{part_lines, no_part}
use Rattle.saber_partial.specs.Piles.{piled_part, Pile}
use Rattle.saber_partial.proofs.PileFacts.{lines-none}
use Rattle.saber_partial.proofs.piles.Pile.lines.Goals as goal

pub returns-in_default-clause-ok : goal.returns-in_default-clause-ok
returns-in_default-clause-ok g c =
    let none = subst (λ l. piled_part l ≡ no_part) c.deref.ensures.value c.in_default.ensures in
    let lines = ap (part_lines (tree_of c.args.plan.now) c.args.window) (sym (ap (λ (p : Pile). p.part) c.self.view_is) ∙ sym c.in_ok-settle.ensures.same ∙ none) ∙ lines-none (tree_of c.args.plan.now) c.args.window in
    sym (ap (λ l. c.args.out.now.items ++ l) lines ∙ append-nil c.args.out.now.items)
