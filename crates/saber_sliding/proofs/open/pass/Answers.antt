use Rattle.std.proofs.Common.{◌≡◌, ◌+◌, sym, ◌∙◌, subst, arith}
use Rattle.saber_plan.specs.Trees.{tree_of}
use Rattle.saber_changes.specs.Walks.{Stands}
use Rattle.saber_changes.specs.declared.output.Output.{Output}
use Rattle.saber_changes.specs.declared.output.Output.TheVariants.{Delta}
use Rattle.saber_sliding.specs.Entries.{whole}
use Rattle.saber_changes.specs.Outputs.{IsBefore, Passed, StandsIn}
use Rattle.saber_changes.specs.OutputFacts.{passed_lines, passed_walk}
use Rattle.saber_sliding.proofs.open.pass.Goals as goal

pub returns-in_ok-lines-in-Each-clause-passed : goal.returns-in_ok-lines-in-Each-clause-passed
returns-in_ok-lines-in-Each-clause-passed g c = λ at is stands.
    subst (λ (o : Output). Passed at o o c.args.window (c.args.window + 1) c.args.out.now.items c.lines.new.out.items) (sym c.in-Each.is)
    (passed_lines at (tree_of c.args.plan.now) c.args.window (whole c.args.slices.now.entries) c.args.out.now.items c.lines.new.out.items c.in_ok-lines-in-Each.ensures.ok is)

pub returns-in_ok-pass-in-Delta-clause-passed : goal.returns-in_ok-pass-in-Delta-clause-passed
returns-in_ok-pass-in-Delta-clause-passed g c = λ at is stands.
    let n = c.args.window in
    let old = c.in-Delta.walk in
    let new = c.pass.new.self in
    let here : old.next ≡ n = subst (λ (o : Output). IsBefore o n) c.in-Delta.is c.requires.before in
    let last : Stands at old = subst (λ (o : Output). StandsIn at o) c.in-Delta.is stands in
    subst (λ (o : Output). Passed at o (Delta c.in-Delta.change new) n (n + 1) c.args.out.now.items c.pass.new.out.items) (sym c.in-Delta.is)
    (passed_walk at c.in-Delta.change old new n (n + 1) c.args.out.now.items c.pass.new.out.items here
    (c.in_ok-pass-in-Delta.ensures.ok at last (λ i l h. absurd (omega (arith, here, l, h))) (is ∙ sym c.in_ok-answers-in-Delta.ensures.ok)))
