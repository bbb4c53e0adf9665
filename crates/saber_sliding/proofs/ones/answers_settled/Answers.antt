use Rattle.std.proofs.Common.{◌≡◌, IfOk, sym, ◌∙◌, ap, subst}
use Rattle.saber_plan.specs.Parts.{part_answers, Part}
use Rattle.saber_plan.specs.Trees.{tree_of}
use Rattle.saber_partial.specs.Piles.{piled_part}
use Rattle.saber_sliding.specs.Entries.{queue_entries}
use Rattle.saber_sliding.proofs.Settled.{back_seen, both_can, front_seen, no_answers}
use Rattle.saber_sliding.proofs.ones.answers_settled.Goals as goal

pub answers_with-requires-clause-can : goal.answers_with-requires-clause-can
answers_with-requires-clause-can g c =
    let s = c.settle.new in
    both_can s.front s.back (piled_part s.all) c.in-Some.first c.in-Some-merged.last c.settle.ensures.sound c.in-Some.ensures.is.0 c.in-Some.ensures.is.1 c.in-Some-merged.ensures.0

pub returns-in-None-merged-clause-ok : goal.returns-in-None-merged-clause-ok
returns-in-None-merged-clause-ok g c =
    let s = c.settle.new in
    let old = queue_entries c.args.front.now c.args.back.now (piled_part c.args.all.now) in
    let all = front_seen s.front s.back old (piled_part s.all) c.in-Some.first c.in-Some.ensures.is.0 c.in-Some.ensures.is.1 c.in-None-merged.ensures c.settle.ensures.entries in
    subst (λ (m : Part). IfOk c.answers.result (λ a. a ≡ part_answers (tree_of c.args.plan.now) m)) all c.answers.ensures

pub returns-in-Some-merged-2-clause-ok : goal.returns-in-Some-merged-2-clause-ok
returns-in-Some-merged-2-clause-ok g c =
    let s = c.settle.new in
    let old = queue_entries c.args.front.now c.args.back.now (piled_part c.args.all.now) in
    let all = back_seen s.front s.back old (piled_part s.all) c.in-Some-merged-2.last c.settle.ensures.sound c.in-None.ensures.is c.in-Some-merged-2.ensures.0 c.settle.ensures.entries in
    subst (λ (m : Part). IfOk c.answers-in-Some-merged-2.result (λ a. a ≡ part_answers (tree_of c.args.plan.now) m)) all c.answers-in-Some-merged-2.ensures

pub returns-in-None-merged-2-clause-ok : goal.returns-in-None-merged-2-clause-ok
returns-in-None-merged-2-clause-ok g c =
    let s = c.settle.new in
    let q = tree_of c.args.plan.now in
    let old = queue_entries c.args.front.now c.args.back.now (piled_part c.args.all.now) in
    let all = back_seen s.front s.back old (piled_part s.all) _ c.settle.ensures.sound c.in-None.ensures.is c.in-None-merged-2.ensures c.settle.ensures.entries in
    c.new.ensures ∙ sym (no_answers q) ∙ ap (part_answers q) all
