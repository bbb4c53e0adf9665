use Rattle.std.proofs.Common.{◌≡◌, ◌++◌, OnOk, sym, ◌∙◌, ap, append-nil, subst}
use Rattle.saber_plan.specs.Parts.{part_lines, Part}
use Rattle.saber_plan.specs.Trees.{tree_of}
use Rattle.saber_partial.specs.Piles.{piled_part}
use Rattle.saber_sliding.specs.Entries.{queue_entries}
use Rattle.saber_sliding.proofs.Settled.{back_seen, both_can, front_seen, no_lines}
use Rattle.saber_sliding.proofs.ones.lines_settled.Goals as goal

pub lines_with-requires-clause-can : goal.lines_with-requires-clause-can
lines_with-requires-clause-can g c =
    let s = c.settle.new in
    both_can s.front s.back (piled_part s.all) c.in-Some.first c.in-Some-merged.last c.settle.ensures.sound c.in-Some.ensures.is.0 c.in-Some.ensures.is.1 c.in-Some-merged.ensures.0

pub returns-in-None-merged-clause-ok : goal.returns-in-None-merged-clause-ok
returns-in-None-merged-clause-ok g c =
    let s = c.settle.new in
    let old = queue_entries c.args.front.now c.args.back.now (piled_part c.args.all.now) in
    let all = front_seen s.front s.back old (piled_part s.all) c.in-Some.first c.in-Some.ensures.is.0 c.in-Some.ensures.is.1 c.in-None-merged.ensures c.settle.ensures.entries in
    subst (λ (m : Part). OnOk c.lines.result (c.lines.new.out.items ≡ c.args.out.now.items ++ part_lines (tree_of c.args.plan.now) c.args.window m)) all c.lines.ensures.ok

pub returns-in-Some-merged-2-clause-ok : goal.returns-in-Some-merged-2-clause-ok
returns-in-Some-merged-2-clause-ok g c =
    let s = c.settle.new in
    let old = queue_entries c.args.front.now c.args.back.now (piled_part c.args.all.now) in
    let all = back_seen s.front s.back old (piled_part s.all) c.in-Some-merged-2.last c.settle.ensures.sound c.in-None.ensures.is c.in-Some-merged-2.ensures.0 c.settle.ensures.entries in
    subst (λ (m : Part). OnOk c.lines-in-Some-merged-2.result (c.lines-in-Some-merged-2.new.out.items ≡ c.args.out.now.items ++ part_lines (tree_of c.args.plan.now) c.args.window m)) all c.lines-in-Some-merged-2.ensures.ok

pub returns-in-None-merged-2-clause-ok : goal.returns-in-None-merged-2-clause-ok
returns-in-None-merged-2-clause-ok g c =
    let s = c.settle.new in
    let q = tree_of c.args.plan.now in
    let w = c.args.window in
    let out = c.args.out.now.items in
    let old = queue_entries c.args.front.now c.args.back.now (piled_part c.args.all.now) in
    let all = back_seen s.front s.back old (piled_part s.all) _ c.settle.ensures.sound c.in-None.ensures.is c.in-None-merged-2.ensures c.settle.ensures.entries in
    sym (append-nil out) ∙ ap (λ l. out ++ l) (sym (no_lines q w) ∙ ap (part_lines q w) all)
