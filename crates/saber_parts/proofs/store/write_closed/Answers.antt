use Rattle.std.proofs.Common.{◌++◌, [], append-nil, sym, ◌∙◌, ap, append_assoc}
use Rattle.saber_plan.specs.Parts.{part_lines}
use Rattle.saber_fragment.specs.Shown.{windows_by}
use Rattle.saber_plan.proofs.Appended.{behind_both}
use Rattle.saber_parts.specs.Stored.{lines_of}
use Rattle.saber_parts.proofs.Ranged.{range_below}
use Rattle.saber_parts.proofs.store.write_closed.Goals as goal

pub loop-window-init : goal.loop-window-init
loop-window-init g c =
    let q = g.A.Assembles.plan c.args.by.now in
    let shown = g.A.Assembles.shown in
    let given = c.into_iter-window-iterator.ensures.into_iter_gives ∙ c.range-window-items.ensures.between tt ∙ range_below c.args.closed_below c.args.parts.now.entries in
    record {
      can = tt;
      finite = tt;
      rest = ap (λ l. c.args.out.now.items ++ lines_of q (windows_by shown l)) given;
      behind = record { more = []; all = sym (append-nil c.args.out.now.items) };
    }

pub loop-window-preserved : goal.loop-window-preserved
loop-window-preserved g c =
    let q = g.A.Assembles.plan c.args.by.now in
    let shown = g.A.Assembles.shown in
    let left = c.in-Some.ensures.steps in
    let i = c.loop-window.invariant in
    let old = c.loop-window.out.items in
    let here = part_lines q c.in-Some.window.now (shown c.in-Some.part.now) in
    let rest = lines_of q (windows_by shown c.next.new.self) in
    record {
      can = tt;
      finite = tt;
      rest = ap (λ l. l ++ rest) c.in_ok-lines.ensures.ok ∙ append_assoc old here rest ∙ ap (λ l. old ++ lines_of q (windows_by shown l)) (sym left) ∙ i.rest;
      behind = record { more = i.behind.more ++ here; all = c.in_ok-lines.ensures.ok ∙ ap (λ l. l ++ here) i.behind.all ∙ append_assoc c.args.out.now.items i.behind.more here };
    }

pub returns-in_err-lines-clause-behind : goal.returns-in_err-lines-clause-behind
returns-in_err-lines-clause-behind g c = behind_both c.args.out.now.items c.loop-window.out.items c.lines.new.out.items c.loop-window.invariant.behind c.lines.ensures.behind
