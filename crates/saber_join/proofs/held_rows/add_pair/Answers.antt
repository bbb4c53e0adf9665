use Rattle.std.proofs.Common.{◌+◌, ◌∙◌, sym, subst, arith}
use Rattle.saber_plan.specs.Trees.{tree_of}
use Rattle.saber_plan.specs.Values.{passes}
use Rattle.saber_join.specs.Open.{seen_parts, Changed, with_pair}
use Rattle.saber_join.proofs.Adding.{pair_out}
use Rattle.saber_join.proofs.Changing.{range_empty, none_changed, one_changed, all_changed}
use Rattle.saber_join.proofs.held_rows.add_pair.Goals as goal

pub loop-window-init : goal.loop-window-init
loop-window-init c = record { changed = range_empty (with_pair (tree_of c.args.join.now) c.args.left.now c.args.right.now) c.args.low c.args.low (seen_parts c.args.windows.now.entries) (omega arith); within = omega arith }

pub put_at-requires-clause-passes : goal.put_at-requires-clause-passes
put_at-requires-clause-passes c =
    let q = tree_of c.args.join.now in
    sym (λ i. passes q.predicate (c.row.ensures i).values (c.row-2.ensures i).values) ∙ sym c.passes.ensures ∙ c.if-not-passes.false

pub loop-window-preserved : goal.loop-window-preserved
loop-window-preserved c =
    let f = with_pair (tree_of c.args.join.now) c.args.left.now c.args.right.now in
    record {
      changed = subst (Changed f c.args.low (c.loop-window.window + 1) (seen_parts c.args.windows.now.entries)) (sym c.in_ok-put_at.ensures)
          (one_changed f c.args.low c.loop-window.window (seen_parts c.args.windows.now.entries) (seen_parts c.loop-window.windows.entries) (omega arith) c.loop-window.invariant.changed);
      within = omega arith;
    }

pub returns : goal.returns
returns c =
    let f = with_pair (tree_of c.args.join.now) c.args.left.now c.args.right.now in
    all_changed f c.args.low c.loop-window.window c.args.past (seen_parts c.args.windows.now.entries) (seen_parts c.loop-window.windows.entries) (omega arith) (omega arith) (λ l. omega arith) (λ l. omega arith) c.loop-window.invariant.changed

pub returns-then-not-passes : goal.returns-then-not-passes
returns-then-not-passes c =
    let q = tree_of c.args.join.now in
    let x = c.args.left.now in
    let y = c.args.right.now in
    let e = sym (λ i. passes q.predicate (c.row.ensures i).values (c.row-2.ensures i).values) ∙ sym c.passes.ensures ∙ c.if-not-passes.true in
    none_changed (with_pair q x y) c.args.low c.args.past (seen_parts c.args.windows.now.entries) (λ i p. sym (pair_out q p x y e))
