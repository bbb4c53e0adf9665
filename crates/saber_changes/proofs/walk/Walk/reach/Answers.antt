use Rattle.std.proofs.Common.{◌++◌, ◌∙◌, ap, refl, arith}
use Rattle.saber_plan.specs.Answers.{answer_lines}
use Rattle.saber_changes.specs.Counts.{change_of}
use Rattle.saber_changes.proofs.Walking.{reached, stood}
use Rattle.saber_changes.proofs.walk.Walk.reach.Goals as goal

pub returns-in_ok-write_change-clause-ok : goal.returns-in_ok-write_change-clause-ok
returns-in_ok-write_change-clause-ok c at stands none =
    let w = c.args.self.now in
    reached c.args.change at w _ c.args.window c.args.out.now.items c.write_change.new.out.items c.if-self-window.true c.new-none.ensures refl
    (c.in_ok-write_change.ensures.ok ∙ ap (λ l. c.args.out.now.items ++ answer_lines w.next (change_of c.args.change w.last l)) c.new-none.ensures) stands none

pub returns-else-self-window-clause-ok : goal.returns-else-self-window-clause-ok
returns-else-self-window-clause-ok c at stands none =
    let high = c.if-self-window.false in
    let low = c.requires in
    stood c.args.change at c.args.self.now c.args.window c.args.out.now.items (omega (arith, high, low)) stands
