use Rattle.std.proofs.Common.{◌≡◌, ◌+◌, ◌++◌, [], append-nil, append_assoc, sym, ◌∙◌, ap, subst, arith}
use Rattle.saber_fragment.specs.Shown.{windows_by}
use Rattle.saber_changes.specs.Walks.{Walks}
use Rattle.saber_parts.specs.Changing.{Rises, Tells}
use Rattle.saber_parts.proofs.Ranged.{range_below, walks_none, walks_on}
use Rattle.saber_parts.proofs.changes.walk_closed.Goals as goal

pub loop-window-init : goal.loop-window-init
loop-window-init g c =
    let q = g.A.Assembles.plan c.args.by.now in
    let shown = g.A.Assembles.shown in
    let w = c.args.walk.now in
    let given = c.into_iter-window-iterator.ensures.into_iter_gives ∙ c.range-window-items.ensures.between tt ∙ range_below c.args.closed_below c.args.parts.now.entries in
    record {
      can = tt;
      finite = tt;
      from = omega arith;
      rises = subst (λ l. Rises w.next c.args.closed_below (windows_by shown l)) (sym given) c.requires;
      told = λ at s t. (subst (λ l. Tells q at w.next c.args.closed_below (windows_by shown l)) (sym given) t, walks_none c.args.change at w c.args.out.now.items s);
      behind = record { more = []; all = sym (append-nil c.args.out.now.items) };
    }

pub loop-window-preserved : goal.loop-window-preserved
loop-window-preserved g c =
    let q = g.A.Assembles.plan c.args.by.now in
    let shown = g.A.Assembles.shown in
    let w = c.args.walk.now in
    let i = c.loop-window.invariant in
    let mid = c.loop-window.walk in
    let new = c.pass.new.self in
    let left = c.in-Some.ensures.steps in
    let rest = windows_by shown c.next.new.self in
    let window = c.in-Some.window.now in
    let rises = subst (λ l. Rises mid.next c.args.closed_below (windows_by shown l)) left i.rises in
    let low = rises.0 in
    let first = i.from in
    let next : window + 1 ≡ new.next = sym c.in_ok-pass.ensures.next in
    record {
      can = tt;
      finite = tt;
      from = omega (arith, low, first, next);
      rises = subst (λ n. Rises n c.args.closed_below rest) next rises.2;
      told = λ at s t.
          let before = i.told at s t in
          let tells = subst (λ l. Tells q at mid.next c.args.closed_below (windows_by shown l)) left before.0 in
          let step = c.in_ok-pass.ensures.ok at before.1.stands tells.0 (tells.1 ∙ sym c.in_ok-answers.ensures) in (
            subst (λ n. Tells q at n c.args.closed_below rest) next tells.2,
            subst (λ n. Walks c.args.change at w new n c.args.out.now.items c.pass.new.out.items) next
                (walks_on c.args.change at w mid new (window + 1) c.args.out.now.items c.loop-window.out.items c.pass.new.out.items first (omega (arith, low)) before.1 step),
          );
      behind = record {
        more = i.behind.more ++ c.in_ok-pass.ensures.behind.more;
        all = c.in_ok-pass.ensures.behind.all ∙ ap (λ l. l ++ c.in_ok-pass.ensures.behind.more) i.behind.all ∙ append_assoc c.args.out.now.items i.behind.more c.in_ok-pass.ensures.behind.more;
      };
    }

pub returns-clause-ok : goal.returns-clause-ok
returns-clause-ok g c at s t =
    let q = g.A.Assembles.plan c.args.by.now in
    let shown = g.A.Assembles.shown in
    let i = c.loop-window.invariant in
    let mid = c.loop-window.walk in
    let none = c.in-None.ensures.steps.0 in
    let before = i.told at s t in
    walks_on c.args.change at c.args.walk.now mid c.reach.new.self c.args.closed_below c.args.out.now.items c.loop-window.out.items c.reach.new.out.items i.from
    (subst (λ l. Rises mid.next c.args.closed_below (windows_by shown l)) none i.rises) before.1
    (c.in_ok-reach.ensures.ok at before.1.stands (subst (λ l. Tells q at mid.next c.args.closed_below (windows_by shown l)) none before.0))
