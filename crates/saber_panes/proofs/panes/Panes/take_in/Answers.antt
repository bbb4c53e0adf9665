use Rattle.std.proofs.Common.{sym, ◌∙◌, ap, subst, T, nat_cmp, arith}
use Rattle.std.specs.Cmp.{nat_cmp_total}
use Rattle.std.specs.FinMap.{is_sorted, len, nat_cmp-IsAntisymmetric}
use Rattle.std.proofs.lemmas.Map.Iter.{rest_more, rest_all}
use Rattle.saber_plan.specs.Merges.{both}
use Rattle.saber_plan.specs.Parts.{merge}
use Rattle.saber_plan.specs.Facts.Maps.{both-empty_right}
use Rattle.saber_plan.specs.Facts.Trees.{sorted_seen}
use Rattle.saber_panes.specs.Panes.{seen_panes, CanTakeIn}
use Rattle.saber_panes.proofs.PaneMaps.{seen_list, one_fewer, pane_here, taken}
use Rattle.saber_panes.proofs.panes.Panes.take_in.Goals as goal

pub loop-pane-init : goal.loop-pane-init
loop-pane-init g c =
    let all = c.into_iter-pane-iterator.ensures.into_iter_gives.0 in
    let many = ap (λ l. len (seen_panes l)) all ∙ ap (λ m. len m) c.other.view_is in
    record {
      can = tt;
      finite = tt;
      rest = ap (λ l. both merge c.args.self.now (seen_panes l)) all ∙ ap (both merge c.args.self.now) c.other.view_is;
      rising = subst (λ l. T (is_sorted nat_cmp (seen_list l))) (sym all) (sorted_seen nat_cmp (λ k. k) (λ x. x) c.other.inside.parts.entries c.len-count.ensures.ordered);
      fits = subst (CanTakeIn c.args.self.now) (sym (ap seen_panes all ∙ c.other.view_is)) c.requires;
      steps = omega (arith, many);
    }

pub take_pane-requires : goal.take_pane-requires
take_pane-requires g c = λ a e.
    let left = rest_more (λ x. x) c.loop-pane.pane-iterator c.next.new.self c.next.result (c.in-Some.pane, c.in-Some.part) c.in-Some.is c.next.ensures.steps in
    let m = c.loop-pane.self in
    pane_here m c.in-Some.pane a c.in-Some.part (seen_list c.next.new.self) (subst (λ l. CanTakeIn m (seen_panes l)) left c.loop-pane.invariant.fits) e

pub loop-pane-preserved : goal.loop-pane-preserved
loop-pane-preserved g c =
    let left = rest_more (λ x. x) c.loop-pane.pane-iterator c.next.new.self c.next.result (c.in-Some.pane, c.in-Some.part) c.in-Some.is c.next.ensures.steps in
    let kept = c.loop-pane.invariant in
    let w = taken c.loop-pane.self c.next.new.self c.loop-pane.pane-iterator c.in-Some.pane c.in-Some.part c.take_pane.new.self (both merge c.args.self.now c.args.other) left c.in_ok-take_pane.ensures.ok kept.rest kept.rising kept.fits in
    let fewer = one_fewer c.next.new.self c.loop-pane.pane-iterator c.in-Some.pane c.in-Some.part left kept.rising in
    let used = kept.steps in
    let step = c.take_pane.ensures.steps in
    record { can = tt; finite = tt; rest = w.0; rising = w.1; fits = w.2; steps = omega (arith, fewer, used, step) }

pub returns-in_err-take_pane-clause-steps : goal.returns-in_err-take_pane-clause-steps
returns-in_err-take_pane-clause-steps g c =
    let left = rest_more (λ x. x) c.loop-pane.pane-iterator c.next.new.self c.next.result (c.in-Some.pane, c.in-Some.part) c.in-Some.is c.next.ensures.steps in
    let kept = c.loop-pane.invariant in
    let fewer = one_fewer c.next.new.self c.loop-pane.pane-iterator c.in-Some.pane c.in-Some.part left kept.rising in
    let used = kept.steps in
    let step = c.take_pane.ensures.steps in
    omega (arith, fewer, used, step)

pub returns-clause-ok : goal.returns-clause-ok
returns-clause-ok g c =
    let none = rest_all (λ x. x) c.loop-pane.pane-iterator c.next.new.self c.next.result c.in-None.is c.next.ensures.steps in
    let m = c.loop-pane.self in
    sym (both-empty_right nat_cmp_total merge nat_cmp-IsAntisymmetric m) ∙ ap (λ l. both merge m (seen_panes l)) (sym none) ∙ c.loop-pane.invariant.rest

pub returns-clause-steps : goal.returns-clause-steps
returns-clause-steps g c = let used = c.loop-pane.invariant.steps in omega (arith, used)
