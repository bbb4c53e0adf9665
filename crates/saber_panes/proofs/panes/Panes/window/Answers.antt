use Rattle.std.proofs.Common.{◌≡◌, ◌+◌, ◌-◌, ◌<◌, sym, ◌∙◌, ap, subst, arith}
use Rattle.std.specs.FinMap.{get}
use Rattle.saber_plan.specs.Trees.{tree_of}
use Rattle.saber_plan.specs.Windows.{from}
use Rattle.saber_plan.specs.Answers.{frame}
use Rattle.saber_plan.specs.Parts.{Part, merge}
use Rattle.saber_partial.specs.Tallies.{CanMerge}
use Rattle.saber_panes.specs.Panes.{or_none, merged_panes, first_pane, pane_count}
use Rattle.saber_panes.proofs.PaneMerging.{none_merged, one_merged, none_between, room_for_pane}
use Rattle.saber_panes.proofs.panes.Panes.window.Goals as goal

pub loop-pane-init : goal.loop-pane-init
loop-pane-init g c =
    let a = c.panes_of-first.result.0 in
    let none : a - a ≡ 0 = omega arith in
    let first = c.panes_of-first.ensures.first in
    let past = c.panes_of-first.ensures.past in
    record {
      low = omega arith;
      high = omega (arith, first, past);
      part = none_merged c.args.self.now c.args.out.now a ∙ ap (λ n. merge c.args.out.now (merged_panes c.args.self.now (from a n))) (sym none);
      steps = omega arith;
    }

pub merge_pane-requires : goal.merge_pane-requires
merge_pane-requires g c =
    let q = tree_of c.args.p.now in
    let m = c.args.self.now in
    let p = c.args.out.now in
    let first = c.panes_of-first.result.0 in
    let pane = c.in-Some.pane in
    let fp = first_pane (frame q) c.args.i in
    let n = pane - first in
    let here = c.in-Some.ensures.some in
    let above = here.0 in
    let below = here.1 in
    let low = c.loop-pane.invariant.low in
    let is : first ≡ fp = c.panes_of-first.ensures.first ∙ ap (λ p. first_pane (frame (tree_of p)) c.args.i) c.new-cuts.ensures in
    let past : c.panes_of-first.result.1 ≡ fp + pane_count (frame q) = c.panes_of-first.ensures.past ∙ ap (λ p. first_pane (frame (tree_of p)) c.args.i + pane_count (frame (tree_of p))) c.new-cuts.ensures in
    let within : n < pane_count (frame q) = omega (arith, is, past, low, above, below) in
    let there : fp + n ≡ pane = omega (arith, is, low, above) in
    let k = c.loop-pane.next - first in
    let gap : k + (c.in-Some.pane - c.loop-pane.next) ≡ n = omega (arith, low, above) in
    let none = none_between m p first k (pane - c.loop-pane.next) (λ j l r. here.2 j (omega (arith, l, low)) (omega (arith, r, low, above))) in
    let so_far = c.loop-pane.invariant.part ∙ none ∙ ap (λ d. merge p (merged_panes m (from first d))) gap ∙ ap (λ a. merge p (merged_panes m (from a n))) is in
    let room = room_for_pane q c.args.i m p c.requires.room n within in
    subst (λ (x : Part). CanMerge x (or_none (get m pane))) (sym so_far) (subst (λ j. CanMerge (merge p (merged_panes m (from fp n))) (or_none (get m j))) there room)

pub loop-pane-preserved : goal.loop-pane-preserved
loop-pane-preserved g c =
    let m = c.args.self.now in
    let p = c.args.out.now in
    let first = c.panes_of-first.result.0 in
    let pane = c.in-Some.pane in
    let n = pane - first in
    let here = c.in-Some.ensures.some in
    let above = here.0 in
    let below = here.1 in
    let low = c.loop-pane.invariant.low in
    let used = c.loop-pane.invariant.steps in
    let step = c.merge_pane.ensures.steps in
    let there : pane ≡ first + n = omega (arith, low, above) in
    let next : n + 1 ≡ pane + 1 - first = omega (arith, low, above) in
    let k = c.loop-pane.next - first in
    let gap : k + (c.in-Some.pane - c.loop-pane.next) ≡ n = omega (arith, low, above) in
    let none = none_between m p first k (pane - c.loop-pane.next) (λ j l r. here.2 j (omega (arith, l, low)) (omega (arith, r, low, above))) in
    let so_far = c.loop-pane.invariant.part ∙ none ∙ ap (λ d. merge p (merged_panes m (from first d))) gap in
    record {
      low = omega (arith, low, above);
      high = omega (arith, below);
      part = c.in_ok-merge_pane-in-Some.ensures.ok ∙ ap (λ x. merge x (or_none (get m pane))) so_far ∙ ap (λ j. merge (merge p (merged_panes m (from first n))) (or_none (get m j))) there
          ∙ one_merged m p first n ∙ ap (λ k. merge p (merged_panes m (from first k))) next;
      steps = omega (arith, low, above, used, step);
    }

pub returns-in-None-clause-ok : goal.returns-in-None-clause-ok
returns-in-None-clause-ok g c =
    let q = tree_of c.args.p.now in
    let m = c.args.self.now in
    let p = c.args.out.now in
    let first = c.panes_of-first.result.0 in
    let low = c.loop-pane.invariant.low in
    let high = c.loop-pane.invariant.high in
    let is : first ≡ first_pane (frame q) c.args.i = c.panes_of-first.ensures.first ∙ ap (λ p. first_pane (frame (tree_of p)) c.args.i) c.new-cuts.ensures in
    let past : c.panes_of-first.result.1 ≡ first_pane (frame q) c.args.i + pane_count (frame q) = c.panes_of-first.ensures.past ∙ ap (λ p. first_pane (frame (tree_of p)) c.args.i + pane_count (frame (tree_of p))) c.new-cuts.ensures in
    let k = c.loop-pane.next - first in
    let none = none_between m p first k (c.panes_of-first.result.1 - c.loop-pane.next) (λ j l r. c.in-None.ensures.none j (omega (arith, l, low)) (omega (arith, r, low, high))) in
    let all : k + (c.panes_of-first.result.1 - c.loop-pane.next) ≡ pane_count (frame q) = omega (arith, is, past, low, high) in
    c.loop-pane.invariant.part ∙ none ∙ ap (λ d. merge p (merged_panes m (from first d))) all ∙ ap (λ a. merge p (merged_panes m (from a (pane_count (frame q))))) is
