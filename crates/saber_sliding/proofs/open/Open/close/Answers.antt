use Rattle.std.proofs.Common.{◌≡◌, ◌+◌, [], refl, sym, ◌∙◌, ap, append-nil, le_trans, arith}
use Rattle.saber_plan.specs.Parts.{part_answers}
use Rattle.saber_plan.specs.Trees.{tree_of}
use Rattle.saber_sliding.specs.EntryFacts.{nothing_first}
use Rattle.saber_plan.proofs.Appended.{behind_both}
use Rattle.saber_changes.specs.OutputFacts.{passed_nil, passed_on, up_to}
use Rattle.saber_sliding.proofs.Closed.{none_left, same_dropped, same_later, whole_is}
use Rattle.saber_sliding.proofs.open.Open.close.Goals as goal

pub loop-self-init : goal.loop-self-init
loop-self-init g c = record {
  up = omega arith;
  high = omega arith;
  before = c.requires.before;
  same = λ i l. refl;
  text = λ at answers stands. passed_nil at c.args.output.now c.args.self.now.next c.args.out.now.items stands;
  steps = omega arith;
  behind = record { more = []; all = sym (append-nil c.args.out.now.items) };
}

pub loop-self-preserved-in-Some : goal.loop-self-preserved-in-Some
loop-self-preserved-in-Some g c =
    let q = tree_of c.args.plan.now in
    let first = c.args.self.now in
    let n = c.loop-self.self.next in
    let es = c.loop-self.self.slices.entries in
    let rest = c.drop_to.new.self.entries in
    let dropped_is = c.drop_to.ensures.entries in
    let begun = c.loop-self.invariant.up in
    let most = c.loop-self.invariant.high in
    let below = c.loop-self-test.true in
    let used = c.loop-self.invariant.steps in
    let dropped = c.drop_to.ensures.owed in
    let written = c.in_ok-pass-in-Some.ensures.steps in
    record {
      up = omega (arith, begun);
      high = omega (arith, most, below);
      before = c.in_ok-pass-in-Some.ensures.before;
      same = same_later n (n + 1) c.pass.new.slices.entries first.slices.entries (omega arith)
          (same_dropped n c.pass.new.slices.entries es first.slices.entries (c.in_ok-pass-in-Some.ensures.same ∙ dropped_is) c.loop-self.invariant.same);
      text = λ at answers stands.
          let so_far = c.loop-self.invariant.text at (λ i a l. answers i a (omega (arith, l))) stands in
          passed_on at c.args.output.now c.loop-self.output c.pass.new.output first.next n (n + 1) c.args.out.now.items c.loop-self.out.items c.pass.new.out.items begun (omega arith) so_far
          (c.in_ok-pass-in-Some.ensures.passed at (answers n begun (omega arith) ∙ ap (part_answers q) (sym (whole_is n rest es first.slices.entries dropped_is c.loop-self.invariant.same))) so_far.stands);
      steps = omega (arith, used, dropped, written);
      behind = behind_both c.args.out.now.items c.loop-self.out.items c.pass.new.out.items c.loop-self.invariant.behind c.in_ok-pass-in-Some.ensures.behind;
    }

pub skip-requires : goal.skip-requires
skip-requires g c =
    let below = c.loop-self-test.true in
    up_to c.loop-self.output c.loop-self.self.next c.args.low (omega (arith, below)) c.loop-self.invariant.before

pub loop-self-preserved : goal.loop-self-preserved
loop-self-preserved g c =
    let q = tree_of c.args.plan.now in
    let first = c.args.self.now in
    let n = c.loop-self.self.next in
    let rest = c.drop_to.new.self.entries in
    let low = c.args.low in
    let begun = c.loop-self.invariant.up in
    let below = c.loop-self-test.true in
    let none : rest ≡ [] = nothing_first rest (sym c.in-None.ensures) in
    let used = c.loop-self.invariant.steps in
    let dropped = c.drop_to.ensures.owed in
    let same = same_dropped n rest c.loop-self.self.slices.entries first.slices.entries c.drop_to.ensures.entries c.loop-self.invariant.same in
    record {
      up = omega (arith, begun, below);
      high = omega arith;
      before = c.in_ok-skip-in-None.ensures.before;
      same = same_later n low rest first.slices.entries (omega (arith, below)) same;
      text = λ at answers stands.
          let so_far = c.loop-self.invariant.text at (λ i a l. answers i a (omega (arith, l, below))) stands in
          passed_on at c.args.output.now c.loop-self.output c.skip.new.self first.next n low c.args.out.now.items c.loop-self.out.items c.skip.new.out.items begun (omega (arith, below)) so_far
          (c.in_ok-skip-in-None.ensures.passed at n (λ i l h. answers i (le_trans begun l) h ∙ none_left q n rest first.slices.entries none same i l) c.loop-self.invariant.before so_far.stands);
      steps = omega (arith, used, dropped, below);
      behind = behind_both c.args.out.now.items c.loop-self.out.items c.skip.new.out.items c.loop-self.invariant.behind c.in_ok-skip-in-None.ensures.behind;
    }

pub returns-clause-slices : goal.returns-clause-slices
returns-clause-slices g c = c.drop_to-2.ensures.entries ∙ c.loop-self.invariant.same c.loop-self.self.next (omega arith)
