use Rattle.std.proofs.Common.{◌≡◌, ℕ, ◌+◌, length, max, take, drop, sym, ◌∙◌, ap, subst, arith}
use Rattle.saber_plan.specs.declared.plans.Plan.{Plan}
use Rattle.saber_plan.specs.Answers.{Answers}
use Rattle.saber_plan.specs.Trees.{tree_of}
use Rattle.saber_plan.proofs.Appended.{behind_itself, behind_both}
use Rattle.saber_changes.specs.Outputs.{IsBefore, Passed, StandsIn}
use Rattle.saber_sliding.specs.Windows.{AnswersOf}
use Rattle.saber_changes.specs.OutputFacts.{passed_nil, passed_on}
use Rattle.saber_group.specs.SliceParts.{answers_over, Holds}
use Rattle.saber_group.proofs.Opened.{held_still, answers_held}
use Rattle.saber_group.proofs.SlicesTaken.{Along, along_nil, along_below, along_can, along_more, along_holds, along_done}
use Rattle.saber_group.specs.SliceLists.{CanEnter, EnteredFirst}
use Rattle.saber_group.proofs.SlicesGiven.{first_there, none_there}
use Rattle.saber_group.proofs.GroupPlans.{has_window}
use Rattle.saber_group.proofs.group.Group.take_slices.Goals as goal

pub loop-first-init : goal.loop-first-init
loop-first-init g c =
    let q = tree_of c.args.self.now in
    let s = c.args.store.now in
    record {
      before = c.requires.before;
      along = λ m xs o x y given. along_nil q m xs o x y s.next s.slices.entries c.args.slices c.args.closed given;
      passed = λ m xs o x y given stands. passed_nil (answers_over q m xs) c.args.output.now s.next c.args.out.now.items stands;
      steps = omega arith;
      behind = behind_itself c.args.out.now.items;
    }

pub enter_first-requires : goal.enter_first-requires
enter_first-requires g c =
    let q = tree_of c.args.self.now in
    let (m, xs, o, x, y, given) = c.requires.goes_on in
    let s = c.loop-first.store in
    let new = c.close.new.self in
    let (r, rest, is, first_is) = first_there c.loop-first.rest c.in-Some.first (sym c.in-Some.ensures) in
    let most : new.next ≡ max s.next r.first = c.in_ok-close.ensures.next ∙ ap (max s.next) (sym first_is) in
    let a = subst (λ l. Along q m xs o y c.args.store.now.next s.next s.slices.entries l c.args.closed) is (c.loop-first.invariant.along m xs o x y given) in
    subst (λ l. CanEnter l new.slices.entries) (sym is)
    (along_can q (has_window c.args.self.now c.self.view_is c.self.invariant.0 c.self.invariant.1).window m xs o y c.args.store.now.next s.next s.slices.entries r rest c.args.closed given.fits a
    new.next new.slices.entries (held_still q m (take (o + a.x) xs) s.next new.next s.slices.entries new.slices.entries (omega (arith, most)) c.in_ok-close.ensures.slices a.holds))

pub loop-first-preserved : goal.loop-first-preserved
loop-first-preserved g c =
    let q = tree_of c.args.self.now in
    let w = (has_window c.args.self.now c.self.view_is c.self.invariant.0 c.self.invariant.1).window in
    let s = c.loop-first.store in
    let start = c.args.store.now.next in
    let first = c.args.output.now in
    let output = c.loop-first.output in
    let passing = c.close.new.output in
    let new = c.close.new.self in
    let (r, rest, is, first_is) = first_there c.loop-first.rest c.in-Some.first (sym c.in-Some.ensures) in
    let left : c.enter_first.new.self ≡ rest = c.in_ok-enter_first.ensures.rest ∙ ap (drop 1) is in
    let opened = c.enter_first.new.open in
    let most : new.next ≡ max s.next r.first = c.in_ok-close.ensures.next ∙ ap (max s.next) (sym first_is) in
    let same : opened.next ≡ new.next = c.in_ok-enter_first.ensures.next in
    let entered = subst (λ l. EnteredFirst l new.slices.entries opened.slices.entries) is c.in_ok-enter_first.ensures.entered in
    let before = c.args.out.now.items in
    let between = c.loop-first.out.items in
    let after = c.close.new.out.items in
    let passed = subst (λ (p : Plan). (at : ℕ → Answers) → AnswersOf (tree_of p) s.slices.entries s.next new.next at → StandsIn at output → Passed at output passing s.next new.next between after) c.self.view_is c.in_ok-close.ensures.text in
    record {
      before = subst (λ (n : ℕ). IsBefore passing n) (sym same) c.in_ok-close.ensures.before;
      along = λ m xs o x y given.
          let a = subst (λ l. Along q m xs o y start s.next s.slices.entries l c.args.closed) is (c.loop-first.invariant.along m xs o x y given) in
          subst (λ l. Along q m xs o y start opened.next opened.slices.entries l c.args.closed) (sym left)
          (along_more q w m xs o y start s.next s.slices.entries r rest c.args.closed given.fits a
          new.next opened.next new.slices.entries opened.slices.entries
          most same (held_still q m (take (o + a.x) xs) s.next new.next s.slices.entries new.slices.entries (omega (arith, most)) c.in_ok-close.ensures.slices a.holds) entered);
      passed = λ m xs o x y given stands.
          let a = subst (λ l. Along q m xs o y start s.next s.slices.entries l c.args.closed) is (c.loop-first.invariant.along m xs o x y given) in
          let at = answers_over q m xs in
          let so_far = c.loop-first.invariant.passed m xs o x y given stands in
          let told = answers_held q m (take (o + a.x) xs) xs s.next r.first new.next s.slices.entries most a.holds (along_below q w m xs o y start s.next s.slices.entries r rest c.args.closed given.fits a) in
          subst (λ (n : ℕ). Passed at first passing start n before after) (sym same)
          (passed_on at first output passing start s.next new.next before between after a.low (omega (arith, most)) so_far (passed at told so_far.stands));
      steps =
          let used = c.loop-first.invariant.steps in
          let long = ap length is in
          let fewer = ap length left in
          let closed = c.in_ok-close.ensures.steps in
          let taken = c.in_ok-enter_first.ensures.steps in
          omega (arith, used, long, fewer, closed, taken, same);
      behind = behind_both before between after c.loop-first.invariant.behind c.close.ensures.behind;
    }

pub returns-clause-went_on : goal.returns-clause-went_on
returns-clause-went_on g c =
    let q = tree_of c.args.self.now in
    let s = c.loop-first.store in
    let start = c.args.store.now.next in
    let first = c.args.output.now in
    let output = c.loop-first.output in
    let passing = c.close-2.new.output in
    let new = c.close-2.new.self in
    let none = none_there c.loop-first.rest (sym c.in_default.ensures) in
    let most : new.next ≡ max s.next c.args.closed = c.in_ok-close-2.ensures.next in
    let before = c.args.out.now.items in
    let between = c.loop-first.out.items in
    let after = c.close-2.new.out.items in
    let passed = subst (λ (p : Plan). (at : ℕ → Answers) → AnswersOf (tree_of p) s.slices.entries s.next new.next at → StandsIn at output → Passed at output passing s.next new.next between after) c.self.view_is c.in_ok-close-2.ensures.text in
    λ m xs o x y given stands.
    let a = subst (λ l. Along q m xs o y start s.next s.slices.entries l c.args.closed) none (c.loop-first.invariant.along m xs o x y given) in
    let h = along_holds q m xs o y start s.next s.slices.entries c.args.closed a in
    let done = along_done q m xs o y start s.next s.slices.entries c.args.closed a new.next most in
    let at = answers_over q m xs in
    let so_far = c.loop-first.invariant.passed m xs o x y given stands in
    let told = answers_held q m (take (o + y) xs) xs s.next c.args.closed new.next s.slices.entries most h given.settled in
    record {
      holds = subst (λ n. Holds q m (take (o + y) xs) n new.slices.entries) done (held_still q m (take (o + y) xs) s.next new.next s.slices.entries new.slices.entries (omega (arith, most)) c.in_ok-close-2.ensures.slices h);
      done_is = done;
      is_before = subst (λ (n : ℕ). IsBefore passing n) done c.in_ok-close-2.ensures.before;
      passed = subst (λ (n : ℕ). Passed at first passing start n before after) done
          (passed_on at first output passing start s.next new.next before between after a.low (omega (arith, most)) so_far (passed at told so_far.stands));
    }

pub returns-clause-next : goal.returns-clause-next
returns-clause-next g c =
    let q = tree_of c.args.self.now in
    let s = c.loop-first.store in
    let start = c.args.store.now.next in
    let (m, xs, o, x, y, given) = c.requires.goes_on in
    let none = none_there c.loop-first.rest (sym c.in_default.ensures) in
    along_done q m xs o y start s.next s.slices.entries c.args.closed
    (subst (λ l. Along q m xs o y start s.next s.slices.entries l c.args.closed) none (c.loop-first.invariant.along m xs o x y given))
    c.close-2.new.self.next c.in_ok-close-2.ensures.next

pub returns-clause-steps : goal.returns-clause-steps
returns-clause-steps g c =
    let used = c.loop-first.invariant.steps in
    let none = ap length (none_there c.loop-first.rest (sym c.in_default.ensures)) in
    let closed = c.in_ok-close-2.ensures.steps in
    omega (arith, used, none, closed)

pub returns-in_err-close-clause-behind : goal.returns-in_err-close-clause-behind
returns-in_err-close-clause-behind g c = behind_both c.args.out.now.items c.loop-first.out.items c.close.new.out.items c.loop-first.invariant.behind c.close.ensures.behind

pub returns-in_err-enter_first-clause-behind : goal.returns-in_err-enter_first-clause-behind
returns-in_err-enter_first-clause-behind g c = behind_both c.args.out.now.items c.loop-first.out.items c.close.new.out.items c.loop-first.invariant.behind c.close.ensures.behind

pub returns-in_err-close-2-clause-behind : goal.returns-in_err-close-2-clause-behind
returns-in_err-close-2-clause-behind g c = behind_both c.args.out.now.items c.loop-first.out.items c.close-2.new.out.items c.loop-first.invariant.behind c.close-2.ensures.behind

pub returns-clause-behind : goal.returns-clause-behind
returns-clause-behind g c = behind_both c.args.out.now.items c.loop-first.out.items c.close-2.new.out.items c.loop-first.invariant.behind c.close-2.ensures.behind
