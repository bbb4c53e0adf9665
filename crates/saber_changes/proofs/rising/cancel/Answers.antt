use Rattle.std.proofs.Common.{◌+◌, ◌∷◌, drop, sym, ◌∙◌, ap, subst, arith}
use Rattle.std.proofs.lemmas.List.{drop_all}
use Rattle.std.specs.Ordering.{is_lt}
use Rattle.saber_plan.specs.Answers.{uncancelled_answers}
use Rattle.saber_changes.specs.Rising.{Rises}
use Rattle.saber_changes.proofs.Cancelling.{next_line}
use Rattle.saber_changes.proofs.Apart.{below_cancels_none, itself_and, equal_cancels, greater_cancels_none, none_left}
use Rattle.saber_changes.proofs.rising.cancel.Goals as goal

pub loop-place-preserved : goal.loop-place-preserved
loop-place-preserved c =
    let k = c.args.line.now in
    let others = c.args.others.now in
    let o = c.line.result.now in
    let long = c.len.ensures in
    let test = c.loop-place-test.true in
    let next = next_line others c.loop-place.place o (omega (arith, long, test)) (c.line.ensures o) in
    let old = c.loop-place.invariant in
    record {
      within = omega (arith, long, test);
      same = λ ks h. old.same ks h ∙ ap (uncancelled_answers ks) next ∙ below_cancels_none k o ks (drop (c.loop-place.place + 1) others) (ap is_lt (sym c.cmp.ensures ∙ c.in-Less.is)) h;
      rises = λ r. (subst Rises next (old.rises r)).1;
    }

pub returns-in-Equal-clause-cancelled : goal.returns-in-Equal-clause-cancelled
returns-in-Equal-clause-cancelled c = λ t ks h.
    let k = c.args.line.now in
    let others = c.args.others.now in
    let o = c.line.result.now in
    let long = c.len.ensures in
    let test = c.loop-place-test.true in
    let next = next_line others c.loop-place.place o (omega (arith, long, test)) (c.line.ensures o) in
    c.loop-place.invariant.same (k ∷ ks) (itself_and k ks h) ∙ ap (uncancelled_answers (k ∷ ks)) next ∙ equal_cancels k o ks (drop (c.loop-place.place + 1) others) (sym c.cmp.ensures ∙ c.in-Equal.is)

pub returns-in-Equal-clause-rises : goal.returns-in-Equal-clause-rises
returns-in-Equal-clause-rises c = λ r.
    let others = c.args.others.now in
    let o = c.line.result.now in
    let long = c.len.ensures in
    let test = c.loop-place-test.true in
    let next = next_line others c.loop-place.place o (omega (arith, long, test)) (c.line.ensures o) in
    (subst Rises next (c.loop-place.invariant.rises r)).1

pub returns-in-Greater-clause-left : goal.returns-in-Greater-clause-left
returns-in-Greater-clause-left c = λ t ks h r.
    let k = c.args.line.now in
    let others = c.args.others.now in
    let o = c.line.result.now in
    let long = c.len.ensures in
    let test = c.loop-place-test.true in
    let next = next_line others c.loop-place.place o (omega (arith, long, test)) (c.line.ensures o) in
    c.loop-place.invariant.same (k ∷ ks) (itself_and k ks h) ∙ greater_cancels_none k o ks (drop c.loop-place.place others) (drop (c.loop-place.place + 1) others) next (sym c.cmp.ensures ∙ c.in-Greater.is) (c.loop-place.invariant.rises r)

pub returns-clause-left : goal.returns-clause-left
returns-clause-left c = λ t ks h r.
    let k = c.args.line.now in
    let others = c.args.others.now in
    let long = c.len.ensures in
    let test = c.loop-place-test.false in
    c.loop-place.invariant.same (k ∷ ks) (itself_and k ks h) ∙ none_left k ks (drop c.loop-place.place others) (drop_all c.loop-place.place others (omega (arith, long, test)))
