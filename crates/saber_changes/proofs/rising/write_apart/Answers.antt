use Rattle.std.proofs.Common.{◌+◌, ◌∷◌, ◌++◌, drop, pos, refl, sym, ◌∙◌, ap, subst, append-nil, append_assoc, arith}
use Rattle.std.proofs.lemmas.List.{drop_all}
use Rattle.saber_plan.specs.Answers.{line, uncancelled_answers, answer_lines}
use Rattle.saber_changes.specs.Rising.{Rises}
use Rattle.saber_changes.proofs.Cancelling.{next_line}
use Rattle.saber_plan.proofs.Appended.{behind_both, behind_itself}
use Rattle.saber_changes.proofs.rising.write_apart.Goals as goal

pub loop-i-preserved-then-is_cancelled : goal.loop-i-preserved-then-is_cancelled
loop-i-preserved-then-is_cancelled c =
    let old = c.loop-i.invariant in
    let k = c.line-line.result.now in
    let ls = c.args.answers.now in
    let left = drop c.loop-i.at c.args.others.now in
    let long = c.len-i-end.ensures in
    let test = c.loop-i-test.true in
    let next = next_line ls c.loop-i.i k (omega (arith, long, test)) (c.line-line.ensures k) in
    let rises = subst Rises next old.answers in
    let step = ap (λ l. uncancelled_answers l left) next ∙ c.cancel-place.ensures.cancelled c.if-is_cancelled.true (drop (c.loop-i.i + 1) ls) rises.0 in
    record {
      all = ap (λ l. c.loop-i.out.items ++ answer_lines c.args.window l) (sym step) ∙ old.all;
      within = c.cancel-place.ensures.within;
      answers = rises.1;
      others = c.cancel-place.ensures.rises old.others;
      behind = old.behind;
    }

pub loop-i-preserved : goal.loop-i-preserved
loop-i-preserved c =
    let old = c.loop-i.invariant in
    let k = c.line-line.result.now in
    let ls = c.args.answers.now in
    let ks = drop (c.loop-i.i + 1) ls in
    let left = drop c.loop-i.at c.args.others.now in
    let rest = drop c.cancel-place.result.0 c.args.others.now in
    let long = c.len-i-end.ensures in
    let test = c.loop-i-test.true in
    let next = next_line ls c.loop-i.i k (omega (arith, long, test)) (c.line-line.ensures k) in
    let rises = subst Rises next old.answers in
    let step = ap (λ l. uncancelled_answers l left) next ∙ c.cancel-place.ensures.left c.if-is_cancelled.false ks rises.0 old.others in
    let w = c.args.window in
    let out = c.loop-i.out.items in
    record {
      all = ap (λ o. o ++ answer_lines w (uncancelled_answers ks rest)) c.in_ok-write_line.ensures.ok
          ∙ append_assoc out (line (pos w ∷ k)) (answer_lines w (uncancelled_answers ks rest)) ∙ ap (λ l. out ++ answer_lines w l) (sym step) ∙ old.all;
      within = c.cancel-place.ensures.within;
      answers = rises.1;
      others = c.cancel-place.ensures.rises old.others;
      behind = behind_both c.args.out.now.items out c.write_line.new.out.items old.behind c.write_line.ensures.behind;
    }

pub loop-i-init : goal.loop-i-init
loop-i-init c = record { all = refl; within = omega arith; answers = c.requires.answers; others = c.requires.others; behind = behind_itself c.args.out.now.items }

pub returns-in_err-write_line-clause-behind : goal.returns-in_err-write_line-clause-behind
returns-in_err-write_line-clause-behind c = behind_both c.args.out.now.items c.loop-i.out.items c.write_line.new.out.items c.loop-i.invariant.behind c.write_line.ensures.behind

pub returns-clause-ok : goal.returns-clause-ok
returns-clause-ok c =
    let out = c.loop-i.out.items in let left = drop c.loop-i.at c.args.others.now in let long = c.len-i-end.ensures in let test = c.loop-i-test.false in
    sym (append-nil out) ∙ ap (λ l. out ++ answer_lines c.args.window (uncancelled_answers l left)) (sym (drop_all c.loop-i.i c.args.answers.now (omega (arith, long, test)))) ∙ c.loop-i.invariant.all

pub returns-clause-behind : goal.returns-clause-behind
returns-clause-behind c = c.loop-i.invariant.behind
