use Rattle.std.proofs.Common.{◌+◌, ◌++◌, drop, append-nil, sym, ◌∙◌, ap, arith}
use Rattle.std.proofs.lemmas.List.{drop_all}
use Rattle.saber_plan.specs.Answers.{answer_lines}
use Rattle.saber_changes.specs.Counts.{counts_of, tally, by_counts}
use Rattle.saber_changes.proofs.Cancelling.{counts_cancel, next_line, cancels, is_written}
use Rattle.saber_plan.proofs.Appended.{behind_both, behind_itself}
use Rattle.saber_changes.proofs.cancel.write_counted.Goals as goal

pub loop-i-init : goal.loop-i-init
loop-i-init c = record {
  all = ap (λ l. c.args.out.now.items ++ answer_lines c.args.window l) ((λ i. by_counts c.args.answers.now (λ k. c.in_ok-left.ensures k i)) ∙ sym (counts_cancel c.args.answers.now c.args.others.now));
  behind = behind_itself c.args.out.now.items;
}

pub loop-i-preserved-then-take : goal.loop-i-preserved-then-take
loop-i-preserved-then-take c =
    let x = c.line-line.result.now in
    let ls = c.args.answers.now in
    let i = c.loop-i.i in
    let long = c.len-i-end.ensures in
    let test = c.loop-i-test.true in
    let next = next_line ls i x (omega (arith, long, test)) (c.line-line.ensures x) in
    let n = tally (counts_of c.loop-i.left.entries) in
    record {
      all = cancels c.args.window c.loop-i.out.items _ x (drop i ls) (drop (i + 1) ls) n (tally (counts_of c.take.new.counts.entries)) next
          (sym c.if-take.true ∙ c.take.ensures.told) (c.take.ensures.taken c.if-take.true) c.loop-i.invariant.all;
      behind = c.loop-i.invariant.behind;
    }

pub loop-i-preserved : goal.loop-i-preserved
loop-i-preserved c =
    let x = c.line-line.result.now in
    let ls = c.args.answers.now in
    let i = c.loop-i.i in
    let long = c.len-i-end.ensures in
    let test = c.loop-i-test.true in
    let next = next_line ls i x (omega (arith, long, test)) (c.line-line.ensures x) in
    let n = tally (counts_of c.loop-i.left.entries) in
    record {
      all = is_written c.args.window c.loop-i.out.items c.write_line.new.out.items _ x (drop i ls) (drop (i + 1) ls) n (tally (counts_of c.take.new.counts.entries)) next
          (sym c.if-take.false ∙ c.take.ensures.told) (c.take.ensures.same c.if-take.false) c.in_ok-write_line.ensures.ok c.loop-i.invariant.all;
      behind = behind_both c.args.out.now.items c.loop-i.out.items c.write_line.new.out.items c.loop-i.invariant.behind c.write_line.ensures.behind;
    }

pub returns-in_err-left-clause-behind : goal.returns-in_err-left-clause-behind
returns-in_err-left-clause-behind c = behind_itself c.args.out.now.items

pub returns-in_err-write_line-clause-behind : goal.returns-in_err-write_line-clause-behind
returns-in_err-write_line-clause-behind c = behind_both c.args.out.now.items c.loop-i.out.items c.write_line.new.out.items c.loop-i.invariant.behind c.write_line.ensures.behind

pub returns-clause-ok : goal.returns-clause-ok
returns-clause-ok c =
    let out = c.loop-i.out.items in let n = tally (counts_of c.loop-i.left.entries) in let long = c.len-i-end.ensures in let test = c.loop-i-test.false in
    sym (append-nil out) ∙ ap (λ l. out ++ answer_lines c.args.window (by_counts l n)) (sym (drop_all c.loop-i.i c.args.answers.now (omega (arith, long, test)))) ∙ c.loop-i.invariant.all

pub returns-clause-behind : goal.returns-clause-behind
returns-clause-behind c = c.loop-i.invariant.behind
