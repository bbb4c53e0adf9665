use Rattle.std.proofs.Common.{◌≡◌, ◌⊎◌, inl, inr, [], ◌++◌, ap, ◌∙◌, drop, arith}
use Rattle.std.proofs.lemmas.List.{drop_all}
use Rattle.saber_partial.specs.Printing.{answers_under}
use Rattle.saber_partial.proofs.Listed.{walked_answers}
use Rattle.saber_partial.proofs.joined_answers.push_woven.Goals.{then-loop-i-test+else-j-len, else-loop-i-test}
use Rattle.saber_partial.proofs.joined_answers.push_woven.Goals as goal

pub loop-i-preserved : goal.loop-i-preserved
loop-i-preserved c =
    let next = c.in_ok-mine.ensures in
    record {
      mine = next.mine;
      theirs = next.theirs;
      all = next.ok ∙ c.loop-i.invariant.all;
    }

pub returns : goal.returns
returns c =
    let es = c.args.groups.now.entries in
    let fs = c.args.others.now.entries in
    let items = c.args.items.now in
    let xs = drop c.loop-i.i es in
    let ys = drop c.loop-i.j fs in
    let long = c.len.ensures in
    let done : (xs ≡ []) ⊎ (ys ≡ []) = elim c.loop-i-test.branch [
      | then-loop-i-test+else-j-len w ↦ (let other = w.len-in-loop-i.ensures in let second = w.if-j-len.false in inr (drop_all c.loop-i.j fs (omega (arith, other, second))))
      | else-loop-i-test w ↦ (let test = w.loop-i-test.false in inl (drop_all c.loop-i.i es (omega (arith, long, test))))
    ] in
    c.in_ok-push_groups-2.ensures ∙ ap (λ l. l ++ answers_under items ys) c.in_ok-push_groups.ensures ∙ walked_answers items c.loop-i.answers xs ys done ∙ c.loop-i.invariant.all
