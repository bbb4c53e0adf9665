use Rattle.std.proofs.Common.{◌≡◌, ◌⊎◌, inl, inr, List, ℕ, [], ◌++◌, ap, ◌∙◌, subst, drop, arith}
use Rattle.std.specs.Result.{IfOk}
use Rattle.std.proofs.lemmas.List.{drop_all}
use Rattle.saber_digits.specs.Cells.{drafted_text}
use Rattle.saber_partial.specs.Printing.{lines_for}
use Rattle.saber_plan.proofs.Appended.{behind_both}
use Rattle.saber_partial.proofs.Lined.{walked_lines}
use Rattle.saber_partial.proofs.joined_lines.write_woven.Goals.{then-loop-i-test+else-j-len, else-loop-i-test}
use Rattle.saber_partial.proofs.joined_lines.write_woven.Goals as goal

pub loop-i-preserved : goal.loop-i-preserved
loop-i-preserved c =
    let next = c.in_ok-end.ensures in
    record {
      mine = next.mine;
      theirs = next.theirs;
      all = next.ok ∙ c.loop-i.invariant.all;
      room = next.room;
      behind = behind_both _ _ _ c.loop-i.invariant.behind c.write_next.ensures.behind;
    }

pub returns-clause-ok : goal.returns-clause-ok
returns-clause-ok c =
    let es = c.args.groups.now.entries in
    let fs = c.args.others.now.entries in
    let out = drafted_text c.loop-i.out.items c.loop-i.draft c.loop-i.at in
    let window = c.args.heading.now.window in
    let lines = lines_for window c.args.items.now in
    let xs = drop c.loop-i.i es in
    let ys = drop c.loop-i.j fs in
    let long = c.len.ensures in
    let done : (xs ≡ []) ⊎ (ys ≡ []) = elim c.loop-i-test.branch [
      | then-loop-i-test+else-j-len w ↦ (let other = w.len-in-loop-i.ensures in let second = w.if-j-len.false in inr (drop_all c.loop-i.j fs (omega (arith, other, second))))
      | else-loop-i-test w ↦ (let test = w.loop-i-test.false in inl (drop_all c.loop-i.i es (omega (arith, long, test))))
    ] in
    subst (λ (l : List ℕ). IfOk c.write_groups-2.result (λ end. drafted_text c.write_groups-2.new.out.items c.write_groups-2.new.draft end ≡ l))
    (ap (λ l. l ++ lines ys) c.in_ok-middle.ensures.ok ∙ walked_lines window c.args.items.now out xs ys done ∙ c.loop-i.invariant.all)
    c.write_groups-2.ensures.ok
