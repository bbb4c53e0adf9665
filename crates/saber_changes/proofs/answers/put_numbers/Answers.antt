use Rattle.std.proofs.lemmas.Grind.{common_steps}
use Rattle.std.proofs.Common.{◌++◌, [], refl, sym, ◌∙◌, ap, append-nil, arith}
use Rattle.std.proofs.lemmas.List.{drop_all}
use Rattle.saber_changes.proofs.Spanned.{grown_on}
use Rattle.saber_changes.proofs.answers.put_numbers.Goals as goal

pub loop-number-preserved : goal.loop-number-preserved
loop-number-preserved c =
    record {
      all = grind (arith, common_steps);
      grown = grown_on _ _ _ _ c.loop-number.invariant.grown c.in_ok-push.ensures.items;
    }

pub loop-number-init : goal.loop-number-init
loop-number-init c = record { all = refl; grown = record { more = []; all = sym (append-nil c.args.numbers.now.items) } }

pub returns-clause-ok : goal.returns-clause-ok
returns-clause-ok c =
    let ns = c.loop-number.numbers.items in
    sym (append-nil ns) ∙ ap (λ l. ns ++ l) (sym (drop_all c.loop-number.number-index c.args.line.now c.loop-number-test.false)) ∙ c.loop-number.invariant.all
