use Rattle.std.proofs.Common.{◌≡◌, ◌∷◌, ◌++◌, take, get_or, ℤ, pos, sym, ◌∙◌, ap, append-nil, rules, SFits, to_z-of_z}
use Rattle.std.specs.Fmt.{signed_decimal}
use Rattle.std.specs.Int.{w128}
use Rattle.std.proofs.lemmas.List.{flat_map_more, take_all, take_more}
use Rattle.saber_digits.specs.Cells.{cells, drafted_text}
use Rattle.saber_plan.proofs.Appended.{behind_both, behind_itself}
use Rattle.saber_digits.proofs.lines.put_cells.Goals as goal

pub loop-number-init : goal.loop-number-init
loop-number-init c = record {
  all = sym (append-nil (drafted_text c.args.out.now.items c.args.line.now c.args.start));
  room = c.requires;
  behind = behind_itself c.args.out.now.items;
}

pub loop-number-preserved : goal.loop-number-preserved
loop-number-preserved c =
    let first = drafted_text c.args.out.now.items c.args.line.now c.args.start in
    let before = drafted_text c.loop-number.out.items c.loop-number.line c.loop-number.at in
    let after = drafted_text c.put_cell.new.out.items c.put_cell.new.line c.in_ok-at.at in
    let numbers = c.args.numbers.now in
    let i = c.loop-number.number-index in
    let z : ℤ = get_or numbers i (pos 0) in
    let fits : SFits w128 z = search rules in
    let put : after ≡ before ++ 44 ∷ signed_decimal z = simp to_z-of_z at c.in_ok-at.ensures.ok in
    record {
      all = put ∙ ap (λ l. l ++ 44 ∷ signed_decimal z) c.loop-number.invariant.all ∙ flat_map_more (λ x. 44 ∷ signed_decimal x) first (take i numbers) z
          ∙ ap (λ l. first ++ cells l) (sym (take_more numbers i (pos 0) c.loop-number-test.true));
      room = c.in_ok-at.ensures.room;
      behind = behind_both c.args.out.now.items c.loop-number.out.items c.put_cell.new.out.items c.loop-number.invariant.behind c.put_cell.ensures.behind;
    }

pub returns-in_err-at-clause-behind : goal.returns-in_err-at-clause-behind
returns-in_err-at-clause-behind c = behind_both c.args.out.now.items c.loop-number.out.items c.put_cell.new.out.items c.loop-number.invariant.behind c.put_cell.ensures.behind

pub returns-clause-ok : goal.returns-clause-ok
returns-clause-ok c =
    let first = drafted_text c.args.out.now.items c.args.line.now c.args.start in
    c.loop-number.invariant.all ∙ ap (λ l. first ++ cells l) (take_all c.loop-number.number-index c.args.numbers.now c.loop-number-test.false)
