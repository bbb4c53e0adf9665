use Rattle.std.proofs.Common.{◌∙◌, ◌++◌, ◌∷◌, [], ap, append-nil, refl, rules, sym, to_z-of_z}
use Rattle.std.proofs.lemmas.List.{drop_all}
use mir.Val.{SFits}
use mir.Syntax.{w128}
use Rattle.std.specs.Fmt.{signed_decimal}
use Rattle.saber_digits.specs.Cells.{cells, drafted_text}
use Rattle.saber_plan.specs.Answers.{items_over}
use Rattle.saber_plan.specs.Facts.Lists.{all_at}
use Rattle.saber_partial.specs.Printing.{IsLone}
use Rattle.saber_plan.proofs.Appended.{behind_both}
use Rattle.saber_partial.proofs.Lined.{written_cell}
use Rattle.saber_partial.proofs.lines.write_cells.Goals as goal

pub number-requires : goal.number-requires
number-requires c = all_at IsLone c.args.items.now c.loop-item.item-index c.item-item.result c.loop-item-test.true c.item-item.is c.requires.items

pub loop-item-preserved : goal.loop-item-preserved
loop-item-preserved c =
    let fits : SFits w128 c.number.result = search rules in
    let before = drafted_text c.loop-item.out.items c.loop-item.draft c.loop-item.at in
    let cell = c.in_ok-at.ensures.ok ∙ ap (λ z. before ++ 44 ∷ signed_decimal z) (to_z-of_z fits) in
    let written = written_cell c.args.items.now c.loop-item.item-index c.item-item.result c.args.row.now c.number.result in
    record {
      all = written _ _ c.loop-item-test.true c.item-item.is c.number.ensures cell ∙ c.loop-item.invariant.all;
      room = c.in_ok-at.ensures.room;
      behind = behind_both _ _ _ c.loop-item.invariant.behind c.put_cell.ensures.behind;
    }

pub loop-item-init : goal.loop-item-init
loop-item-init c = record {
  all = refl;
  room = c.requires.start;
  behind = record { more = []; all = sym (append-nil c.args.out.now.items) };
}

pub returns-in_err-at-clause-behind : goal.returns-in_err-at-clause-behind
returns-in_err-at-clause-behind c = behind_both _ _ _ c.loop-item.invariant.behind c.put_cell.ensures.behind

pub returns-clause-ok : goal.returns-clause-ok
returns-clause-ok c =
    let last = drafted_text c.loop-item.out.items c.loop-item.draft c.loop-item.at in
    let none = drop_all c.loop-item.item-index c.args.items.now c.loop-item-test.false in
    sym (append-nil last)
    ∙ ap (λ is. last ++ cells (items_over is c.args.row.now [])) (sym none)
    ∙ c.loop-item.invariant.all
