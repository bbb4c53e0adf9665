use Rattle.std.proofs.Common.{◌∙◌, [], get_or, arith}
use Rattle.std.proofs.lemmas.List.{drop_more}
use Rattle.saber_plan.specs.Answers.{items_over}
use Rattle.saber_digits.specs.Cells.{drafted_text}
use Rattle.saber_partial.specs.Flat.{entry_in}
use Rattle.saber_plan.proofs.Appended.{behind_both}
use Rattle.saber_partial.proofs.Lined.{written_one}
use Rattle.saber_partial.proofs.Listed.{of_row}
use Rattle.saber_partial.proofs.lines.write_groups.Goals as goal

pub loop-i-preserved : goal.loop-i-preserved
loop-i-preserved c =
    let es = c.args.groups.now.entries in
    let i = c.loop-i.i in
    let items = c.args.items.now in
    let row = c.row.result.now in
    let l = c.args.groups.now.layout in
    let x = entry_in l row in
    let is = of_row items l row (get_or es i x) c.has_one_layout.ensures.layout c.row.ensures.row (c.row.ensures.entry x) in
    let long = c.len-i-end.ensures in
    let test = c.loop-i-test.true in
    let next = drop_more es i x (omega (arith, long, test)) in
    let before = drafted_text c.loop-i.out.items c.loop-i.draft c.loop-i.at in
    let after = drafted_text c.write_line.new.out.items c.write_line.new.draft c.in_ok-at.at in
    record {
      all = written_one c.args.heading.now.window items before after (items_over items row []) (get_or es i x) _ _ is next c.in_ok-at.ensures.ok
          ∙ c.loop-i.invariant.all;
      room = c.in_ok-at.ensures.room;
      behind = behind_both _ _ _ c.loop-i.invariant.behind c.write_line.ensures.behind;
    }
