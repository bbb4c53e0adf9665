use Rattle.std.proofs.Common.{◌≡◌, ◌<◌, length, get_or, sym, subst, arith}
use Rattle.std.proofs.lemmas.List.{drop_more}
use Rattle.std.proofs.lemmas.Option.{get_or_from_slice_get}
use Rattle.std.specs.List.{AllByRecursion}
use Rattle.saber_plan.specs.Trees.{tree_of}
use Rattle.saber_plan.specs.GivenRows.{IsRowOf}
use Rattle.saber_select.proofs.Lined.{row_written}
use Rattle.saber_select.proofs.select.Select.write_rows.Goals as goal

pub loop-i-preserved : goal.loop-i-preserved
loop-i-preserved c =
    let q = tree_of c.args.self.now in
    let rows = c.args.rows.now in
    let k = c.loop-i.i in
    let x = c.row.result in
    let below : k < length rows = omega (arith, c.loop-i-test.true) in
    let is : get_or rows k x ≡ x = get_or_from_slice_get rows k x x (sym c.row.ensures) in
    record {
      fit = (subst (AllByRecursion (IsRowOf q)) (drop_more rows k x below) c.loop-i.invariant.fit).1;
      all = row_written q c.loop-i.out.items _ c.write_row.new.out.items rows k x below (sym is) c.loop-i.invariant.all c.in_ok-write_row.ensures;
    }
