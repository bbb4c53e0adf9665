use Rattle.std.proofs.Common.{List, map, ap, subst}
use Rattle.std.specs.Vec.Iter.{into_iter_items}
use Rattle.saber_plan.specs.Trees.{tree_of}
use Rattle.saber_plan.proofs.Appended.{behind_itself, behind_both}
use Rattle.saber_partition.specs.declared.pieces.RowPiece.{RowPiece}
use Rattle.saber_partition.specs.Stores.{kept_lists, made_of}
use Rattle.saber_partition.proofs.Coming.{Along, along_nil, behind, next_row, along_can, along_more, along_done}
use Rattle.saber_partition.proofs.Stored.{all_given}
use Rattle.saber_partition.proofs.lists.take_rows.Goals as goal

pub loop-row-init : goal.loop-row-init
loop-row-init g c =
    let all = c.into_iter-row-iterator.ensures.into_iter_gives.0 in
    let q = tree_of c.args.plan.now in
    record {
      can = tt;
      finite = tt;
      along = λ xs rs come. along_nil q xs rs (map (made_of c.args.parts.now) c.args.rows.items) (map (made_of c.args.parts.now) (into_iter_items c.into_iter-row-iterator.result)) (kept_lists c.args.store.now) c.args.out.now.items (ap (map (made_of c.args.parts.now)) all) come;
      long = c.requires.long;
      behind = behind_itself c.args.out.now.items;
    }

pub take_row-requires-clause-comes : goal.take_row-requires-clause-comes
take_row-requires-clause-comes g c =
    let q = tree_of c.args.plan.now in
    let (xs, rs, come) = c.requires.come in
    let m = kept_lists c.loop-row.store in
    let start = kept_lists c.args.store.now in
    let ps = map (made_of c.args.parts.now) c.args.rows.items in
    let p = made_of c.args.parts.now c.in-Some.row in
    let left = map (made_of c.args.parts.now) (into_iter_items c.next.new.self) in
    let before = c.args.out.now.items in
    let out = c.loop-row.out.items in
    let a = subst (λ (l : List RowPiece). Along q xs rs (map (made_of c.args.parts.now) l) m before out) c.in-Some.ensures.steps.0 (c.loop-row.invariant.along xs rs come) in
    (behind q xs rs ps start come p left m before out a, next_row q xs rs ps start come p left m before out a, along_can q xs rs ps start come p left m before out a)

pub loop-row-preserved : goal.loop-row-preserved
loop-row-preserved g c =
    let q = tree_of c.args.plan.now in
    let m = kept_lists c.loop-row.store in
    let start = kept_lists c.args.store.now in
    let ps = map (made_of c.args.parts.now) c.args.rows.items in
    let p = made_of c.args.parts.now c.in-Some.row in
    let left = map (made_of c.args.parts.now) (into_iter_items c.next.new.self) in
    let before = c.args.out.now.items in
    let out = c.loop-row.out.items in
    record {
      can = tt;
      finite = tt;
      along = λ xs rs come.
          let a = subst (λ (l : List RowPiece). Along q xs rs (map (made_of c.args.parts.now) l) m before out) c.in-Some.ensures.steps.0 (c.loop-row.invariant.along xs rs come) in
          along_more q xs rs ps start come p left m before out a (kept_lists c.take_row.new.store) c.take_row.new.out.items
          (c.in_ok-take_row.ensures.came (behind q xs rs ps start come p left m before out a) (next_row q xs rs ps start come p left m before out a) (along_can q xs rs ps start come p left m before out a));
      long = c.in_ok-take_row.ensures.long;
      behind = behind_both c.args.out.now.items c.loop-row.out.items c.take_row.new.out.items c.loop-row.invariant.behind c.take_row.ensures.behind;
    }

pub returns-clause-came : goal.returns-clause-came
returns-clause-came g c xs rs come =
    let q = tree_of c.args.plan.now in
    let m = kept_lists c.loop-row.store in
    let none = all_given c.loop-row.row-iterator c.in-None.ensures.steps.0 in
    along_done q xs rs m c.args.out.now.items c.loop-row.out.items
    (subst (λ (l : List RowPiece). Along q xs rs (map (made_of c.args.parts.now) l) m c.args.out.now.items c.loop-row.out.items) none (c.loop-row.invariant.along xs rs come))

pub returns-in_err-take_row-clause-behind : goal.returns-in_err-take_row-clause-behind
returns-in_err-take_row-clause-behind g c = behind_both c.args.out.now.items c.loop-row.out.items c.take_row.new.out.items c.loop-row.invariant.behind c.take_row.ensures.behind

pub returns-clause-behind : goal.returns-clause-behind
returns-clause-behind g c = c.loop-row.invariant.behind
