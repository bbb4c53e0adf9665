use Rattle.std.proofs.Common.{map, ◌++◌, sym, subst}
use Rattle.saber_plan.specs.declared.plans.Plan.{Plan}
use Rattle.saber_plan.specs.Trees.{tree_of}
use Rattle.saber_plan.proofs.Appended.{behind_both}
use Rattle.saber_partition.specs.Pieces.{Follow, Followed}
use Rattle.saber_partition.specs.Stores.{kept_lists, made_of}
use Rattle.saber_partition.proofs.Taking.{old_rows, new_rows, rows_come, followed}
use Rattle.saber_partition.proofs.Asking.{asks_of}
use Rattle.saber_partition.proofs.partition.Partition.take_piece.Goals as goal

pub take_rows-requires-clause-come : goal.take_rows-requires-clause-come
take_rows-requires-clause-come g c =
    let q = tree_of c.self.inside.plan.now in
    let asks = asks_of (tree_of c.self.inside.plan.now) c.self.invariant.0 c.self.invariant.1 c.self.invariant.4 in
    let ps = map (made_of c.args.piece.parts) c.args.piece.rows.items in
    let m = kept_lists c.args.store.now in
    let (r, x, y, given) = c.requires.follow in
    let f = subst (λ (p : Plan). Follow (tree_of p) r x y ps c.args.piece.ended m) (sym c.self.view_is) given in
    (old_rows q asks r x y ps c.args.piece.ended m f, new_rows q asks r x y ps c.args.piece.ended m f, rows_come q asks r x y ps c.args.piece.ended m f)

pub take_end-requires-clause-asks : goal.take_end-requires-clause-asks
take_end-requires-clause-asks g c = asks_of (tree_of c.self.inside.plan.now) c.self.invariant.0 c.self.invariant.1 c.self.invariant.4

pub returns-clause-followed : goal.returns-clause-followed
returns-clause-followed g c r x y given =
    let q = tree_of c.self.inside.plan.now in
    let asks = asks_of (tree_of c.self.inside.plan.now) c.self.invariant.0 c.self.invariant.1 c.self.invariant.4 in
    let ps = map (made_of c.args.piece.parts) c.args.piece.rows.items in
    let ended = c.args.piece.ended in
    let m = kept_lists c.args.store.now in
    let f = subst (λ (p : Plan). Follow (tree_of p) r x y ps ended m) (sym c.self.view_is) given in
    let old = old_rows q asks r x y ps ended m f in
    let new = new_rows q asks r x y ps ended m f in
    let came = c.in_ok-take_rows.ensures.came old new (rows_come q asks r x y ps ended m f) in
    let before = c.args.out.now.items in
    let middle = c.take_rows.new.out.items in
    let after = c.take_end.new.out.items in
    let k = kept_lists c.take_end.new.store in
    subst (λ (p : Plan). Followed (tree_of p) r x y k before after) c.self.view_is
    (followed q asks r x y ps ended m f (kept_lists c.take_rows.new.store) k before middle after came
    (c.in_ok-take_end.ensures.came (old ++ new) came.taken))

pub returns-in_err-take_rows-clause-behind : goal.returns-in_err-take_rows-clause-behind
returns-in_err-take_rows-clause-behind g c = c.take_rows.ensures.behind

pub returns-in_err-take_end-clause-behind : goal.returns-in_err-take_end-clause-behind
returns-in_err-take_end-clause-behind g c = behind_both c.args.out.now.items c.take_rows.new.out.items c.take_end.new.out.items c.take_rows.ensures.behind c.take_end.ensures.behind

pub returns-clause-behind : goal.returns-clause-behind
returns-clause-behind g c = behind_both c.args.out.now.items c.take_rows.new.out.items c.take_end.new.out.items c.take_rows.ensures.behind c.take_end.ensures.behind
