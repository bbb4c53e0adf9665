use Rattle.std.proofs.Common.{◌++◌, sym, ◌∙◌, ap}
use Rattle.saber_plan.specs.Trees.{tree_of}
use Rattle.saber_plan.specs.Inputs.{first_arrivals}
use Rattle.saber_partition.specs.Stores.{kept_lists}
use Rattle.saber_partition.proofs.Taking.{list_adds, keeps_rightly}
use Rattle.saber_partition.proofs.Asking.{asks_in}
use Rattle.saber_partition.proofs.operator.PartitionOperator.take_in.Goals as goal

pub take_piece-requires-clause-follow : goal.take_piece-requires-clause-follow
take_piece-requires-clause-follow c =
    let (r, x, y, f) = c.requires in
    (r, x, y, record { fits = f.fits; rises = f.rises; taken = f.taken_is.0; of_is = f.of_is })

pub take_piece-requires-clause-long : goal.take_piece-requires-clause-long
take_piece-requires-clause-long c =
    let (r, x, y, f) = c.requires in
    f.taken_is.1

pub returns-clause-taken : goal.returns-clause-taken
returns-clause-taken c r x y f = ((c.in_ok-take_piece.ensures.followed r x y (record { fits = f.fits; rises = f.rises; taken = f.taken_is.0; of_is = f.of_is })).taken, c.in_ok-take_piece.ensures.long)

pub returns-clause-stays : goal.returns-clause-stays
returns-clause-stays c r x y f =
    keeps_rightly (tree_of c.args.self.now) (asks_in c.args.self.now c.self.view_is c.self.invariant.0 c.self.invariant.1 c.self.invariant.4) (first_arrivals r y) (kept_lists c.take_piece.new.store)
    (c.in_ok-take_piece.ensures.followed r x y (record { fits = f.fits; rises = f.rises; taken = f.taken_is.0; of_is = f.of_is })).taken

pub returns-clause-text : goal.returns-clause-text
returns-clause-text c r x y f =
    let q = tree_of c.args.self.now in
    (c.in_ok-take_piece.ensures.followed r x y (record { fits = f.fits; rises = f.rises; taken = f.taken_is.0; of_is = f.of_is })).text
    ∙ ap (λ l. c.args.out.now.items ++ l) (sym (list_adds q (asks_in c.args.self.now c.self.view_is c.self.invariant.0 c.self.invariant.1 c.self.invariant.4) r x y))

pub returns-clause-behind : goal.returns-clause-behind
returns-clause-behind c = c.take_piece.ensures.behind

pub returns-in_err-take_piece-clause-behind : goal.returns-in_err-take_piece-clause-behind
returns-in_err-take_piece-clause-behind c = c.take_piece.ensures.behind
