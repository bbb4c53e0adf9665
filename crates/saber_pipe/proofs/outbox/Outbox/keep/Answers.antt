use Rattle.std.proofs.Common.{option_to_list, refl}
use Rattle.std.specs.Result.{is_ok}
use Rattle.saber_pipe.specs.declared.items.Item.{Item}
use Rattle.saber_pipe.proofs.Marks.{pushed_piece}
use Rattle.saber_pipe.proofs.outbox.Outbox.keep.Goals as goal

pub invariant_of-self-clause-pieces : goal.invariant_of-self-clause-pieces
invariant_of-self-clause-pieces g c =
    pushed_piece (is_ok c.push_back.result) (option_to_list c.args.self.now.first) c.args.self.now.rest.items c.push_back.new.self.items (Item.Piece c.in_ok-copy.copy) c.push_back.ensures.items c.args.self.now.pieces refl
