use Rattle.std.proofs.Common.{◌∙◌, ap}
use Rattle.saber_plan.specs.Trees.{tree_of}
use Rattle.saber_parts.specs.Entries.{given_by}
use Rattle.saber_parts.specs.WindowFacts.{as_they_are}
use Rattle.saber_join.proofs.join.Join.piece_of.Goals as goal

pub returns : goal.returns
returns c s r x y seen whole of =
    c.in_ok-piece.ensures ∙ ap (given_by (tree_of c.args.self.now) c.in_ok-bounds.bounds) (as_they_are c.in_ok-bounds.windows.entries)
    ∙ (c.in_ok-bounds.ensures s seen whole).give ∙ of.gives
