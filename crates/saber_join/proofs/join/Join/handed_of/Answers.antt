use Rattle.std.proofs.Common.{◌∙◌, ap}
use Rattle.saber_parts.specs.Entries.{handed_by}
use Rattle.saber_parts.specs.WindowFacts.{as_they_are}
use Rattle.saber_join.proofs.join.Join.handed_of.Goals as goal

pub returns : goal.returns
returns c s r x y seen whole of =
    c.in_ok-piece.ensures ∙ ap (handed_by c.in_ok-bounds.bounds) (as_they_are c.in_ok-bounds.windows.entries)
    ∙ (c.in_ok-bounds.ensures s seen whole).hand ∙ of.hands
