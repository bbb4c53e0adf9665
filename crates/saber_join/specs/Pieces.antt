-- What the windows of a task give to its piece.
use Rattle.std.specs.Prelude.{◌≡◌, ℕ, List}
use Rattle.saber_plan.specs.Trees.{Tree}
use Rattle.saber_plan.specs.Parts.{Part}
use Rattle.saber_plan.specs.Shares.{shares_here, handed_here}
use Rattle.saber_fragment.specs.Drafts.{Sight}
use Rattle.saber_window.specs.declared.bounds.Bounds.{Bounds}
use Rattle.saber_parts.specs.Entries.{given_by, handed_by}

-- these windows give what the task gives, and hand on what it hands on
pub record AreOfTask (q : Tree) (s : Sight) (b : Bounds) (es : List (ℕ × Part)) : Type 0 where
  pub give : given_by q b es ≡ shares_here q s.first s.back s.rows s.ended
  pub hand : handed_by b es ≡ handed_here q s.first s.back s.rows s.ended
