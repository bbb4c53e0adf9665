-- A task's text as its draft and its piece.
use Rattle.std.specs.Prelude.{◌≡◌, ℕ, List, []}
use Rattle.saber_plan.specs.Trees.{Tree}
use Rattle.saber_plan.specs.Answers.{selected_lines}
use Rattle.saber_plan.specs.Shares.{Shares}
use Rattle.saber_fragment.specs.Drafts.{Sight}

-- the lines of the task's own rows, whatever it looks back on
pub record IsTextOf (q : Tree) (text : List ℕ) (s : Sight) : Type 0 where
  pub is : text ≡ selected_lines q s.rows

-- a text, and no window's part
abbrev pub text_alone : List ℕ → Shares
text_alone text = record { closing = []; pending = []; opening = []; lines = text; closed = 0 }
