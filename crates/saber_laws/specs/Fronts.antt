-- Laws of what was read so far, against all that is read in the end.
use Rattle.std.specs.Prelude.{◌≡◌, ℕ, List, [], ◌++◌, ◌⊎◌}
use Rattle.saber_plan.specs.declared.rows.Row.{Row}
use Rattle.saber_plan.specs.Rows.{Read, SideRules, cut, rows, whole}
use Rattle.saber_plan.specs.Inputs.{merged_read}

-- the first rows of a read: more may come behind them, or they are all of it
pub record IsFirstOf (a b : Read) : Type 0 where
  pub rest : List Row
  pub first : a.rows ++ rest ≡ b.rows
  pub ends : (a.end ≡ cut) ⊎ (a ≡ b)

-- all rows are their own first
abbrev pub AllAreFirst : Type 0
AllAreFirst = (a : Read) → IsFirstOf a a

-- the rows of whole lines are the first ones, whatever bytes follow
pub record FirstLines (s : SideRules) (bytes more : List ℕ) : Type 0 where
  pub at_end : IsFirstOf (whole s bytes) (rows s (bytes ++ more))
  pub going_on : IsFirstOf (whole s bytes) (whole s (bytes ++ more))

abbrev pub WholeLinesAreFirst : Type 0
WholeLinesAreFirst = (s : SideRules) (bytes more : List ℕ) → FirstLines s bytes more

-- the merge of the first rows of two reads are the first of their merge
abbrev pub MergesKeepFirst : Type 0
MergesKeepFirst = (l r l' r' : Read) → IsFirstOf l l' → IsFirstOf r r' → IsFirstOf (merged_read l r) (merged_read l' r')
