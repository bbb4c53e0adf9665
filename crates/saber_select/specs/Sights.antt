-- What a draft has of its task's input: all of it, since a task's own rows are enough.
use Rattle.std.specs.Prelude.{◌≡◌, []}
use Rattle.saber_plan.specs.Trees.{Tree}
use Rattle.saber_plan.specs.Answers.{way, by_way}
use Rattle.saber_plan.specs.Shares.{Shares, shares_here, handed_here}
use Rattle.saber_fragment.specs.Drafts.{Sight}

-- what these rows give, or hand on, where what is printed of a window stands on the one before it
pub record Gives (q : Tree) (shares : Shares) (s : Sight) : Type 0 where
  pub is : shares ≡ by_way (way q) (shares_here q s.before [] s.rows s.ended) (shares_here q s.before [] s.rows s.ended) (λ change. handed_here q s.before [] s.rows s.ended)
