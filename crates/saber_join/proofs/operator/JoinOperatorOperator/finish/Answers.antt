use Rattle.std.proofs.Common.{ℕ, subst}
use Rattle.std.specs.Result.{IfOk}
use Rattle.saber_plan.specs.Inputs.{Input}
use Rattle.saber_plan.specs.Trees.{tree_of}
use Rattle.saber_fragment.specs.Drafts.{Sight, IsWhole, IsSightOf}
use Rattle.saber_fragment.specs.Shown.{shares_of}
use Rattle.saber_parts.specs.Taking.{IsGiven}
use Rattle.saber_join.specs.Sights.{HasSeen}
use Rattle.saber_join.proofs.operator.JoinOperatorOperator.finish.Goals as goal

pub given_of-piece-requires-clause-way : goal.given_of-piece-requires-clause-way
given_of-piece-requires-clause-way c = c.self.invariant

pub returns : goal.returns
returns c =
    subst (λ p. IfOk c.given_of-piece.result (λ piece. (s : Sight) (r : Input) (x y : ℕ) → HasSeen (tree_of p) c.args.draft s → IsWhole (tree_of p) s
    → IsSightOf (tree_of p) s r x y → IsGiven (tree_of p) (shares_of (λ part. part) piece) r x y)) c.self.view_is c.given_of-piece.ensures
