-- A task's own rows tell all that it gives.
use Rattle.std.proofs.Common.{◌≡◌, ◌≢◌, ℕ, [], ◌∙◌}
use Rattle.saber_plan.specs.declared.plans.Shape.{Shape}
use Rattle.saber_plan.specs.declared.plans.Shape.TheVariants.{Select, Group, Join}
use Rattle.saber_plan.specs.Trees.{Tree}
use Rattle.saber_plan.specs.Inputs.{Input}
use Rattle.saber_plan.specs.Answers.{way, by_way}
use Rattle.saber_plan.specs.Shares.{Shares, shares_here, handed_here}
use Rattle.saber_fragment.specs.Drafts.{Sight, IsSightOf}
use Rattle.saber_laws.specs.Shares.{Between}
use Rattle.saber_laws.proofs.LocalLaws.{shares_are_local, handed_are_local}
use Rattle.saber_parts.specs.Taking.{IsGiven}
use Rattle.saber_select.specs.Sights.{Gives}

no_join : (s : Shape) → s ≡ Select → s ≢ Join
no_join Select e f = cc
no_join Group e f = cc
no_join Join e f = cc

between : (q : Tree) (s : Sight) (r : Input) (x y : ℕ) → IsSightOf q s r x y → Between q r x y
between q s r x y of = record { fits = of.windows; ordered = of.fits.ordered; rises = of.rises }

pub gives_between : (q : Tree) → q.shape ≡ Select → (shares : Shares) (s : Sight) (r : Input) (x y : ℕ) → Gives q shares s → IsSightOf q s r x y → IsGiven q shares r x y
gives_between q e shares s r x y gives of =
    let given = (λ j. shares_here q (of.before_is j) [] (of.rows_are j) (of.ended_is j)) ∙ shares_are_local q r x y (between q s r x y of) (no_join q.shape e) in
    let handed = (λ j. handed_here q (of.before_is j) [] (of.rows_are j) (of.ended_is j)) ∙ handed_are_local q r x y (between q s r x y of) (no_join q.shape e) in
    gives.is ∙ (λ j. by_way (way q) (given j) (given j) (λ change. handed j))
