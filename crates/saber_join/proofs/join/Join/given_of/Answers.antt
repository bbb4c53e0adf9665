use Rattle.std.proofs.Common.{◌≡◌, ℕ, sym, ◌∙◌, ap}
use Rattle.std.proofs.lemmas.Result.{IfOk-weaker}
use Rattle.saber_plan.specs.Answers.{Way, by_way}
use Rattle.saber_plan.specs.Inputs.{Input}
use Rattle.saber_plan.specs.Shares.{shares_between, handed_between}
use Rattle.saber_plan.specs.Trees.{tree_of}
use Rattle.saber_fragment.specs.Drafts.{Sight, IsWhole, IsSightOf}
use Rattle.saber_fragment.specs.Shown.{shares_of}
use Rattle.saber_changes.specs.Outputs.{way_by}
use Rattle.saber_parts.specs.Taking.{given_between, IsGiven}
use Rattle.saber_join.specs.Sights.{HasSeen}
use Rattle.saber_join.proofs.join.Join.given_of.Goals as goal

pub returns-in-None : goal.returns-in-None
returns-in-None c =
    let q = tree_of c.args.self.now in
    let draft = c.args.draft.now in
    let here : (r : Input) (x y : ℕ) → shares_between q r x y ≡ given_between q r x y =
    λ r x y. sym (ap (λ (w : Way). by_way w (shares_between q r x y) (shares_between q r x y) (λ change. handed_between q r x y)) (c.requires.way ∙ ap way_by c.in-None.is)) in
    IfOk-weaker c.piece_of.result
    (λ p. (s : Sight) (r : Input) (x y : ℕ) → HasSeen q draft s → IsWhole q s → IsSightOf q s r x y → shares_of (λ part. part) p ≡ shares_between q r x y)
    (λ p. (s : Sight) (r : Input) (x y : ℕ) → HasSeen q draft s → IsWhole q s → IsSightOf q s r x y → IsGiven q (shares_of (λ part. part) p) r x y)
    (λ p is s r x y seen whole of. is s r x y seen whole of ∙ here r x y) c.piece_of.ensures

pub returns-in-Some : goal.returns-in-Some
returns-in-Some c =
    let q = tree_of c.args.self.now in
    let draft = c.args.draft.now in
    let here : (r : Input) (x y : ℕ) → handed_between q r x y ≡ given_between q r x y =
    λ r x y. sym (ap (λ (w : Way). by_way w (shares_between q r x y) (shares_between q r x y) (λ change. handed_between q r x y)) (c.requires.way ∙ ap way_by c.in-Some.is)) in
    IfOk-weaker c.handed_of.result
    (λ p. (s : Sight) (r : Input) (x y : ℕ) → HasSeen q draft s → IsWhole q s → IsSightOf q s r x y → shares_of (λ part. part) p ≡ handed_between q r x y)
    (λ p. (s : Sight) (r : Input) (x y : ℕ) → HasSeen q draft s → IsWhole q s → IsSightOf q s r x y → IsGiven q (shares_of (λ part. part) p) r x y)
    (λ p is s r x y seen whole of. is s r x y seen whole of ∙ here r x y) c.handed_of.ensures
