use Rattle.std.proofs.Common.{◌≡◌, [], sym, ◌∙◌, ap}
use Rattle.std.proofs.lemmas.Result.{IfOk-weaker}
use Rattle.saber_plan.specs.Answers.{Way, by_way}
use Rattle.saber_plan.specs.Shares.{shares_here, handed_here}
use Rattle.saber_plan.specs.Trees.{tree_of}
use Rattle.saber_fragment.specs.Drafts.{own_sight}
use Rattle.saber_fragment.specs.Shown.{shares_of}
use Rattle.saber_changes.specs.Outputs.{way_by}
use Rattle.saber_select.specs.Found.{part_of}
use Rattle.saber_select.specs.Sights.{Gives}
use Rattle.saber_select.proofs.windowed.WindowedSelect.given_of.Goals as goal

pub returns-in-None : goal.returns-in-None
returns-in-None c =
    let q = tree_of c.args.self.now in
    let b = c.args.own.now in
    IfOk-weaker c.piece_of.result (λ p. shares_of part_of p ≡ shares_here q b.before [] b.rows b.ended) (λ p. Gives q (shares_of part_of p) (own_sight b)) (λ p is. record {
      is = is ∙ sym (ap (λ (w : Way). by_way w (shares_here q b.before [] b.rows b.ended) (shares_here q b.before [] b.rows b.ended) (λ change. handed_here q b.before [] b.rows b.ended)) (c.requires.way ∙ ap way_by c.in-None.is));
    }) c.piece_of.ensures

pub returns-in-Some : goal.returns-in-Some
returns-in-Some c =
    let q = tree_of c.args.self.now in
    let b = c.args.own.now in
    IfOk-weaker c.handed_of.result (λ p. shares_of part_of p ≡ handed_here q b.before [] b.rows b.ended) (λ p. Gives q (shares_of part_of p) (own_sight b)) (λ p is. record {
      is = is ∙ sym (ap (λ (w : Way). by_way w (shares_here q b.before [] b.rows b.ended) (shares_here q b.before [] b.rows b.ended) (λ change. handed_here q b.before [] b.rows b.ended)) (c.requires.way ∙ ap way_by c.in-Some.is));
    }) c.handed_of.ensures
