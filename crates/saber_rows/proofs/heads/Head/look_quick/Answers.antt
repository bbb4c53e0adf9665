use Rattle.std.proofs.Common.{◌≡◌, sym, ◌∙◌, ap, subst}
use Rattle.saber_plan.specs.Rows.{stamp}
use Rattle.saber_rows.specs.Heads.{head_view}
use Rattle.saber_rows.proofs.Fronts.{in_front, stays}
use Rattle.saber_rows.proofs.MergedRows.{LooksQuick}
use Rattle.saber_rows.proofs.heads.Head.look_quick.Goals as goal

pub returns-then-self-clause-some : goal.returns-then-self-clause-some
returns-then-self-clause-some c =
    let h = c.args.self.now in
    let same : c.stamp_of.result ≡ stamp h.row.values = c.stamp_of.ensures ∙ ap stamp c.as_slice.ensures in
    subst (λ n. LooksQuick n (head_view h) (head_view h)) (sym same) (λ left side last count p. stays h.row (head_view h) side last count left (in_front h.full h.row c.if-self.true) p)
