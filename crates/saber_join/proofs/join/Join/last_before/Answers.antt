use Rattle.std.proofs.Common.{◌≡◌, ◌<◌, ◌+◌, ◌-◌, length, take, get_or, sym, ◌∙◌, ap, refl, arith}
use Rattle.std.proofs.lemmas.Option.{get_or_from_slice_get}
use Rattle.saber_plan.specs.declared.windows.Mark.{Mark}
use Rattle.saber_plan.specs.Trees.{tree_of}
use Rattle.saber_plan.specs.Windows.{mark_after}
use Rattle.saber_plan.specs.Facts.Rows.{left_small, right_small, mark_more}
use Rattle.saber_join.proofs.join.Join.last_before.Goals as goal

pub step-requires-clause-left : goal.step-requires-clause-left
step-requires-clause-left c = left_small (tree_of c.args.self.now) c.args.before.now c.args.before.now c.args.rows.now 0 c.requires.fits refl

pub step-requires-clause-right : goal.step-requires-clause-right
step-requires-clause-right c = right_small (tree_of c.args.self.now) c.args.before.now c.args.before.now c.args.rows.now 0 c.requires.fits refl

pub returns : goal.returns
returns c =
    let m = c.args.before.now in
    let rows = c.args.rows.now in
    let r = c.row.result in
    let k = c.args.from - 1 in
    let from : k + 1 ≡ c.args.from = omega (arith, c.if-from-eq0.false) in
    let below : k < length rows = omega (arith, c.if-from-eq0.false, c.requires.within) in
    let at : get_or rows k r ≡ r = get_or_from_slice_get rows k r r (sym c.row.ensures) in
    ap (λ (a : Mark). a.last) c.step.ensures
    ∙ ap (λ (a : Mark). a.last) (sym (mark_more m rows k r below (sym at)))
    ∙ ap (λ n. (mark_after m (take n rows)).last) from
