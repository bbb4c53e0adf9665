use Rattle.std.proofs.Common.{◌≡◌, ◌<◌, length, take, get_or, sym, ◌∙◌, ap, arith}
use Rattle.std.proofs.lemmas.Option.{get_or_from_slice_get}
use Rattle.std.proofs.lemmas.List.{take_all}
use Rattle.saber_plan.specs.declared.rows.Side.TheVariants.{Left, Right}
use Rattle.saber_plan.specs.Windows.{mark_after}
use Rattle.saber_join.proofs.Passing.{left_with_left, left_with_right, right_with_left, right_with_right, is_mark}
use Rattle.saber_join.proofs.back.mark_before.Goals.{in-Left, in-Right}
use Rattle.saber_join.proofs.back.mark_before.Goals as goal

pub loop-i-preserved : goal.loop-i-preserved
loop-i-preserved c =
    let k = c.loop-i.i in
    let r = c.row.result in
    let rows = c.args.rows.now in
    let below : k < length rows = omega (arith, c.loop-i-test.true, c.len-i-end.ensures) in
    let at : get_or rows k r ≡ r = get_or_from_slice_get rows k r r (sym c.row.ensures) in
    let h = c.loop-i.invariant in
    let lefts = c.loop-i.lefts in
    let rights = c.loop-i.rights in
    let l = c.match-side.lefts in
    let n = c.match-side.rights in
    elim c.match-side.branch [
      | in-Left w ↦
          let side : r.side ≡ Left = sym c.side.ensures ∙ w.in-Left.is in
          record {
            few_lefts = omega (arith, h.few_lefts, w.lefts-is);
            few_rights = omega (arith, h.few_rights, w.rights-is);
            left = λ m. left_with_left rows k r below at m lefts l side w.lefts-is (h.left m);
            right = λ m. right_with_left rows k r below at m rights n side w.rights-is (h.right m);
          }
      | in-Right w ↦
          let side : r.side ≡ Right = sym c.side.ensures ∙ w.in-Right.is in
          record {
            few_lefts = omega (arith, h.few_lefts, w.lefts-is);
            few_rights = omega (arith, h.few_rights, w.rights-is);
            left = λ m. left_with_right rows k r below at m lefts l side w.lefts-is (h.left m);
            right = λ m. right_with_right rows k r below at m rights n side w.rights-is (h.right m);
          }
    ]

pub returns : goal.returns
returns c m after last =
    let rows = c.args.rows.now in
    let all : take c.loop-i.i rows ≡ rows = take_all c.loop-i.i rows (omega (arith, c.loop-i-test.false, c.len-i-end.ensures)) in
    is_mark c.args.after.now m rows c.loop-i.lefts c.loop-i.rights c.args.last after last (c.loop-i.invariant.left m ∙ ap (λ xs. (mark_after m xs).left) all) (c.loop-i.invariant.right m ∙ ap (λ xs. (mark_after m xs).right) all)
