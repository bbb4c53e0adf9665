use Rattle.std.proofs.Common.{◌-◌, ◌∙◌, sym, ap, ap₂, ◌+ℤ◌, subst₂, pos, get_or, rules, to_z-of_z, arith}
use mir.Val.{SFits}
use mir.Syntax.{w128}
use Rattle.saber_plan.specs.declared.plans.Fold.TheVariants.{Sum}
use Rattle.saber_plan.specs.Answers.{step}
use Rattle.saber_partial.specs.Gathering.{FitsStep}
use Rattle.saber_partial.specs.Printing.{joined_row}
use Rattle.saber_partial.proofs.RowNumbers.{held, sum_held}
use Rattle.saber_partial.proofs.Shown.{worth, past_both, key_of_both, count_of_both, value_of_both, step_of_both}
use Rattle.saber_partial.proofs.printed.number_of_both.Goals as goal

pub returns-then-place-row : goal.returns-then-place-row
returns-then-place-row c =
    let l = c.args.layout.now in
    let xs = c.args.row.now in
    let ys = c.args.later.now in
    let past = c.if-place-row.true in
    past_both l xs ys c.requires.layout c.requires.mine c.requires.theirs c.requires.can c.place_of-place.result past
    ∙ worth c.args.item.now c.place_of-place.result (joined_row l xs ys) c.place_of-place.ensures

pub returns-then-place-count : goal.returns-then-place-count
returns-then-place-count c =
    let l = c.args.layout.now in
    let xs = c.args.row.now in
    let ys = c.args.later.now in
    let i = c.place_of-place.result in
    let fits : SFits w128 (get_or xs i (pos 0)) = search rules in
    to_z-of_z fits
    ∙ key_of_both l xs ys c.requires.layout c.requires.mine c.requires.theirs c.requires.can i c.if-place-count.true
    ∙ worth c.args.item.now i (joined_row l xs ys) c.place_of-place.ensures

pub returns-then-place-count-2 : goal.returns-then-place-count-2
returns-then-place-count-2 c =
    let l = c.args.layout.now in
    let xs = c.args.row.now in
    let ys = c.args.later.now in
    let i = c.place_of-place.result in
    let same = c.if-place-count-2.true in
    let mine = c.requires.mine.count in
    let theirs = c.requires.theirs.count in
    ap (λ j. held (held (get_or xs j (pos 0)) +ℤ held (get_or ys j (pos 0)))) same
    ∙ sum_held (get_or xs l.keys (pos 0)) (get_or ys l.keys (pos 0)) mine theirs c.requires.can.counts
    ∙ ap (λ z. get_or xs l.keys (pos 0) +ℤ z) theirs
    ∙ count_of_both l xs ys c.requires.layout c.requires.mine c.requires.theirs c.requires.can
    ∙ ap (λ j. get_or (joined_row l xs ys) j (pos 0)) (sym same)
    ∙ worth c.args.item.now i (joined_row l xs ys) c.place_of-place.ensures

pub step-requires : goal.step-requires
step-requires c =
    let l = c.args.layout.now in
    let xs = c.args.row.now in
    let ys = c.args.later.now in
    let i = c.place_of-place.result in
    let a = c.if-place-row.false in
    let b = c.if-place-count.false in
    let d = c.if-place-count-2.false in
    let mine : SFits w128 (get_or xs i (pos 0)) = search rules in
    let theirs : SFits w128 (get_or ys i (pos 0)) = search rules in
    subst₂ (FitsStep (get_or l.folds (i - l.keys - 1) Sum)) (sym (to_z-of_z mine)) (sym (to_z-of_z theirs))
    (step_of_both l xs ys c.requires.layout c.requires.mine c.requires.theirs c.requires.can i (omega (arith, b, d)) (omega (arith, a)))

pub returns : goal.returns
returns c =
    let l = c.args.layout.now in
    let xs = c.args.row.now in
    let ys = c.args.later.now in
    let i = c.place_of-place.result in
    let a = c.if-place-row.false in
    let b = c.if-place-count.false in
    let d = c.if-place-count-2.false in
    let mine : SFits w128 (get_or xs i (pos 0)) = search rules in
    let theirs : SFits w128 (get_or ys i (pos 0)) = search rules in
    let fits : SFits w128 c.step.result = search rules in
    to_z-of_z fits ∙ c.step.ensures
    ∙ ap₂ (step (get_or l.folds (i - l.keys - 1) Sum)) (to_z-of_z mine) (to_z-of_z theirs)
    ∙ value_of_both l xs ys c.requires.layout c.requires.mine c.requires.theirs c.requires.can i (omega (arith, b, d)) (omega (arith, a))
    ∙ worth c.args.item.now i (joined_row l xs ys) c.place_of-place.ensures
