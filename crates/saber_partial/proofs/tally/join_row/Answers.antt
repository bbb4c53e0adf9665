use Rattle.std.proofs.Common.{◌+◌, ◌≤◌, List, ℤ, drop, length, get_or, nat_abs, pos, sym, ◌∙◌, ap, ap₂, subst, subst₂, arith}
use Rattle.std.proofs.lemmas.Slice.{between_to_end}
use Rattle.saber_partial.specs.Gathering.{stepped_numbers, StepsFit}
use Rattle.saber_partial.proofs.Folded.{steps_fit}
use Rattle.saber_partial.proofs.RowNumbers.{as_long, behind_few, behind_write, entry_after, row_after, sum_held}
use Rattle.saber_partial.proofs.tally.join_row.Goals as goal

pub join_values-requires-clause-folds : goal.join_values-requires-clause-folds
join_values-requires-clause-folds c =
    let l = c.args.layout.now in
    let xs = c.args.xs.now in
    subst (λ (a : List ℤ). length a ≤ length l.folds) (sym (behind_write xs l.keys _)) (behind_few l xs c.requires.layout c.requires.mine)

pub join_values-requires-clause-long : goal.join_values-requires-clause-long
join_values-requires-clause-long c =
    let l = c.args.layout.now in
    let xs = c.args.xs.now in
    let ys = c.args.ys.now in
    ap length (behind_write xs l.keys _) ∙ as_long l xs ys c.requires.layout c.requires.mine c.requires.theirs c.requires.can
    ∙ sym (ap length (between_to_end ys (l.keys + 1) (length ys) (omega arith)))

pub join_values-requires-clause-fits : goal.join_values-requires-clause-fits
join_values-requires-clause-fits c =
    let l = c.args.layout.now in
    let xs = c.args.xs.now in
    let ys = c.args.ys.now in
    let mine = c.requires.mine in
    let theirs = c.requires.theirs in
    subst₂ (StepsFit l.folds) (sym (behind_write xs l.keys _)) (sym (between_to_end ys (l.keys + 1) (length ys) (omega arith)))
    (steps_fit (nat_abs (get_or xs l.keys (pos 0))) (nat_abs (get_or ys l.keys (pos 0))) l.folds (drop (l.keys + 1) xs) (drop (l.keys + 1) ys)
    c.requires.can.counts (behind_few l xs c.requires.layout mine) (as_long l xs ys c.requires.layout mine theirs c.requires.can) mine.tally.small theirs.tally.small)

pub returns-clause-row : goal.returns-clause-row
returns-clause-row c =
    let l = c.args.layout.now in
    let xs = c.args.xs.now in
    let ys = c.args.ys.now in
    row_after l xs (drop (l.keys + 1) ys) (nat_abs (get_or ys l.keys (pos 0))) c.requires.layout c.requires.mine
    (as_long l xs ys c.requires.layout c.requires.mine c.requires.theirs c.requires.can) c.requires.theirs.tally c.requires.can _ c.join_values.new.xs
    (sum_held (get_or xs l.keys (pos 0)) (get_or ys l.keys (pos 0)) c.requires.mine.count c.requires.theirs.count c.requires.can.counts)
    (c.join_values.ensures ∙ ap₂ (stepped_numbers l.folds) (behind_write xs l.keys _) (between_to_end ys (l.keys + 1) (length ys) (omega arith)))

pub returns-clause-joined : goal.returns-clause-joined
returns-clause-joined c =
    let l = c.args.layout.now in
    let xs = c.args.xs.now in
    let ys = c.args.ys.now in
    entry_after l xs (drop (l.keys + 1) ys) (nat_abs (get_or ys l.keys (pos 0))) c.requires.layout c.requires.mine
    (as_long l xs ys c.requires.layout c.requires.mine c.requires.theirs c.requires.can) c.requires.theirs.tally c.requires.can _ c.join_values.new.xs
    (sum_held (get_or xs l.keys (pos 0)) (get_or ys l.keys (pos 0)) c.requires.mine.count c.requires.theirs.count c.requires.can.counts)
    (c.join_values.ensures ∙ ap₂ (stepped_numbers l.folds) (behind_write xs l.keys _) (between_to_end ys (l.keys + 1) (length ys) (omega arith)))
