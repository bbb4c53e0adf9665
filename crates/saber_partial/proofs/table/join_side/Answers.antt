use Rattle.std.proofs.Common.{List, ℤ, sym, ap, ◌∙◌, subst, subst₂, arith}
use Rattle.std.proofs.lemmas.List.{drop_at, length-append, take_at}
use Rattle.saber_plan.specs.Parts.{join_numbers}
use Rattle.saber_partial.specs.Flat.{entry_in, IsRow}
use Rattle.saber_partial.specs.Tallies.{CanJoin}
use Rattle.saber_partial.proofs.table.join_side.Goals as goal

pub join_row-requires-clause-mine : goal.join_row-requires-clause-mine
join_row-requires-clause-mine c = subst (IsRow c.args.layout.now) (sym c.split_at_mut-front.ensures.front) c.requires.mine

pub join_row-requires-clause-theirs : goal.join_row-requires-clause-theirs
join_row-requires-clause-theirs c = subst (IsRow c.args.layout.now) (sym c.split_at_mut-front.ensures.back) c.requires.theirs

pub join_row-requires-clause-can : goal.join_row-requires-clause-can
join_row-requires-clause-can c =
    let l = c.args.layout.now in
    subst₂ (λ (x y : List ℤ). CanJoin (entry_in l x).1 (entry_in l y).1) (sym c.split_at_mut-front.ensures.front) (sym c.split_at_mut-front.ensures.back) c.requires.can

pub returns-clause-long : goal.returns-clause-long
returns-clause-long c =
    let mine = c.join_row.ensures.row.long in
    let theirs = c.split_at_mut-front.ensures.back_len in
    let all = c.requires.long in
    let both = length-append c.join_row.new.xs c.split_at_mut-front.result.1.now in
    omega (arith, mine, theirs, all, both)

pub returns-clause-row : goal.returns-clause-row
returns-clause-row c =
    let l = c.args.layout.now in
    subst (IsRow l) (sym (take_at c.join_row.new.xs c.split_at_mut-front.result.1.now l.width c.join_row.ensures.row.long)) c.join_row.ensures.row

pub returns-clause-joined : goal.returns-clause-joined
returns-clause-joined c =
    let l = c.args.layout.now in
    let split = c.split_at_mut-front.ensures in
    ap (entry_in l) (take_at c.join_row.new.xs c.split_at_mut-front.result.1.now l.width c.join_row.ensures.row.long) ∙ c.join_row.ensures.joined
    ∙ (λ i. ((entry_in l (split.front i)).0, join_numbers (entry_in l (split.front i)).1 (entry_in l (split.back i)).1))

pub returns-clause-same : goal.returns-clause-same
returns-clause-same c =
    let l = c.args.layout.now in
    drop_at c.join_row.new.xs c.split_at_mut-front.result.1.now l.width c.join_row.ensures.row.long ∙ c.split_at_mut-front.ensures.back
