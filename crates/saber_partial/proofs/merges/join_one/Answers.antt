use Rattle.std.proofs.Common.{◌≡◌, ◌<◌, List, ℤ, sym, ap, ◌∙◌, length, get_or, subst, arith}
use Rattle.std.proofs.Math.ListN.{set}
use Rattle.saber_plan.specs.Parts.{Numbers, join_numbers}
use Rattle.saber_partial.specs.Flat.{entry_in}
use Rattle.saber_partial.specs.Tallies.{CanJoin}
use Rattle.saber_partial.proofs.Rising.{read_alike, same_at}
use Rattle.saber_partial.proofs.Weaving.{joined_alone}
use Rattle.saber_partial.proofs.merges.join_one.Goals as goal

pub join-requires-clause-can : goal.join-requires-clause-can
join-requires-clause-can c = λ d.
    let es = c.args.groups.now.entries in
    let fs = c.args.others.now.entries in
    let low : 0 < length es = omega (arith, c.requires.one) in
    let w = same_at es fs 0 d d c.requires.same low in
    let theirs : get_or fs 0 d ≡ entry_in c.args.groups.now.layout c.row.result.now =
    sym (read_alike _ _ c.row.result.now _ c.requires.alike (c.row.ensures.entry d)) in
    subst (λ (b : List ℤ × Numbers). CanJoin (get_or es 0 d).1 b.1) theirs (c.requires.can.at 0 0 d d low w.0 w.1)

pub returns : goal.returns
returns c =
    let es = c.args.groups.now.entries in
    let fs = c.args.others.now.entries in
    let d = entry_in c.args.others.now.layout c.row.result.now in
    let theirs : entry_in c.args.groups.now.layout c.row.result.now ≡ get_or fs 0 d =
    read_alike _ _ c.row.result.now _ c.requires.alike (c.row.ensures.entry d) in
    let new = c.join.ensures.joined d ∙ ap (λ (y : List ℤ × Numbers). set es 0 ((get_or es 0 d).0, join_numbers (get_or es 0 d).1 y.1)) theirs in
    new ∙ joined_alone es fs d c.requires.one (same_at es fs 0 d d c.requires.same (omega (arith, c.requires.one))).0
