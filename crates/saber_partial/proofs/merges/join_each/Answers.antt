use Rattle.std.proofs.Common.{◌≡◌, ◌<◌, List, ℤ, sym, ap, ◌∙◌, length, get_or, subst₂, arith}
use Rattle.std.proofs.Math.ListN.{set}
use Rattle.saber_plan.specs.Parts.{Numbers, join_numbers}
use Rattle.saber_partial.specs.Flat.{entry_in}
use Rattle.saber_partial.specs.Tallies.{CanJoin}
use Rattle.saber_partial.proofs.Rising.{read_alike, same_at}
use Rattle.saber_partial.proofs.Weaving.{left_same, joined_long, joined_left, joined_done}
use Rattle.saber_partial.proofs.merges.join_each.Goals as goal

pub join-requires-clause-can : goal.join-requires-clause-can
join-requires-clause-can c = λ d.
    let i = c.loop-i.i in
    let gs = c.loop-i.groups.entries in
    let es = c.args.groups.now.entries in
    let fs = c.args.others.now.entries in
    let kept = c.loop-i.invariant in
    let low : i < length es = omega (arith, c.loop-i-test.true, c.len-i-end.ensures) in
    let w = same_at es fs i d d c.requires.same low in
    let mine : get_or es i d ≡ get_or gs i d = sym (left_same gs es i d kept.left kept.long low).0 in
    let theirs : get_or fs i d ≡ entry_in c.loop-i.groups.layout c.row.result.now =
    sym (read_alike _ _ c.row.result.now _ (kept.layout ∙ c.requires.alike) (c.row.ensures.entry d)) in
    subst₂ (λ (a b : List ℤ × Numbers). CanJoin a.1 b.1) mine theirs (c.requires.can.at i i d d low w.0 w.1)

pub loop-i-preserved : goal.loop-i-preserved
loop-i-preserved c =
    let i = c.loop-i.i in
    let gs = c.loop-i.groups.entries in
    let es = c.args.groups.now.entries in
    let fs = c.args.others.now.entries in
    let kept = c.loop-i.invariant in
    let d = entry_in c.args.others.now.layout c.row.result.now in
    let low : i < length es = omega (arith, c.loop-i-test.true, c.len-i-end.ensures) in
    let more = (same_at es fs i d d c.requires.same low).0 in
    let theirs : entry_in c.loop-i.groups.layout c.row.result.now ≡ get_or fs i d =
    read_alike _ _ c.row.result.now _ (kept.layout ∙ c.requires.alike) (c.row.ensures.entry d) in
    let new = c.join.ensures.joined d ∙ ap (λ (y : List ℤ × Numbers). set gs i ((get_or gs i d).0, join_numbers (get_or gs i d).1 y.1)) theirs in
    record {
      layout = c.join.ensures.layout ∙ kept.layout;
      long = joined_long gs c.join.new.self.entries es fs i d low more kept.long kept.left new;
      left = joined_left gs c.join.new.self.entries es fs i d low more kept.long kept.left new;
      done = joined_done gs c.join.new.self.entries es fs i d low more kept.long kept.left new ∙ kept.done;
    }
