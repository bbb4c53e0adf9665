use Rattle.std.proofs.Common.{◌≡◌, List, ℤ, sym, ap, ap₂, ◌∙◌, subst₂, get_or}
use Rattle.std.proofs.lemmas.List.{get_or_push}
use Rattle.std.proofs.Math.ListN.{set}
use Rattle.saber_plan.specs.Parts.{Numbers, join_numbers}
use Rattle.saber_partial.specs.Flat.{entry_in}
use Rattle.saber_partial.specs.Tallies.{CanJoin}
use Rattle.saber_partial.proofs.Weaving.{joined_last}
use Rattle.saber_partial.proofs.merges.push_joined.Goals as goal

pub join-requires-clause-can : goal.join-requires-clause-can
join-requires-clause-can c = λ d.
    let l = c.args.out.now.layout in
    let es = c.args.out.now.entries in
    let n = c.len-last.result in
    let one : get_or c.push.new.self.entries n d ≡ entry_in l c.args.row.now =
    ap (λ xs. get_or xs n d) c.in_ok-push.ensures.ok ∙ get_or_push es (entry_in l c.args.row.now) d n (sym c.len-last.ensures) in
    let two = ap (λ m. entry_in m c.args.later.now) c.push.ensures.layout in
    subst₂ (λ (a b : List ℤ × Numbers). CanJoin a.1 b.1) (sym one) (sym two) c.requires.can

pub returns-clause-all : goal.returns-clause-all
returns-clause-all c =
    let l = c.args.out.now.layout in
    let es = c.args.out.now.entries in
    let n = c.len-last.result in
    let e = entry_in l c.args.row.now in
    let two = ap (λ m. entry_in m c.args.later.now) c.push.ensures.layout in
    let written = λ (xs : List (List ℤ × Numbers)) (y : List ℤ × Numbers). set xs n ((get_or xs n e).0, join_numbers (get_or xs n e).1 y.1) in
    c.join.ensures.joined e ∙ ap₂ written c.in_ok-push.ensures.ok two ∙ joined_last es e e (entry_in l c.args.later.now).1 n c.len-last.ensures
