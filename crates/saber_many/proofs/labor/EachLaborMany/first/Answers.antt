use Rattle.std.proofs.Common.{◌∙◌, ap, sym, ◌≡◌, None, Some}
use Rattle.std.specs.Prelude.{slice_get}
use Rattle.saber_many.proofs.Lists.{some_rows, number_of, own_first}
use Rattle.saber_many.proofs.labor.EachLaborMany.first.Goals as goal

pub returns-in_default : goal.returns-in_default
returns-in_default g c told t is =
    let first : None ≡ slice_get c.args.own.now.items 0 = c.in_default.ensures.value ∙ ap (λ z. slice_get z 0) c.deref.ensures.value in
    absurd (some_rows g.W.Work.is_rows g.W.Shareable.is_alone told t c.args.own.now.items first is)

pub returns : goal.returns
returns g c told t is =
    let first : Some c.in-Some.own.now ≡ slice_get c.args.own.now.items 0 = c.in-Some.ensures.value ∙ ap (λ z. slice_get z 0) c.deref.ensures.value in
    number_of g.W.Work.is_rows g.W.Shareable.is_alone c.number.result c.in-Some.own.now c.number.ensures told t c.args.own.now.items first is
    ∙ sym (own_first g.W.Work.upto g.W.Work.first g.W.Work.is_rows g.W.Shareable.is_alone g.met.W.Shareable.needs_own told t c.args.own.now.items is)
