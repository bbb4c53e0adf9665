use Rattle.std.proofs.Common.{◌∙◌, sym, ap}
use Rattle.std.specs.Option.{option_copied}
use Rattle.saber_places.specs.Numbering.{number_of}
use Rattle.saber_places.proofs.Numbering.{number_found}
use Rattle.saber_places.proofs.numbered.Numbered.seek.Goals as goal

pub returns-in-None-clause-number : goal.returns-in-None-clause-number
returns-in-None-clause-number c =
    let k = c.args.list.now.items in
    sym (ap option_copied c.in-None.is) ∙ c.get.ensures.value ∙ number_found k c.self.inside.order.entries ∙ c.self.invariant.found k ∙ ap (number_of k) c.self.view_is

pub returns-clause-number : goal.returns-clause-number
returns-clause-number c =
    let k = c.args.list.now.items in
    sym (ap option_copied c.in-Some.is) ∙ c.get.ensures.value ∙ number_found k c.self.inside.order.entries ∙ c.self.invariant.found k ∙ ap (number_of k) c.self.view_is
