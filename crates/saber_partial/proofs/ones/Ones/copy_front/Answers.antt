use Rattle.std.proofs.Common.{length, map, take, ap, sym, ◌∙◌, arith}
use Rattle.std.proofs.lemmas.List.{length-map, take-map}
use Rattle.saber_plan.specs.Parts.{Part}
use Rattle.saber_partial.specs.Sorted.{alone}
use Rattle.saber_partial.proofs.ones.Ones.copy_front.Goals as goal

pub copy_front-requires : goal.copy_front-requires
copy_front-requires c =
    let low = c.requires in
    let count = length-map c.self.inside.groups.entries alone in
    let same = ap (length {A = Part}) c.self.view_is in
    omega (arith, low, count, same)

pub returns : goal.returns
returns c = ap (λ (es : _). map alone es) c.in_ok-groups.ensures.all ∙ sym (take-map alone c.args.count c.self.inside.groups.entries) ∙ ap (λ (ps : _). take c.args.count ps) c.self.view_is
