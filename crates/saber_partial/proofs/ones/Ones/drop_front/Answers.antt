use Rattle.std.proofs.Common.{drop, length, map, ap, sym, ◌∙◌, arith}
use Rattle.std.proofs.lemmas.List.{drop-map, length-map}
use Rattle.saber_plan.specs.Parts.{Part}
use Rattle.saber_partial.specs.Sorted.{alone}
use Rattle.saber_partial.proofs.ones.Ones.drop_front.Goals as goal

pub drop_front-requires : goal.drop_front-requires
drop_front-requires c =
    let low = c.requires in
    let count = length-map c.self.inside.groups.entries alone in
    let same = ap (length {A = Part}) c.self.view_is in
    omega (arith, low, count, same)

pub returns : goal.returns
returns c = ap (λ (es : _). map alone es) c.drop_front.ensures.rest ∙ sym (drop-map alone c.args.count c.self.inside.groups.entries) ∙ ap (λ (ps : _). drop c.args.count ps) c.self.view_is
