use Rattle.std.proofs.Common.{◌≡◌, ◌++◌, ◌∷◌, [], w64, SFits, rules, to_z-of_z}
use Rattle.saber_flat.proofs.PlaceFacts.{one_put}
use Rattle.saber_flat.proofs.builder.RowBuilder.put.Goals as goal

pub returns-clause-ok : goal.returns-clause-ok
returns-clause-ok c =
    let fits : SFits w64 c.args.number = search rules in
    let items : c.push.new.self.items ≡ c.self.inside.numbers.items ++ c.args.number ∷ [] = simp to_z-of_z at c.in_ok-push.ensures.items in
    one_put c.self.inside.numbers.items c.push.new.self.items c.args.number c.self.inside.places.items c.self.inside.from c.args.self.now c.self.invariant.1 c.self.invariant.0
    items c.self.view_is
