use Rattle.std.proofs.Common.{◌≡◌, ◌++◌, ◌∙◌, ap}
use Rattle.std.proofs.lemmas.Result.{on_ok_weaker}
use Rattle.saber_flat.specs.Places.{closed_by}
use Rattle.saber_flat.proofs.PlaceFacts.{building, row_put}
use Rattle.saber_flat.proofs.builder.RowBuilder.push.Goals as goal

pub returns : goal.returns
returns c =
    let items : c.extend_from_slice.new.self.items ≡ c.self.inside.numbers.items ++ c.args.row.now.values = cc c.in_ok-extend_from_slice.ensures.items in
    let same = row_put c.self.inside.numbers.items c.extend_from_slice.new.self.items c.args.row.now c.self.inside.places.items c.self.inside.from c.args.self.now
    c.self.invariant.1 c.self.invariant.0 items c.self.view_is c.requires in
    let now = building c.extend_from_slice.new.self.items c.self.inside.places.items c.self.inside.from in
    record { ok = on_ok_weaker c.close.result (λ h. h ∙ ap (λ s. closed_by s now) c.side.ensures ∙ same) c.close.ensures.ok }
