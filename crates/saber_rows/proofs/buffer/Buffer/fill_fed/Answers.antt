use Rattle.std.proofs.Common.{arith, ap, sym, ◌∙◌, ◌≤◌, ◌+◌, ◌-◌, Some, take, length, length-take, slice_range}
use Rattle.saber_io.specs.Outside.{left_before}
use Rattle.saber_rows.proofs.BufferLemmas.{gained, kept}
use Rattle.saber_rows.proofs.FedReads.{resized, fed_given, fed_fits, fed_tells}
use Rattle.saber_rows.proofs.buffer.Buffer.fill_fed.Goals as goal

pub returns-in-Err-clause-cut : goal.returns-in-Err-clause-cut
returns-in-Err-clause-cut g c =
    let h = c.make_room.new.self in
    let inside : h.end ≤ length c.deref_mut.result.now = omega (arith, h.inside, h.sized, c.deref_mut.ensures.len) in
    (kept c.deref_mut.result.now c.feed.new.buf _ _ h.at h.end h.buf.len h.ordered inside (omega (arith, h.inside, h.sized)) ∙ ap (λ b. slice_range b h.at h.end) c.deref_mut.ensures.value ∙ c.make_room.ensures.same, c.in-Err.ensures.failed)

pub returns-in-Ok-clause-bytes : goal.returns-in-Ok-clause-bytes
returns-in-Ok-clause-bytes g c =
    let h = c.make_room.new.self in
    let n = c.size_fed.result in
    let inside : h.end ≤ length c.deref_mut.result.now = omega (arith, h.inside, h.sized, c.deref_mut.ensures.len) in
    let fits = fed_fits c.in-Ok.fed _ _ _ c.feed.new.buf c.in-Ok.ensures.ok in
    let few : n ≤ length c.feed.new.buf = omega (arith, fits, c.size_fed.ensures) in
    let room : n ≤ 4096 = omega (arith, few, c.feed.auto.buf, length-take (h.end + 4096 - h.end) c.deref_mut.result.now) in
    let left = fed_given c.in-Ok.fed _ _ _ c.feed.new.buf c.in-Ok.ensures.ok ∙ ap (λ n. left_before (take n c.feed.new.buf) (Some (g.F.Feed.waiting c.feed.new.self))) (sym c.size_fed.ensures) in
    resized _ _ _ _ _ _ c.size_fed.ensures
    (gained c.deref_mut.result.now c.feed.new.buf _ _ h.at h.end h.buf.len h.ordered inside n _ _ _ few (omega (arith, h.sized, c.make_room.ensures.room, room)) (ap (λ b. slice_range b h.at h.end) c.deref_mut.ensures.value ∙ c.make_room.ensures.same) left)

pub returns-in-Ok-clause-tells : goal.returns-in-Ok-clause-tells
returns-in-Ok-clause-tells g c =
    let h = c.make_room.new.self in
    let few : length c.feed.new.buf ≤ 4096 = omega (arith, c.feed.auto.buf, length-take (h.end + 4096 - h.end) c.deref_mut.result.now) in
    fed_tells c.in-Ok.fed _ _ _ c.feed.new.buf few c.in-Ok.ensures.ok
