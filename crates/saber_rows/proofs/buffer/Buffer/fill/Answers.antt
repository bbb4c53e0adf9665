use Rattle.std.proofs.Common.{arith, ap, ◌∙◌, ◌≤◌, ◌+◌, ◌-◌, length, length-take, slice_range}
use Rattle.saber_rows.proofs.BufferLemmas.{gained, kept}
use Rattle.saber_rows.proofs.buffer.Buffer.fill.Goals as goal

pub returns-in-Err-clause-stands : goal.returns-in-Err-clause-stands
returns-in-Err-clause-stands g c =
    let h = c.make_room.new.self in
    let inside : h.end ≤ length c.deref_mut.result.now = omega (arith, h.inside, h.sized, c.deref_mut.ensures.len) in
    (kept c.deref_mut.result.now c.read.new.buf _ _ h.at h.end h.buf.len h.ordered inside (omega (arith, h.inside, h.sized)) ∙ ap (λ b. slice_range b h.at h.end) c.deref_mut.ensures.value ∙ c.make_room.ensures.same, c.in-Err.ensures.stands)

pub returns-in-Ok-clause-bytes : goal.returns-in-Ok-clause-bytes
returns-in-Ok-clause-bytes g c =
    let h = c.make_room.new.self in
    let inside : h.end ≤ length c.deref_mut.result.now = omega (arith, h.inside, h.sized, c.deref_mut.ensures.len) in
    let few : c.in-Ok.n ≤ length c.read.new.buf = omega (arith, c.in-Ok.ensures.within, c.read.auto.buf) in
    let room : c.in-Ok.n ≤ 4096 = omega (arith, c.in-Ok.ensures.within, length-take (h.end + 4096 - h.end) c.deref_mut.result.now) in
    gained c.deref_mut.result.now c.read.new.buf _ _ h.at h.end h.buf.len h.ordered inside c.in-Ok.n _ _ _ few (omega (arith, h.sized, c.make_room.ensures.room, room)) (ap (λ b. slice_range b h.at h.end) c.deref_mut.ensures.value ∙ c.make_room.ensures.same) c.in-Ok.ensures.bytes
