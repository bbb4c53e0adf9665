use Rattle.std.proofs.Common.{rules, arith, refl, sym, ap, ◌∙◌, ◌≡◌, ℕ, ◌+◌, ◌*◌, ◌%◌, ◌≤◌, subst}
use Rattle.saber_ring.specs.Shows.{live}
use Rattle.saber_ring.specs.Seats.{is_filling, is_lent}
use Rattle.saber_ring.specs.Calls.{after_fill}
use Rattle.saber_ring.specs.Plays.{turn_behind, looked, looked_turn, stored}
use Rattle.saber_ring.proofs.PhaseFacts.{some_same}
use Rattle.saber_ring.proofs.Moves.{looks_at_cell, fills_cell}
use Rattle.saber_ring.proofs.Turns.{sees_the_room}
use Rattle.saber_ring.proofs.Carries.{carried_still}
use Rattle.saber_ring.proofs.Calls.{next_lead, covered, fill_done}
use Rattle.saber_ring.proofs.seat.Seat.fill.Goals as goal

pub load-found-requires : goal.load-found-requires
load-found-requires g c = let z = c.args.ring.now.sized in (
  search rules,
  first_of (search rules, omega arith),
  looks_at_cell g.W.Work.is_told g.W.Work.upto g.W.Work.first g.W.Work.is_rows g.W.Work.is_piece g.W.Work.is_stage _ _ _ _ _ c.args.t (λ i. c.args.t % sym z.2 i + 1),
)

pub load-turn-requires : goal.load-turn-requires
load-turn-requires g c = let z = c.args.ring.now.sized in (
  search rules,
  first_of (search rules, omega arith),
  sees_the_room g.W.Work.is_told g.W.Work.upto g.W.Work.first g.W.Work.is_rows g.W.Work.is_piece g.W.Work.is_stage _ g.W.Work.early _ _ _,
)

pub returns-then-first-ring-clause-told : goal.returns-then-first-ring-clause-told
returns-then-first-ring-clause-told g c =
    let old = c.args.self.now in let v = old.place.me in let t : ℕ = c.args.t in let l = next_lead g.W.Work.is_told g.W.Work.filled g.W.Work.is_rows t c.args.block v.0.lead c.requires.next in
    let f = c.load-found.ensures.2 in let e = c.load-turn.ensures.2 in let cov = covered g.W.Work.upto g.W.Work.first t c.args.frees.now v.0.seen v.0.lead l.0 l.1 c.requires.frees in
    let seen : v.0.seen ≤ turn_behind c.load-turn.result = subst (λ z. z ≤ turn_behind c.load-turn.result) (ap (λ m. m.0.seen) f) e.1 in let room = e.2 l.0 (ap (λ m. m.0.lead) f ∙ l.1) in let below = room.0 in let next = l.2 in let low = cov.0 in
    let value = c.first.ensures ∙ cov.2 (turn_behind c.load-turn.result) (omega arith) (omega arith) in let full = c.if-first-ring.true in
    (l.0, l.1, refl, seen, (omega arith), ap (λ m. m.0) e.0 ∙ (λ k. looked_turn (f k).0 c.load-turn.result) ∙ (λ k. looked_turn (looked v.0 (t % c.args.ring.now.size + 1) (c.if-found-idle.false k)) c.load-turn.result), (omega arith, room.1))

pub compare_exchange-found-requires : goal.compare_exchange-found-requires
compare_exchange-found-requires g c = let z = c.args.ring.now.sized in
    let old = c.args.self.now in let v = old.place.me in let t : ℕ = c.args.t in let l = next_lead g.W.Work.is_told g.W.Work.filled g.W.Work.is_rows t c.args.block v.0.lead c.requires.next in
    let f = c.load-found.ensures.2 in let e = c.load-turn.ensures.2 in let q = c.put_block.ensures.told in let same : l.0 ≡ q.0 = some_same l.0 q.0 (sym l.1 ∙ sym (ap (λ m. m.0.lead) f) ∙ sym (ap (λ m. m.0.lead) e.0) ∙ q.1) in let told : g.row.W-Data.Denot = g.W.Work.filled q.0.told c.args.block in
    let next : t ≡ q.0.filled = sym l.2 ∙ ap (λ y. y.filled) same in (
      search rules,
      first_of (search rules, omega arith),
      fills_cell g.W.Work.is_told g.W.Work.upto g.W.Work.first g.W.Work.is_rows g.W.Work.is_piece g.W.Work.is_stage _ g.W.Work.early _ _ _ _ _ _ (stored q.0 told) told (λ k. next k % sym z.2 k + 1) (ap (λ (y : ℕ). 8 * y) next) (ap (λ (y : ℕ). 8 * y + 2) next) (ap (λ m. m.0.lead) q.2) refl (let b = c.requires.below in omega arith)
          (ap (λ m. live m.0.base) q.2 ∙ ap (λ m. live m.0.base) e.0 ∙ ap (λ m. live m.0.base) f ∙ old.alive),
    )

pub unreachable-requires : goal.unreachable-requires
unreachable-requires g c =
    let q = c.put_block.ensures.told in let told : g.row.W-Data.Denot = g.W.Work.filled q.0.told c.args.block in
    c.if-found-idle-2.true (c.compare_exchange-found.ensures.2 (stored q.0 told) told (ap (λ m. m.0.lead) q.2) refl).0

pub invariant_of-self-2 : goal.invariant_of-self-2
invariant_of-self-2 g c =
    let old = c.args.self.now in let v = old.place.me in let t : ℕ = c.args.t in let l = next_lead g.W.Work.is_told g.W.Work.filled g.W.Work.is_rows t c.args.block v.0.lead c.requires.next in
    let f = c.load-found.ensures.2 in let e = c.load-turn.ensures.2 in let q = c.put_block.ensures.told in let same : l.0 ≡ q.0 = some_same l.0 q.0 (sym l.1 ∙ sym (ap (λ m. m.0.lead) f) ∙ sym (ap (λ m. m.0.lead) e.0) ∙ q.1) in let told : g.row.W-Data.Denot = g.W.Work.filled q.0.told c.args.block in
    let x = c.compare_exchange-found.ensures in let y = x.2 (stored q.0 told) told (ap (λ m. m.0.lead) q.2) refl in
    let d = fill_done g.W.Work.filled c.args.ring.now.size t c.load-turn.result c.load-found.result c.compare_exchange-found.result v c.load-found.new.seat.me c.load-turn.new.seat.me c.put_block.new.place.me c.compare_exchange-found.new.seat.me l.0 q.0 c.args.block f c.if-found-idle.false e.0 (sym same) q.2 y.1 y.0 in
    record {
      alive = ap (λ m. live m.0.base) d ∙ old.alive;
      calm = ap (λ m. is_filling m.0.lead) d;
      reads = ap (λ m. m.0.block) d ∙ old.reads;
      lent = ap (λ m. is_lent m.0.block m.0.job) d ∙ old.lent;
      carried = carried_still v _ _ _ (x.0 ∙ c.put_block.ensures.same ∙ c.load-turn.ensures.0 ∙ c.load-found.ensures.0) (after_fill c.args.ring.now.size t c.load-turn.result l.0 (g.W.Work.filled l.0.told c.args.block) v.0) d refl refl refl old.carried;
    }

pub returns-clause-told : goal.returns-clause-told
returns-clause-told g c =
    let old = c.args.self.now in let v = old.place.me in let t : ℕ = c.args.t in let l = next_lead g.W.Work.is_told g.W.Work.filled g.W.Work.is_rows t c.args.block v.0.lead c.requires.next in
    let f = c.load-found.ensures.2 in let e = c.load-turn.ensures.2 in let cov = covered g.W.Work.upto g.W.Work.first t c.args.frees.now v.0.seen v.0.lead l.0 l.1 c.requires.frees in
    let seen : v.0.seen ≤ turn_behind c.load-turn.result = subst (λ z. z ≤ turn_behind c.load-turn.result) (ap (λ m. m.0.seen) f) e.1 in let room = e.2 l.0 (ap (λ m. m.0.lead) f ∙ l.1) in let below = room.0 in let next = l.2 in let low = cov.0 in
    let value = c.first.ensures ∙ cov.2 (turn_behind c.load-turn.result) (omega arith) (omega arith) in let q = c.put_block.ensures.told in let same : l.0 ≡ q.0 = some_same l.0 q.0 (sym l.1 ∙ sym (ap (λ m. m.0.lead) f) ∙ sym (ap (λ m. m.0.lead) e.0) ∙ q.1) in let told : g.row.W-Data.Denot = g.W.Work.filled q.0.told c.args.block in
    let x = c.compare_exchange-found.ensures in let y = x.2 (stored q.0 told) told (ap (λ m. m.0.lead) q.2) refl in
    let d = fill_done g.W.Work.filled c.args.ring.now.size t c.load-turn.result c.load-found.result c.compare_exchange-found.result v c.load-found.new.seat.me c.load-turn.new.seat.me c.put_block.new.place.me c.compare_exchange-found.new.seat.me l.0 q.0 c.args.block f c.if-found-idle.false e.0 (sym same) q.2 y.1 y.0 in
    let free = c.if-first-ring.false in (l.0, c.load-turn.result, l.1, seen, (omega arith), ap (λ m. m.0) d, (omega arith, room.1))
