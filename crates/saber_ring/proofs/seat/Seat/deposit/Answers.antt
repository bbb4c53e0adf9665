use Rattle.std.proofs.Common.{rules, arith, refl, sym, ap, ◌∙◌, ℕ, true, false, ◌+◌, ◌*◌, ◌%◌, ◌∷◌}
use Rattle.std.specs.Prelude.{None}
use Rattle.atomic_table.specs.Table.{rest}
use Rattle.atomic_table.specs.Seated.{TableId}
use Rattle.saber_ring.specs.declared.view.SlotValue.TheVariants.{Empty, Piece}
use Rattle.saber_ring.specs.Shows.{live}
use Rattle.saber_ring.specs.Seats.{is_filling, is_lent}
use Rattle.saber_ring.proofs.Moves.{deposits_cell}
use Rattle.saber_ring.proofs.Carries.{job_first, first_now}
use Rattle.saber_ring.proofs.Calls.{its_job, its_piece, piece_home, deposit_done, none_carried}
use Rattle.saber_ring.proofs.seat.Seat.deposit.Goals as goal

pub store-requires : goal.store-requires
store-requires g c = let z = c.args.ring.now.sized in let v = c.args.self.now.place.me in let x = c.exchange-left.ensures in let t : ℕ = c.args.job.task in
    let j = its_piece g.W.Work.is_piece t c.args.piece c.in-Some.piece v.0.job c.in-Some.is c.requires.has in (
      search rules,
      first_of (search rules, omega arith),
      deposits_cell g.W.Work.is_told g.W.Work.upto g.W.Work.first g.W.Work.is_rows g.W.Work.is_piece g.W.Work.is_stage _ _ _ _ _ _ j.0 false (Piece c.in-Some.piece)
          (ap (λ (y : ℕ). t % y + 1) (sym z.2) ∙ ap (λ (y : ℕ). y % c.args.ring.now.table.shared.key.size + 1) (sym j.2)) (ap (λ (y : ℕ). 8 * y + 4) (sym j.2)) (ap (λ m. m.0.job) x.3 ∙ j.1) (ap (λ m. m.0.block) x.3 ∙ c.requires.idle.0)
          (first_now v _ _ _ (Piece c.in-Some.piece) _ x.3) (ap (λ m. live m.0.base) x.3 ∙ c.args.self.now.alive) (piece_home g.W.Work.upto g.W.Work.is_rows g.W.Work.is_piece g.W.Work.is_stage j.0 c.in-Some.piece t j.2 j.3),
    )

pub invariant_of-self : goal.invariant_of-self
invariant_of-self g c = let z = c.args.ring.now.sized in let v = c.args.self.now.place.me in let x = c.exchange-left.ensures in let y = c.store.ensures in let t : ℕ = c.args.job.task in
    let j = its_piece g.W.Work.is_piece t c.args.piece c.in-Some.piece v.0.job c.in-Some.is c.requires.has in let i : ℕ = t % c.args.ring.now.size + 1 in
    let first = job_first v c.args.self.now.place.table_id.slots c.args.ring.now.size t i j.0 (ap (λ (k : TableId). k.slots) c.requires.own ∙ z.1) c.args.self.now.carried j.1 c.requires.idle.0 c.requires.idle.1 j.2 refl in
    let d = deposit_done v c.exchange-left.new.seat.me c.store.new.seat.me j.0 i (8 * t + 4) t false (Piece c.in-Some.piece) j.1 j.2 (ap (λ m. m.0) x.3) (ap (λ m. m.1) x.3 ∙ (λ k. (i, Piece c.in-Some.piece) ∷ rest (first k))) y.2 in
    record { alive = ap (λ m. live m.0.base) d ∙ c.args.self.now.alive; calm = ap (λ m. is_filling m.0.lead) d ∙ c.args.self.now.calm; reads = ap (λ m. m.0.block) d ∙ c.args.self.now.reads; lent = ap (λ m. is_lent m.0.block m.0.job) d ∙ (λ i. is_lent {T = g.row.W-Data.Denot} (c.requires.idle.0 i) None); carried = none_carried v c.store.new.seat.me _ i _ t false c.requires.idle.0 c.requires.idle.1 d }

pub store-requires-in-None : goal.store-requires-in-None
store-requires-in-None g c = let z = c.args.ring.now.sized in let v = c.args.self.now.place.me in let t : ℕ = c.args.job.task in
    let j = its_job g.W.Work.is_piece t c.args.piece v.0.job c.requires.has in let i : ℕ = t % c.args.ring.now.size + 1 in
    let first = job_first v c.args.self.now.place.table_id.slots c.args.ring.now.size t i j.0 (ap (λ (k : TableId). k.slots) c.requires.own ∙ z.1) c.args.self.now.carried j.1 c.requires.idle.0 c.requires.idle.1 j.2 refl in (
      search rules,
      first_of (search rules, omega arith),
      deposits_cell g.W.Work.is_told g.W.Work.upto g.W.Work.first g.W.Work.is_rows g.W.Work.is_piece g.W.Work.is_stage _ _ _ _ _ _ j.0 true Empty
          (ap (λ (y : ℕ). t % y + 1) (sym z.2) ∙ ap (λ (y : ℕ). y % c.args.ring.now.table.shared.key.size + 1) (sym j.2)) (ap (λ (y : ℕ). 8 * y + 6) (sym j.2)) j.1 c.requires.idle.0
          (first ∙ (λ k. (i, Empty) ∷ rest (sym first k))) c.args.self.now.alive (λ told e. refl),
    )

pub invariant_of-self-in-None : goal.invariant_of-self-in-None
invariant_of-self-in-None g c = let z = c.args.ring.now.sized in let v = c.args.self.now.place.me in let y = c.store-in-None.ensures in let t : ℕ = c.args.job.task in
    let j = its_job g.W.Work.is_piece t c.args.piece v.0.job c.requires.has in let i : ℕ = t % c.args.ring.now.size + 1 in
    let first = job_first v c.args.self.now.place.table_id.slots c.args.ring.now.size t i j.0 (ap (λ (k : TableId). k.slots) c.requires.own ∙ z.1) c.args.self.now.carried j.1 c.requires.idle.0 c.requires.idle.1 j.2 refl in
    let d = deposit_done v v c.store-in-None.new.seat.me j.0 i (8 * t + 6) t true Empty j.1 j.2 refl first y.2 in
    record { alive = ap (λ m. live m.0.base) d ∙ c.args.self.now.alive; calm = ap (λ m. is_filling m.0.lead) d ∙ c.args.self.now.calm; reads = ap (λ m. m.0.block) d ∙ c.args.self.now.reads; lent = ap (λ m. is_lent m.0.block m.0.job) d ∙ (λ i. is_lent {T = g.row.W-Data.Denot} (c.requires.idle.0 i) None); carried = none_carried v c.store-in-None.new.seat.me _ i _ t true c.requires.idle.0 c.requires.idle.1 d }
