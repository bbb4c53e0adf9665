use Rattle.std.proofs.Common.{rules, arith, sym, ap, ◌∙◌, ℕ, ◌∷◌, ◌+◌, ◌*◌, ◌%◌}
use Rattle.atomic_table.specs.Table.{rest}
use Rattle.atomic_table.specs.Seated.{TableId}
use Rattle.saber_ring.specs.declared.view.SlotValue.TheVariants.{Empty}
use Rattle.saber_ring.specs.Shows.{live}
use Rattle.saber_ring.specs.Seats.{is_filling, is_lent}
use Rattle.saber_ring.proofs.Gives.{gives_cell}
use Rattle.saber_ring.proofs.Carries.{whole_out}
use Rattle.saber_ring.proofs.Calls.{its_turn, gave_carried}
use Rattle.saber_ring.proofs.seat.Seat.give.Goals as goal

pub store-requires : goal.store-requires
store-requires g c = let z = c.args.ring.now.sized in let p = c.args.self.now.place in let v = p.me in let k : ℕ = c.args.turn.now.behind in let h = its_turn k c.args.turn.now.state v.0.turn c.requires.turn.0 in let n : ℕ = c.args.ring.now.size in
    let out = whole_out v p.table_id.slots n (k % n + 1) h.0 (ap (λ (y : TableId). y.slots) c.requires.own ∙ z.1) c.args.self.now.carried h.1 (h.3 ∙ c.requires.turn.1) (ap (λ (y : ℕ). y % n + 1) (sym h.2)) in (
      search rules,
      first_of (search rules, omega arith),
      gives_cell g.W.Work.is_told g.W.Work.upto g.W.Work.first g.W.Work.is_rows g.W.Work.is_piece g.W.Work.is_stage _ _ _ _ _ _ h.0 (λ i. sym h.2 i % sym z.2 i + 1) (λ i. 8 * (sym h.2 i + sym z.2 i)) h.1 (h.3 ∙ c.requires.turn.1)
          (out ∙ (λ i. (k % n + 1, Empty) ∷ rest (sym out i))) c.args.self.now.alive,
    )

pub invariant_of-self : goal.invariant_of-self
invariant_of-self g c = let z = c.args.ring.now.sized in let p = c.args.self.now.place in let v = p.me in let k : ℕ = c.args.turn.now.behind in let h = its_turn k c.args.turn.now.state v.0.turn c.requires.turn.0 in let n : ℕ = c.args.ring.now.size in
    let out = whole_out v p.table_id.slots n (k % n + 1) h.0 (ap (λ (y : TableId). y.slots) c.requires.own ∙ z.1) c.args.self.now.carried h.1 (h.3 ∙ c.requires.turn.1) (ap (λ (y : ℕ). y % n + 1) (sym h.2)) in
    let y = c.store.ensures in let is = (y.2 h.0 h.1).1 in
    record { alive = ap (λ m. live m.0.base) is ∙ c.args.self.now.alive; calm = ap (λ m. is_filling m.0.lead) is ∙ c.args.self.now.calm; reads = ap (λ m. m.0.block) is ∙ c.args.self.now.reads; lent = ap (λ m. is_lent m.0.block m.0.job) is ∙ c.args.self.now.lent; carried = gave_carried v c.store.new.seat.me c.store.new.seat.table_id.slots n (k % n + 1) _ h.0 (ap (λ (y : TableId). y.slots) (y.0 ∙ c.requires.own) ∙ z.1) out is }

pub invariant_of-turn : goal.invariant_of-turn
invariant_of-turn g c = let v = c.args.self.now.place.me in let h = its_turn c.args.turn.now.behind c.args.turn.now.state v.0.turn c.requires.turn.0 in let y = c.store.ensures.2 h.0 h.1 in let l = y.0 in let e = h.2 in record { small = omega arith }
