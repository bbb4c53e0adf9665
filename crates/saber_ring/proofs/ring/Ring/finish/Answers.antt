use Rattle.std.proofs.Common.{arith, sym, ap, subst, ◌∙◌, ◌≡◌, ℕ, Bool, true, false, ◌<◌, ◌≤◌, get_or, List}
use Rattle.std.specs.Mem.Slots.{slots_filled, slots_len}
use lib.ListN.{get_elem?}
use Rattle.saber_ring.proofs.Puts.{emptied}
use mathlib.Core.Option.{some-injective}
use Rattle.saber_ring.proofs.Endings.{closes, last_lead, same_stage, finish_told}
use Rattle.saber_ring.proofs.ring.Ring.finish.Goals as goal

pub unreachable-requires : goal.unreachable-requires
unreachable-requires g c = let p = c.args.seat.place in let l = last_lead p.me.0.lead c.requires.last in
    let f = closes g.W.Work.is_told g.W.Work.upto g.W.Work.first g.W.Work.is_rows g.W.Work.is_piece g.W.Work.is_stage c.args.self.table.shared.key.size p.id p.me.0 l.0 _ _ l.1 l.2 c.args.seat.alive c.requires.idle.0 c.requires.idle.1 c.args.seat.calm c.close_with-closed.ensures.values.2 in
    c.in_default.not-Stage f.1 (some-injective _ _ (sym c.take-home.ensures.value ∙ f.2))

pub returns : goal.returns
returns g c = let p = c.args.seat.place in let l = last_lead p.me.0.lead c.requires.last in
    let f = closes g.W.Work.is_told g.W.Work.upto g.W.Work.first g.W.Work.is_rows g.W.Work.is_piece g.W.Work.is_stage c.args.self.table.shared.key.size p.id p.me.0 l.0 _ _ l.1 l.2 c.args.seat.alive c.requires.idle.0 c.requires.idle.1 c.args.seat.calm c.close_with-closed.ensures.values.2 in
    finish_told g.W.Work.upto g.W.Work.is_stage p.me.0 p.me.0.lead l.0 f.1 c.in-Stage.stage l.1 f.3 (same_stage c.take-home.result f.1 c.in-Stage.stage (sym c.take-home.ensures.value ∙ f.2) c.in-Stage.is)

pub sweep-requires-clause-cells : goal.sweep-requires-clause-cells
sweep-requires-clause-cells g c = let p = c.args.seat.place in let l = last_lead p.me.0.lead c.requires.last in
    let f = closes g.W.Work.is_told g.W.Work.upto g.W.Work.first g.W.Work.is_rows g.W.Work.is_piece g.W.Work.is_stage c.args.self.table.shared.key.size p.id p.me.0 l.0 _ _ l.1 l.2 c.args.seat.alive c.requires.idle.0 c.requires.idle.1 c.args.seat.calm c.close_with-closed.ensures.values.2 in
    let o = c.take-home.ensures.others in let z = c.args.self.sized in let count = c.close_with-closed.ensures.counts in
    λ i x pos lt at. let a = o.2 in let b = count.1 in let d = z.1 in let e = z.2 in f.0 i x pos (omega arith) (ap (λ values. get_elem? values i) (sym o.0) ∙ at)

pub sweep-requires-clause-rest : goal.sweep-requires-clause-rest
sweep-requires-clause-rest g c = let o = c.take-home.ensures.others in let full = c.close_with-closed.ensures.values.1 in let n : ℕ = slots_len c.close_with-closed.result.slots in
    let m = emptied (slots_filled c.close_with-closed.result.slots) 0 n (λ k l h. absurd (omega arith)) (λ k l h. full k l h) in
    subst (λ (y : List Bool × ℕ). ((k : ℕ) → k < 1 → k < y.1 → get_or y.0 k false ≡ false) × ((k : ℕ) → 1 ≤ k → k < y.1 → get_or y.0 k false ≡ true)) (λ i. (sym o.1 i, sym o.2 i)) ((λ k l h. m.0 k (omega arith) h), (λ k l h. m.1 k (omega arith) h))
