use Rattle.std.proofs.Common.{rules, arith, refl, sym, ap, ◌∙◌, ℕ, ◌+◌, ◌%◌}
use Rattle.saber_ring.specs.declared.view.SlotValue.TheVariants.{Rows}
use Rattle.saber_ring.specs.Shows.{live}
use Rattle.saber_ring.proofs.Readers.{returns_cell}
use Rattle.saber_ring.proofs.Carries.{first_now}
use Rattle.saber_ring.proofs.Calls.{owed}
use Rattle.saber_ring.proofs.seat.Seat.put_back.Goals as goal

pub store-requires : goal.store-requires
store-requires g c = let z = c.args.ring.now.sized in let v = c.args.self.now.place.me in let u : ℕ = c.in-Some.u in let x = c.exchange-left.ensures in
    let o = owed g.W.Work.upto g.W.Work.is_rows c.args.job.now.task u c.args.block v.0.job v.0.block c.requires.has (c.args.self.now.reads ∙ c.in-Some.is) c.requires.rows c.args.self.now.lent in (
      search rules,
      first_of (search rules, omega arith),
      returns_cell g.W.Work.is_told g.W.Work.upto g.W.Work.first g.W.Work.is_rows g.W.Work.is_piece g.W.Work.is_stage _ g.W.Work.rises g.W.Work.again _ _ _ u _ _ o.0 c.args.block (ap (λ m. m.0.job) x.3 ∙ o.1) (ap (λ m. m.0.block) x.3 ∙ c.args.self.now.reads ∙ c.in-Some.is) (ap (λ m. m.0.turn) x.3 ∙ c.requires.idle) (ap (λ m. live m.0.base) x.3 ∙ c.args.self.now.alive)
          (λ k. u % sym z.2 k + 1 + sym z.2 k) refl o.3 (first_now v _ _ _ (Rows c.args.block) _ x.3),
    )
