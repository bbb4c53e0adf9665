use Rattle.std.proofs.Common.{rules, arith, refl, sym, ap, ◌∙◌, ℕ, ◌+◌, ◌*◌, ◌%◌, subst, inl, inr}
use mathlib.Core.Logic.{dite}
use native.Mathlib.Decide.{ℕ_discrete}
use Rattle.atomic_table.specs.Seated.{TableId}
use Rattle.saber_ring.specs.declared.view.SlotValue.TheVariants.{Rows}
use Rattle.saber_ring.specs.Shows.{live}
use Rattle.saber_ring.specs.Seats.{is_filling, is_lent}
use Rattle.saber_ring.specs.Calls.{AreRowsOf}
use Rattle.saber_ring.specs.Plays.{looked, missing, reading}
use Rattle.saber_ring.proofs.Readers.{looks_at_block, reads_block}
use Rattle.saber_ring.proofs.Carries.{half, carried_still, took_first, same_first, block_carried, rows_moved}
use Rattle.saber_ring.proofs.Calls.{needing_job, below_lent}
use Rattle.saber_ring.proofs.seat.Seat.read.Goals as goal

pub load-seen-requires : goal.load-seen-requires
load-seen-requires g c = let z = c.args.ring.now.sized in (
  search rules,
  first_of (search rules, omega arith),
  looks_at_block g.W.Work.is_told g.W.Work.upto g.W.Work.first g.W.Work.is_rows g.W.Work.is_piece g.W.Work.is_stage _ g.W.Work.rises g.W.Work.again _ _ _ _ c.requires.idle.1 c.args.self.now.alive,
)

pub invariant_of-self : goal.invariant_of-self
invariant_of-self g c = let z = c.args.ring.now.sized in let old = c.args.self.now in let v = old.place.me in let u : ℕ = c.args.u in let j = needing_job g.W.Work.upto g.W.Work.first c.args.job.now.task u v.0.job c.requires.needs in let e = c.load-seen.ensures in
    let p = e.2 j.0 u j.1 j.2 j.3 (ap (λ (y : ℕ). u % y + 1 + y) (sym (half _ _ z.1))) in dite (ℕ_discrete c.load-seen.result (4 * u + 2))
    (λ hit. let d = p.0 hit in record {
      alive = ap (λ m. live m.0.base) d ∙ old.alive;
      calm = ap (λ m. is_filling m.0.lead) d ∙ old.calm;
      reads = ap (λ m. m.0.block) d ∙ old.reads;
      lent = ap (λ m. is_lent m.0.block m.0.job) d ∙ old.lent;
      carried = carried_still v _ _ _ e.0 (looked v.0 _ _) d refl refl refl old.carried;
    })
    (λ miss. let d = (p.1 miss).1 in record {
      alive = ap (λ m. live m.0.base) d ∙ old.alive;
      calm = ap (λ m. is_filling m.0.lead) d ∙ old.calm;
      reads = ap (λ m. m.0.block) d ∙ old.reads;
      lent = ap (λ m. is_lent m.0.block m.0.job) d ∙ old.lent;
      carried = carried_still v _ _ _ e.0 (missing v.0 _ _) d refl refl refl old.carried;
    })

pub returns-then-seen-home-clause-told : goal.returns-then-seen-home-clause-told
returns-then-seen-home-clause-told g c = let z = c.args.ring.now.sized in let v = c.args.self.now.place.me in let u : ℕ = c.args.u in let j = needing_job g.W.Work.upto g.W.Work.first c.args.job.now.task u v.0.job c.requires.needs in
    let p = (c.load-seen.ensures.2 j.0 u j.1 j.2 j.3 (ap (λ (y : ℕ). u % y + 1 + y) (sym (half _ _ z.1)))).1 c.if-seen-home.true in (p.0, (λ l lead out. p.2 l lead c.requires.idle.0 out), inl (ap (λ m. m.0) p.1))

pub compare_exchange-found-requires : goal.compare_exchange-found-requires
compare_exchange-found-requires g c = let z = c.args.ring.now.sized in let v = c.args.self.now.place.me in let u : ℕ = c.args.u in let j = needing_job g.W.Work.upto g.W.Work.first c.args.job.now.task u v.0.job c.requires.needs in
    let d = (c.load-seen.ensures.2 j.0 u j.1 j.2 j.3 (ap (λ (y : ℕ). u % y + 1 + y) (sym (half _ _ z.1)))).0 c.if-seen-home.false in (
      search rules,
      first_of (search rules, omega arith),
      reads_block g.W.Work.is_told g.W.Work.upto g.W.Work.first g.W.Work.is_rows g.W.Work.is_piece g.W.Work.is_stage _ g.W.Work.rises g.W.Work.again _ _ _ u _ _ _ j.0 (ap (λ m. m.0.job) d ∙ j.1) (ap (λ m. m.0.block) d ∙ c.requires.idle.0) (ap (λ m. m.0.turn) d ∙ c.requires.idle.1) (ap (λ m. live m.0.base) d ∙ c.args.self.now.alive) j.2 j.3 (λ k. u % sym z.2 k + 1 + sym z.2 k) refl refl,
    )

pub invariant_of-self-then-found-home : goal.invariant_of-self-then-found-home
invariant_of-self-then-found-home g c = let z = c.args.ring.now.sized in let old = c.args.self.now in let v = old.place.me in let u : ℕ = c.args.u in let j = needing_job g.W.Work.upto g.W.Work.first c.args.job.now.task u v.0.job c.requires.needs in
    let e = c.load-seen.ensures in let d = (e.2 j.0 u j.1 j.2 j.3 (ap (λ (y : ℕ). u % y + 1 + y) (sym (half _ _ z.1)))).0 c.if-seen-home.false in
    let f = c.compare_exchange-found.ensures in let q = ((f.2 u j.0 (ap (λ m. m.0.job) d ∙ j.1) refl).1 c.if-found-home.true).1 in
    record {
      alive = ap (λ m. live m.0.base) q ∙ ap (λ m. live m.0.base) d ∙ old.alive;
      calm = ap (λ m. is_filling m.0.lead) q ∙ ap (λ m. is_filling m.0.lead) d ∙ old.calm;
      reads = ap (λ m. m.0.block) q ∙ ap (λ m. m.0.block) d ∙ old.reads;
      lent = ap (λ m. is_lent m.0.block m.0.job) q ∙ ap (λ m. is_lent m.0.block m.0.job) d ∙ old.lent;
      carried = carried_still c.load-seen.new.seat.me _ _ _ f.0 (missing c.load-seen.new.seat.me.0 _ _) q refl refl refl (carried_still v _ _ _ e.0 (looked v.0 _ _) d refl refl refl old.carried);
    }

pub returns-then-found-home-clause-told : goal.returns-then-found-home-clause-told
returns-then-found-home-clause-told g c = let z = c.args.ring.now.sized in let v = c.args.self.now.place.me in let u : ℕ = c.args.u in let i : ℕ = u % c.args.ring.now.size + 1 + c.args.ring.now.size in let j = needing_job g.W.Work.upto g.W.Work.first c.args.job.now.task u v.0.job c.requires.needs in
    let d = (c.load-seen.ensures.2 j.0 u j.1 j.2 j.3 (ap (λ (y : ℕ). u % y + 1 + y) (sym (half _ _ z.1)))).0 c.if-seen-home.false in
    let q = (c.compare_exchange-found.ensures.2 u j.0 (ap (λ m. m.0.job) d ∙ j.1) refl).1 c.if-found-home.true in
    (q.0, (λ l lead out. q.2 l (ap (λ m. m.0.lead) d ∙ lead) (ap (λ m. m.0.block) d ∙ c.requires.idle.0) out), inr (ap (λ m. m.0) q.1 ∙ (λ k. missing (d k).0 i c.compare_exchange-found.result) ∙ (λ k. missing (looked v.0 i (c.if-seen-home.false k)) i c.compare_exchange-found.result)))

pub exchange-value-requires : goal.exchange-value-requires
exchange-value-requires g c = let z = c.args.ring.now.sized in let v = c.args.self.now.place.me in let u : ℕ = c.args.u in let j = needing_job g.W.Work.upto g.W.Work.first c.args.job.now.task u v.0.job c.requires.needs in
    let d = (c.load-seen.ensures.2 j.0 u j.1 j.2 j.3 (ap (λ (y : ℕ). u % y + 1 + y) (sym (half _ _ z.1)))).0 c.if-seen-home.false in
    let f = c.compare_exchange-found.ensures in let q = (f.2 u j.0 (ap (λ m. m.0.job) d ∙ j.1) refl).0 c.if-found-home.false in
    (search rules, took_first c.load-seen.new.seat.me c.compare_exchange-found.new.seat.me _ _ f.0 (reading c.load-seen.new.seat.me.0 _ _ u) _ (Rows q.0) q.2)

pub invariant_of-self-2 : goal.invariant_of-self-2
invariant_of-self-2 g c = let z = c.args.ring.now.sized in let old = c.args.self.now in let v = old.place.me in let u : ℕ = c.args.u in let j = needing_job g.W.Work.upto g.W.Work.first c.args.job.now.task u v.0.job c.requires.needs in
    let e = c.load-seen.ensures in let d = (e.2 j.0 u j.1 j.2 j.3 (ap (λ (y : ℕ). u % y + 1 + y) (sym (half _ _ z.1)))).0 c.if-seen-home.false in
    let f = c.compare_exchange-found.ensures in let q = (f.2 u j.0 (ap (λ m. m.0.job) d ∙ j.1) refl).0 c.if-found-home.false in let x = c.exchange-value.ensures in
    record {
      alive = ap (λ m. live m.0.base) x.3 ∙ ap (λ m. live m.0.base) q.2 ∙ ap (λ m. live m.0.base) d ∙ old.alive;
      calm = ap (λ m. is_filling m.0.lead) x.3 ∙ ap (λ m. is_filling m.0.lead) q.2 ∙ ap (λ m. is_filling m.0.lead) d ∙ old.calm;
      reads = ap (λ m. m.0.block) x.3 ∙ ap (λ m. m.0.block) q.2;
      lent = ap (λ m. is_lent m.0.block m.0.job) x.3 ∙ ap (λ m. is_lent m.0.block m.0.job) q.2 ∙ below_lent u j.0 c.load-seen.new.seat.me.0.job (ap (λ m. m.0.job) d ∙ j.1) j.3;
      carried = block_carried c.load-seen.new.seat.me c.compare_exchange-found.new.seat.me c.exchange-value.new.seat.me c.exchange-value.new.seat.me c.args.ring.now.size u _ c.load-seen.new.seat.table_id c.exchange-value.new.seat.table_id (reading c.load-seen.new.seat.me.0 _ _ u) (Rows q.0)
          (ap (λ (y : TableId). y.slots) (e.0 ∙ c.requires.own) ∙ z.1) (x.0 ∙ f.0) refl refl refl refl (ap (λ m. m.0.block) d ∙ c.requires.idle.0) (ap (λ m. m.0.turn) d ∙ c.requires.idle.1) (carried_still v _ _ _ e.0 (looked v.0 _ _) d refl refl refl old.carried) q.2 x.3 refl;
    }

pub unreachable-requires : goal.unreachable-requires
unreachable-requires g c = let z = c.args.ring.now.sized in let v = c.args.self.now.place.me in let u : ℕ = c.args.u in let j = needing_job g.W.Work.upto g.W.Work.first c.args.job.now.task u v.0.job c.requires.needs in
    let d = (c.load-seen.ensures.2 j.0 u j.1 j.2 j.3 (ap (λ (y : ℕ). u % y + 1 + y) (sym (half _ _ z.1)))).0 c.if-seen-home.false in
    let q = (c.compare_exchange-found.ensures.2 u j.0 (ap (λ m. m.0.job) d ∙ j.1) refl).0 c.if-found-home.false in
    c.in_default.not-Rows q.0 (same_first _ _ _ _ _ _ (sym c.exchange-value.ensures.2 ∙ ap (λ m. m.1) q.2))

pub returns-clause-told : goal.returns-clause-told
returns-clause-told g c = let z = c.args.ring.now.sized in let v = c.args.self.now.place.me in let u : ℕ = c.args.u in let i : ℕ = u % c.args.ring.now.size + 1 + c.args.ring.now.size in let j = needing_job g.W.Work.upto g.W.Work.first c.args.job.now.task u v.0.job c.requires.needs in
    let d = (c.load-seen.ensures.2 j.0 u j.1 j.2 j.3 (ap (λ (y : ℕ). u % y + 1 + y) (sym (half _ _ z.1)))).0 c.if-seen-home.false in
    let q = (c.compare_exchange-found.ensures.2 u j.0 (ap (λ m. m.0.job) d ∙ j.1) refl).0 c.if-found-home.false in let x = c.exchange-value.ensures in
    let same = same_first _ _ _ _ _ _ (sym x.2 ∙ ap (λ m. m.1) q.2) in (
      subst (λ o. AreRowsOf g.W.Work.upto g.W.Work.is_rows c.in-Rows.rows o u) (sym j.1) (rows_moved (g.W.Work.is_rows (g.W.Work.upto j.0.told (u + 1)) u) q.0 c.in-Rows.rows c.exchange-value.result same c.in-Rows.is q.1),
      ap (λ m. m.0) x.3 ∙ ap (λ m. m.0) q.2 ∙ (λ k. reading (d k).0 i (c.if-found-home.false k) u) ∙ (λ k. reading (looked v.0 i (c.if-seen-home.false k)) i (4 * u + 2) u),
    )
