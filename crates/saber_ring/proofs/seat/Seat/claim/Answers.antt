use Rattle.std.proofs.Common.{rules, arith, refl, sym, ap, ◌∙◌, ℕ, ◌+◌, ◌*◌, ◌%◌}
use mathlib.Core.Logic.{dite}
use native.Mathlib.Decide.{ℕ_discrete}
use Rattle.std.specs.Prelude.{Some}
use Rattle.atomic_table.specs.Seated.{TableId}
use Rattle.saber_ring.specs.Shows.{live}
use Rattle.saber_ring.specs.Seats.{cells_of, is_filling, is_lent}
use Rattle.saber_ring.specs.Plays.{missing, with_job}
use Rattle.saber_ring.proofs.Moves.{claims_cell}
use Rattle.saber_ring.proofs.Carries.{carried_still, job_claimed}
use Rattle.saber_ring.proofs.Calls.{none_lent}
use Rattle.saber_ring.proofs.seat.Seat.claim.Goals as goal

pub compare_exchange-found-requires : goal.compare_exchange-found-requires
compare_exchange-found-requires g c = let l = c.args.ring.now.sized in (
  search rules,
  first_of (search rules, omega arith),
  claims_cell g.W.Work.is_told g.W.Work.upto g.W.Work.first g.W.Work.is_rows g.W.Work.is_piece g.W.Work.is_stage _ g.W.Work.early g.W.Work.again _ _ _ _ c.args.t _ _ (ap (λ (z : ℕ). c.args.t % z + 1) (sym l.2)) refl (omega arith) c.requires.idle.0 c.args.self.now.alive,
)

pub returns-then-found-ready-clause-told : goal.returns-then-found-ready-clause-told
returns-then-found-ready-clause-told g c = let e = c.compare_exchange-found.ensures in let told = (e.2 c.args.t refl).1 c.if-found-ready.true in
    (c.if-found-ready.true, ap (λ m. m.0) told.0, told.1, told.2)

pub invariant_of-self : goal.invariant_of-self
invariant_of-self g c = let e = c.compare_exchange-found.ensures in let l = c.args.ring.now.sized in let old = c.args.self.now in
    dite (ℕ_discrete c.compare_exchange-found.result (8 * c.args.t + 2))
    (λ hit. let told = (e.2 c.args.t refl).0 hit in let d = told.2 in let none = none_lent old.place.me.0.block old.place.me.0.job old.lent c.requires.idle.0 in record {
      alive = ap (λ m. live m.0.base) d ∙ old.alive;
      calm = ap (λ m. is_filling m.0.lead) d ∙ old.calm;
      reads = ap (λ m. m.0.block) d ∙ old.reads;
      lent = ap (λ m. is_lent m.0.block m.0.job) d ∙ (λ i. is_lent (none i) (Some (record { task = c.args.t; told = told.0 })));
      carried = job_claimed old.place.me c.compare_exchange-found.new.seat.me c.args.ring.now.size c.args.t _ c.compare_exchange-found.new.seat.table_id (record { task = c.args.t; told = told.0 }) (with_job old.place.me.0 _ _ _) (cells_of old.place.table_id.slots)
          (ap (λ (z : TableId). z.slots) (e.0 ∙ c.requires.own) ∙ l.1) refl refl refl none c.requires.idle.1 c.requires.idle.0 none c.requires.idle.1 old.carried d;
    })
    (λ miss. let d = ((e.2 c.args.t refl).1 miss).0 in record {
      alive = ap (λ m. live m.0.base) d ∙ old.alive;
      calm = ap (λ m. is_filling m.0.lead) d ∙ old.calm;
      reads = ap (λ m. m.0.block) d ∙ old.reads;
      lent = ap (λ m. is_lent m.0.block m.0.job) d ∙ old.lent;
      carried = carried_still old.place.me _ _ _ e.0 (missing old.place.me.0 _ _) d refl refl refl old.carried;
    })

pub returns-clause-told : goal.returns-clause-told
returns-clause-told g c = let e = c.compare_exchange-found.ensures in let told = (e.2 c.args.t refl).0 c.if-found-ready.false in
    (told.0, refl, told.1, ap (λ m. m.0) told.2 ∙ ap (λ (n : ℕ). with_job c.args.self.now.place.me.0 (c.args.t % c.args.ring.now.size + 1) n (record { task = c.args.t; told = told.0 })) c.if-found-ready.false, told.3, told.4, told.5, told.6)

pub invariant_of-result : goal.invariant_of-result
invariant_of-result g c = record { small = ((c.compare_exchange-found.ensures.2 c.args.t refl).0 c.if-found-ready.false).1 }
