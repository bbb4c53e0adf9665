use Rattle.std.proofs.Common.{le_trans, ◌≤◌, rules, arith, refl, ap, subst, ◌∙◌, ℕ, inr}
use Rattle.saber_ring.specs.declared.view.SlotValue.TheVariants.{Stage}
use Rattle.saber_ring.specs.Shows.{live}
use Rattle.saber_ring.specs.Plays.{looked_turn, turn_behind, with_turn}
use Rattle.saber_ring.proofs.Turns.{sees_the_turn, wins_turn}
use Rattle.saber_ring.specs.Plays.{Shown}
use Rattle.saber_ring.proofs.Endings.{one_word}
use Rattle.saber_ring.proofs.Carries.{took_first}
use Rattle.saber_ring.proofs.seat.Seat.win.Goals as goal

pub load-seen-requires : goal.load-seen-requires
load-seen-requires g c = let z = c.args.ring.now.sized in (
  search rules,
  omega arith,
  sees_the_turn g.W.Work.is_told g.W.Work.upto g.W.Work.first g.W.Work.is_rows g.W.Work.is_piece g.W.Work.is_stage _ _ _ _,
)

pub compare_exchange-found-requires : goal.compare_exchange-found-requires
compare_exchange-found-requires g c = let z = c.args.ring.now.sized in let e = c.load-seen.ensures in (
  search rules,
  omega arith,
  wins_turn g.W.Work.is_told g.W.Work.upto g.W.Work.first g.W.Work.is_rows g.W.Work.is_piece g.W.Work.is_stage _ g.W.Work.again _ _ _ _ _ c.if-seen-ne0.false refl (ap (λ m. live m.0.base) e.2.0 ∙ c.args.self.now.alive),
)

pub exchange-home-requires : goal.exchange-home-requires
exchange-home-requires g c = let e = c.compare_exchange-found.ensures in let hit = e.2.0 c.if-found-seen.false in
    (search rules, took_first c.load-seen.new.seat.me c.compare_exchange-found.new.seat.me _ _ e.0 (with_turn c.load-seen.new.seat.me.0 _ _) 0 (Stage hit.1) hit.5)

pub returns-then-found-seen-clause-told : goal.returns-then-found-seen-clause-told
returns-then-found-seen-clause-told g c =
    let v = c.args.self.now.place.me in let e = c.load-seen.ensures in let f = c.compare_exchange-found.ensures in let miss = f.2.1 c.if-found-seen.true in let seen : ℕ = c.load-seen.result in let found : ℕ = c.compare_exchange-found.result in
    let is = e.2.0 in (
      (λ l lead alone. c.if-found-seen.true (one_word v.0.own found seen
          (subst (λ own. Shown own found) (ap (λ m. m.0.own) is) (miss.2 l (ap (λ m. m.0.lead) is ∙ lead) alone (ap (λ m. m.0.turn) is ∙ c.requires.idle) (ap (λ m. live m.0.base) is ∙ c.args.self.now.alive)))
          (e.2.2 l lead alone c.requires.idle c.args.self.now.alive))),
      le_trans e.2.1 (subst (λ z. z ≤ turn_behind found) (ap (λ m. m.0.seen) is) miss.1),
      inr (seen, c.if-seen-ne0.false, c.if-found-seen.true, ap (λ m. m.0) miss.0 ∙ (λ i. looked_turn (is i).0 found)),
    )
