use Rattle.std.proofs.Common.{true, false, rules, arith, sym, ap, ◌∙◌, ℕ, ◌+◌, ◌*◌, ◌%◌}
use Rattle.saber_ring.specs.declared.view.SlotValue.TheVariants.{Piece}
use Rattle.saber_ring.specs.Shows.{live}
use Rattle.saber_ring.specs.Plays.{with_take}
use Rattle.saber_ring.proofs.Lasts.{looks_for_piece}
use Rattle.saber_ring.proofs.Takes.{takes_done, takes_mark}
use Rattle.saber_ring.proofs.Carries.{took_first}
use Rattle.saber_ring.proofs.Calls.{its_turn, none_claimed, none_deposited}
use Rattle.saber_ring.proofs.seat.Seat.take.Goals as goal

pub load-seen-requires : goal.load-seen-requires
load-seen-requires g c = let z = c.args.ring.now.sized in let h = its_turn c.args.turn.now.behind c.args.turn.now.state c.args.self.now.place.me.0.turn c.requires.turn in (
  search rules,
  first_of (search rules, omega arith),
  looks_for_piece g.W.Work.is_told g.W.Work.upto g.W.Work.first g.W.Work.is_rows g.W.Work.is_piece g.W.Work.is_stage _ _ _ _ _ h.0 (λ i. sym h.2 i % sym z.2 i + 1) h.1,
)

pub compare_exchange-found-requires : goal.compare_exchange-found-requires
compare_exchange-found-requires g c = let z = c.args.ring.now.sized in let v = c.args.self.now.place.me in let k : ℕ = c.args.turn.now.behind in let h = its_turn k c.args.turn.now.state v.0.turn c.requires.turn in let e = c.load-seen.ensures in (
  search rules,
  first_of (search rules, omega arith),
  takes_done g.W.Work.is_told g.W.Work.upto g.W.Work.first g.W.Work.is_rows g.W.Work.is_piece g.W.Work.is_stage _ g.W.Work.again _ _ _ _ _ _ h.0 (λ i. sym h.2 i % sym z.2 i + 1) (c.if-seen-k.true ∙ ap (λ (y : ℕ). 8 * y + 4) (sym h.2)) (let q = h.2 in omega arith) (ap (λ m. m.0.turn) e.2.0 ∙ h.1)
      (ap (λ m. live m.0.base) e.2.0 ∙ c.args.self.now.alive),
)

pub exchange-home-requires : goal.exchange-home-requires
exchange-home-requires g c = let v = c.args.self.now.place.me in let h = its_turn c.args.turn.now.behind c.args.turn.now.state v.0.turn c.requires.turn in let e = c.load-seen.ensures in let f = c.compare_exchange-found.ensures in
    let hit = ((f.2 h.0 (ap (λ m. m.0.turn) e.2.0 ∙ h.1)).0 c.if-found-seen.false).3 in
    (search rules, took_first c.load-seen.new.seat.me c.compare_exchange-found.new.seat.me _ _ f.0 (with_take c.load-seen.new.seat.me.0 _ _ _) _ (Piece hit.3.0) hit.3.2)

pub compare_exchange-found-requires-then-seen-k-2 : goal.compare_exchange-found-requires-then-seen-k-2
compare_exchange-found-requires-then-seen-k-2 g c = let z = c.args.ring.now.sized in let v = c.args.self.now.place.me in let k : ℕ = c.args.turn.now.behind in let h = its_turn k c.args.turn.now.state v.0.turn c.requires.turn in let e = c.load-seen.ensures in (
  search rules,
  first_of (search rules, omega arith),
  takes_mark g.W.Work.is_told g.W.Work.upto g.W.Work.first g.W.Work.is_rows g.W.Work.is_piece g.W.Work.is_stage _ g.W.Work.again _ _ _ _ _ _ h.0 (λ i. sym h.2 i % sym z.2 i + 1) (c.if-seen-k-2.true ∙ ap (λ (y : ℕ). 8 * y + 6) (sym h.2)) (let q = h.2 in omega arith) (ap (λ m. m.0.turn) e.2.0 ∙ h.1)
      (ap (λ m. live m.0.base) e.2.0 ∙ c.args.self.now.alive),
)

pub unreachable-requires : goal.unreachable-requires
unreachable-requires g c = let v = c.args.self.now.place.me in let h = its_turn c.args.turn.now.behind c.args.turn.now.state v.0.turn c.requires.turn in let e = c.load-seen.ensures in
    ((c.compare_exchange-found.ensures.2 h.0 (ap (λ m. m.0.turn) e.2.0 ∙ h.1)).1 c.if-found-seen.true).1 (e.2.2 h.0 false h.1 (c.if-seen-k.true ∙ ap (λ (y : ℕ). 8 * y + 4) (sym h.2))) (ap (λ m. m.0.saw.word) e.2.0)

pub unreachable-requires-then-found-seen-2 : goal.unreachable-requires-then-found-seen-2
unreachable-requires-then-found-seen-2 g c = let v = c.args.self.now.place.me in let h = its_turn c.args.turn.now.behind c.args.turn.now.state v.0.turn c.requires.turn in let e = c.load-seen.ensures in
    ((c.compare_exchange-found-then-seen-k-2.ensures.2 h.0 (ap (λ m. m.0.turn) e.2.0 ∙ h.1)).1 c.if-found-seen-2.true).1 (e.2.2 h.0 true h.1 (c.if-seen-k-2.true ∙ ap (λ (y : ℕ). 8 * y + 6) (sym h.2))) (ap (λ m. m.0.saw.word) e.2.0)

pub returns-else-seen-k-2-clause-told : goal.returns-else-seen-k-2-clause-told
returns-else-seen-k-2-clause-told g c = let v = c.args.self.now.place.me.0 in let e = c.load-seen.ensures.2 in let alive = c.args.self.now.alive in let k : ℕ = c.args.turn.now.behind in let state = c.args.turn.now.state in (
  ap (λ m. m.0) e.0,
  c.if-seen-k.false,
  c.if-seen-k-2.false,
  none_claimed k state v c.load-seen.result c.requires.turn e.1 alive c.if-seen-k.false c.if-seen-k-2.false,
  none_deposited k state v c.load-seen.result c.requires.turn e.3 alive c.if-seen-k.false c.if-seen-k-2.false,
)
