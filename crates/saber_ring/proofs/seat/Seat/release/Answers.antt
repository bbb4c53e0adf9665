use Rattle.std.proofs.Common.{rules, arith, sym, ap, ◌∙◌, ℕ, ◌∷◌, ◌+◌, ◌*◌, ◌%◌, true}
use Rattle.atomic_table.specs.Table.{rest}
use Rattle.atomic_table.specs.Seated.{TableId}
use Rattle.saber_ring.specs.declared.view.SlotValue.TheVariants.{Empty}
use Rattle.saber_ring.specs.Plays.{leaving, without_turn}
use Rattle.saber_ring.specs.Shows.{live, turn_word, free}
use Rattle.saber_ring.specs.Seats.{cells_of, is_filling, is_lent, out_of, task_slots}
use Rattle.saber_ring.proofs.Releases.{puts_slot_back}
use Rattle.saber_ring.proofs.Carries.{half, whole_out}
use Rattle.saber_ring.proofs.Calls.{its_turn, released_whole, released_straight, released_seen}
use Rattle.saber_ring.proofs.seat.Seat.release.Goals as goal

pub load-requires : goal.load-requires
load-requires g c = let z = c.args.ring.now.sized in let p = c.args.self.now.place in let v = p.me in let k : ℕ = c.args.turn.behind in let h = its_turn k c.args.turn.state v.0.turn c.requires.turn in let n : ℕ = c.args.ring.now.size in
    let whole = h.3 ∙ c.in-TookPiece.is in
    let out = whole_out v p.table_id.slots n (k % n + 1) h.0 (ap (λ (y : TableId). y.slots) c.requires.own ∙ z.1) c.args.self.now.carried h.1 whole (ap (λ (y : ℕ). y % n + 1) (sym h.2)) in (
      search rules,
      first_of (search rules, omega arith),
      puts_slot_back g.W.Work.is_told g.W.Work.upto g.W.Work.first g.W.Work.is_rows g.W.Work.is_piece g.W.Work.is_stage _ _ _ _ _ h.0 (λ i. sym h.2 i % sym z.2 i + 1) h.1 whole (out ∙ (λ i. (k % n + 1, Empty) ∷ rest (sym out i))) c.args.self.now.alive,
    )

pub returns-in-TookPiece-clause-told : goal.returns-in-TookPiece-clause-told
returns-in-TookPiece-clause-told g c =
    let v = c.args.self.now.place.me.0 in let k : ℕ = c.args.turn.behind in let n : ℕ = c.args.ring.now.size in let h = its_turn k c.args.turn.state v.turn c.requires.turn in
    let p = c.load.ensures.2 h.0 h.1 in let d = c.set_down.ensures.told in
    released_whole n k v c.set_down.new.place.me.0 c.args.turn.state c.load.new.seat.me.0 h.0 d.0 h.1 (ap (λ m. m.0) p.0 ∙ (λ i. leaving v (k % n + 1) ((p.1 ∙ ap (λ (b : ℕ). 8 * b + 5) h.2) i) h.0)) d.1 (ap (λ m. m.0) d.2) (h.3 ∙ c.in-TookPiece.is) c.in-TookPiece.is

pub returns-in_default-clause-told : goal.returns-in_default-clause-told
returns-in_default-clause-told g c =
    let v = c.args.self.now.place.me.0 in let d = c.set_down-in_default.ensures.told in
    released_straight c.args.ring.now.size c.args.turn.behind v c.set_down-in_default.new.place.me.0 c.args.turn.state d.0 d.1 (ap (λ m. m.0) d.2) c.in_default.not-TookPiece

pub returns-in_default-clause-seen : goal.returns-in_default-clause-seen
returns-in_default-clause-seen g c = (c.set_down-in_default.ensures.seen, (released_seen c.args.ring.now.size c.args.turn.behind c.args.self.now.place.me.0 c.set_down-in_default.new.place.me.0 c.args.turn.state (returns-in_default-clause-told g c) c.requires.turn).0)

pub returns-in_default-clause-stopped : goal.returns-in_default-clause-stopped
returns-in_default-clause-stopped g c = (released_seen c.args.ring.now.size c.args.turn.behind c.args.self.now.place.me.0 c.set_down-in_default.new.place.me.0 c.args.turn.state (returns-in_default-clause-told g c) c.requires.turn).1

pub invariant_of-self : goal.invariant_of-self
invariant_of-self g c =
    let z = c.args.ring.now.sized in let old = c.args.self.now in let v = old.place.me in let k : ℕ = c.args.turn.behind in let h = its_turn k c.args.turn.state v.0.turn c.requires.turn in let n : ℕ = c.args.ring.now.size in
    let out = whole_out v old.place.table_id.slots n (k % n + 1) h.0 (ap (λ (y : TableId). y.slots) c.requires.own ∙ z.1) old.carried h.1 (h.3 ∙ c.in-TookPiece.is) (ap (λ (y : ℕ). y % n + 1) (sym h.2)) in
    let p = (c.load.ensures.2 h.0 h.1).0 in let d = c.set_down.ensures.told in let wide = ap (λ (y : TableId). y.slots) (c.set_down.ensures.same ∙ c.load.ensures.0 ∙ c.requires.own) ∙ z.1 in let cells : ℕ = cells_of c.set_down.new.place.table_id.slots in
    let now = ap (λ m. m.0) d.2 ∙ (λ i. without_turn (p i).0 (turn_word k (free true)) d.0) in
    record {
      alive = ap (λ m. live m.0.base) d.2 ∙ ap (λ m. live m.0.base) p ∙ old.alive;
      calm = ap (λ m. is_filling m.0.lead) d.2 ∙ ap (λ m. is_filling m.0.lead) p ∙ old.calm;
      reads = ap (λ m. m.0.block) d.2 ∙ ap (λ m. m.0.block) p ∙ old.reads;
      lent = ap (λ m. is_lent m.0.block m.0.job) d.2 ∙ ap (λ m. is_lent m.0.block m.0.job) p ∙ old.lent;
      carried = ap (λ m. m.1) d.2 ∙ (λ i. rest (p i).1) ∙ (λ i. rest (rest (out i))) ∙ (λ i. task_slots (sym (half _ n wide) i) v.0) ∙ (λ i. out_of cells (sym now i));
    }
