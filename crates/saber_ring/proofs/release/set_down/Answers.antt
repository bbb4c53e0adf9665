use Rattle.std.proofs.Common.{rules, arith, ap, sym, ◌∙◌}
use Rattle.atomic_table.specs.Table.{rest}
use Rattle.saber_ring.specs.declared.view.SlotValue.TheVariants.{Stage}
use Rattle.saber_ring.specs.Shows.{live}
use Rattle.saber_ring.specs.Plays.{without_turn}
use Rattle.saber_ring.proofs.Releases.{releases_turn}
use Rattle.saber_ring.proofs.Carries.{first_now}
use Rattle.saber_ring.proofs.Calls.{set_turn}
use Rattle.saber_ring.proofs.release.set_down.Goals as goal

pub store-requires : goal.store-requires
store-requires g c = let z = c.args.ring.now.sized in let v = c.args.place.now.me in let x = c.exchange-left.ensures in
    let h = set_turn g.W.Work.is_stage c.args.k c.args.state c.args.stage v.0.turn c.requires.turn in (
      search rules,
      omega arith,
      releases_turn g.W.Work.is_told g.W.Work.upto g.W.Work.first g.W.Work.is_rows g.W.Work.is_piece g.W.Work.is_stage _ g.W.Work.rises _ _ _ _ h.0 c.args.stage (c.free_word-word.ensures ∙ h.2) (ap (λ m. m.0.turn) x.3 ∙ h.1) (λ e. c.requires.emptied (sym h.3 ∙ e)) h.4
          (first_now v _ _ _ (Stage c.args.stage) _ x.3) (ap (λ m. live m.0.base) x.3 ∙ c.requires.alive),
    )

pub returns-clause-told : goal.returns-clause-told
returns-clause-told g c = let v = c.args.place.now.me in let x = c.exchange-left.ensures in let y = c.store.ensures in
    let h = set_turn g.W.Work.is_stage c.args.k c.args.state c.args.stage v.0.turn c.requires.turn in
    (h.0, h.1, (y.2 h.0 (ap (λ m. m.0.turn) x.3 ∙ h.1)).0 ∙ (λ i. (without_turn (x.3 i).0 (c.free_word-word.ensures i) h.0, rest (x.3 i).1)))

pub returns-clause-seen : goal.returns-clause-seen
returns-clause-seen g c = let v = c.args.place.now.me in let x = c.exchange-left.ensures in
    let h = set_turn g.W.Work.is_stage c.args.k c.args.state c.args.stage v.0.turn c.requires.turn in let q = c.store.ensures.2 h.0 (ap (λ m. m.0.turn) x.3 ∙ h.1) in
    let before = ap (λ m. m.0.seen) x.3 in let le = q.1 in let same = h.5 in omega arith
