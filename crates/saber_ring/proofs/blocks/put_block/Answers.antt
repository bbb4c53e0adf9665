use Rattle.std.proofs.Common.{rules, arith, refl, sym, ap, ◌∙◌, ℕ, ◌+◌, ◌*◌, ◌%◌, ◌∷◌}
use Rattle.saber_ring.specs.declared.view.SlotValue.TheVariants.{Rows}
use Rattle.saber_ring.specs.Shows.{live}
use Rattle.saber_ring.specs.Plays.{led, begun, word_before}
use Rattle.saber_ring.proofs.Fills.{begins_block, stores_block}
use Rattle.saber_ring.proofs.Carries.{first_now, took_first}
use Rattle.saber_ring.proofs.Calls.{may_fill, put_done, not_spare}
use Rattle.saber_ring.proofs.blocks.put_block.Goals as goal

pub compare_exchange-found-requires : goal.compare_exchange-found-requires
compare_exchange-found-requires g c = let z = c.args.ring.now.sized in let v = c.args.place.now.me in
    let l = may_fill g.W.Work.is_told g.W.Work.upto g.W.Work.first g.W.Work.filled g.W.Work.is_rows c.args.ring.now.size c.args.t c.args.rows v.0.seen v.0.lead c.requires.next in (
      search rules,
      first_of (search rules, omega arith),
      begins_block g.W.Work.is_told g.W.Work.upto g.W.Work.first g.W.Work.is_rows g.W.Work.is_piece g.W.Work.is_stage _ g.W.Work.rises _ _ _ _ _ _ l.0 (λ i. sym l.2 i % sym z.2 i + 1 + sym z.2 i) (c.before-old.ensures ∙ (λ i. word_before (sym z.2 i) (sym l.2 i))) (ap (λ (y : ℕ). 4 * y + 1) (sym l.2)) l.1 l.3 (let q = l.6 in let e = z.2 in omega arith) c.requires.alive c.requires.idle,
    )

pub unreachable-requires : goal.unreachable-requires
unreachable-requires g c = let v = c.args.place.now.me in
    let l = may_fill g.W.Work.is_told g.W.Work.upto g.W.Work.first g.W.Work.filled g.W.Work.is_rows c.args.ring.now.size c.args.t c.args.rows v.0.seen v.0.lead c.requires.next in
    c.if-found-old.true (c.compare_exchange-found.ensures.2 l.0 l.1).1

pub exchange-left-requires : goal.exchange-left-requires
exchange-left-requires g c = let v = c.args.place.now.me in
    let l = may_fill g.W.Work.is_told g.W.Work.upto g.W.Work.first g.W.Work.filled g.W.Work.is_rows c.args.ring.now.size c.args.t c.args.rows v.0.seen v.0.lead c.requires.next in let e = c.compare_exchange-found.ensures in let d = e.2 l.0 l.1 in
    (search rules, took_first v c.compare_exchange-found.new.seat.me _ _ e.0 (led v.0 _ _ (begun l.0)) _ d.0 d.3)

pub let_go-requires : goal.let_go-requires
let_go-requires g c = let v = c.args.place.now.me in
    let l = may_fill g.W.Work.is_told g.W.Work.upto g.W.Work.first g.W.Work.filled g.W.Work.is_rows c.args.ring.now.size c.args.t c.args.rows v.0.seen v.0.lead c.requires.next in let d = c.compare_exchange-found.ensures.2 l.0 l.1 in let x = c.exchange-left.ensures in
    not_spare d.0 _ _ c.exchange-left.result _ _ (sym (ap (λ m. m.1) d.3) ∙ x.2) d.2

pub store-requires : goal.store-requires
store-requires g c = let z = c.args.ring.now.sized in let v = c.args.place.now.me in
    let l = may_fill g.W.Work.is_told g.W.Work.upto g.W.Work.first g.W.Work.filled g.W.Work.is_rows c.args.ring.now.size c.args.t c.args.rows v.0.seen v.0.lead c.requires.next in let d = c.compare_exchange-found.ensures.2 l.0 l.1 in let x = c.exchange-left.ensures in (
      search rules,
      first_of (search rules, omega arith),
      stores_block g.W.Work.is_told g.W.Work.upto g.W.Work.first g.W.Work.is_rows g.W.Work.is_piece g.W.Work.is_stage _ g.W.Work.filled g.W.Work.keeps g.W.Work.whole _ _ _ _ _ (begun l.0) c.args.rows (λ i. sym l.2 i % sym z.2 i + 1 + sym z.2 i) (ap (λ (y : ℕ). 4 * y + 2) (sym l.2)) (ap (λ m. m.0.lead) x.3 ∙ ap (λ m. m.0.lead) d.3) refl
          (first_now c.compare_exchange-found.new.seat.me _ _ _ (Rows c.args.rows) _ x.3) l.4 l.5 (ap (λ m. live m.0.base) x.3 ∙ ap (λ m. live m.0.base) d.3 ∙ c.requires.alive) (ap (λ m. m.0.turn) x.3 ∙ ap (λ m. m.0.turn) d.3 ∙ c.requires.idle),
    )

pub returns-clause-told : goal.returns-clause-told
returns-clause-told g c = let v = c.args.place.now.me in
    let l = may_fill g.W.Work.is_told g.W.Work.upto g.W.Work.first g.W.Work.filled g.W.Work.is_rows c.args.ring.now.size c.args.t c.args.rows v.0.seen v.0.lead c.requires.next in let d = c.compare_exchange-found.ensures.2 l.0 l.1 in let x = c.exchange-left.ensures in let y = c.store.ensures in
    let found = d.1 ∙ c.before-old.ensures in let i : ℕ = c.args.t % c.args.ring.now.size + 1 + c.args.ring.now.size in
    (l.0, l.1, put_done g.W.Work.filled v c.compare_exchange-found.new.seat.me c.exchange-left.new.seat.me c.store.new.seat.me l.0 (word_before c.args.ring.now.size c.args.t) i (4 * c.args.t + 2) d.0 c.args.rows (d.3 ∙ (λ k. (led v.0 i (found k) (begun l.0), (i, d.0) ∷ v.1))) x.3 y.2)
