-- The blocks of an input, cut without its end, are those that are cut with it still to come; and the end's block behind them.
use Rattle.std.proofs.Common.{◌≡◌, ◌≢◌, ◌≤◌, ℕ, Bool, true, false, List, [], ◌∷◌, refl, sym, ◌∙◌, ap, subst, arith}
use Rattle.std.specs.Prelude.{Option, Some, None}
use Rattle.saber_plan.specs.declared.plans.Shape.{Shape}
use Rattle.saber_plan.specs.declared.plans.Shape.TheVariants.{Select, Group, Join}
use Rattle.saber_plan.specs.declared.rows.Row.{Row}
use Rattle.saber_plan.specs.declared.sizes.Sizes.{Sizes}
use Rattle.saber_plan.specs.Answers.{by_shape}
use Rattle.saber_plan.specs.Inputs.{Input, going_on}
use Rattle.saber_plan.specs.Needs.{free, need}
use Rattle.saber_plan.specs.Tasks.{places_after}
use Rattle.saber_plan.specs.Trees.{Tree}
use Rattle.saber_places.specs.Counting.{places_behind}
use Rattle.saber_fragment.specs.declared.blocks.Block.{Block}
use Rattle.saber_dispatch.specs.declared.cutter.Cutter.{Cutter}
use Rattle.saber_dispatch.specs.declared.ends.End.{End}
use Rattle.saber_dispatch.specs.declared.ends.End.TheVariants.{AllRead, Bad, ReadFault, TooWide, NoMemory}
use Rattle.saber_dispatch.specs.Cutting.{Cuts, CutState, Flushes, IsThere, is_due, end_counts}
use Rattle.saber_dispatch.specs.Ending.{without_end, with_end, due_at, is_end_due, EndsEach}
use Rattle.saber_dispatch.specs.Sources.{Lefts}
use Rattle.saber_dispatch.proofs.EndBlocks.{end_near, end_next, end_cuts}

not_both : false ≡ true → ⊥
not_both e = cc

module _ (q : Tree) (s : Sizes) (c : Cutter) (r : Input) (dropped : List Row) where
  no_end : (e : Bool) → Flushes q (without_end s) c r dropped e → e ≡ false
  no_end false f = refl
  no_end true f = absurd (not_both f.comes.counts)

  flushes : (e : Bool) → e ≡ false → Flushes q s (with_end q s c) r dropped e
  flushes false is = refl
  flushes true is = absurd (not_both (sym is))

  there : (e : Bool) → IsThere q (without_end s) c r dropped e → IsThere q s (with_end q s c) r dropped e
  there false some = some
  there true comes = absurd (not_both comes.counts)

  state : (o : Option End) → CutState q (without_end s) c r dropped o → CutState q s (with_end q s c) r dropped o
  state None h = record { none_dropped = h.none_dropped; unended = h.unended; open_still = h.open_still; whole = h.whole; mark = h.mark; back = h.back }
  state (Some AllRead) h = record { none_dropped = h.none_dropped; has_end = h.has_end; mark = h.mark; back = h.back }
  state (Some (Bad side line cause)) h = record { none_dropped = h.none_dropped; unended = h.unended; has_end = h.has_end }
  state (Some (ReadFault side)) h = record { needs = h.needs; unended = h.unended; whole = h.whole; few = h.few }
  state (Some (TooWide task needs)) h = record { task_is = h.task_is; unended = h.unended; ended = h.ended; there = there h.ended h.there; needs_is = h.needs_is; wide = h.wide }
  state (Some NoMemory) h = tt

-- the end is still to come
pub end_to_come : (q : Tree) (s : Sizes) (had has : Lefts) (c : Cutter) (r : Input) → Cuts q (without_end s) had has c r → Cuts q s had has (with_end q s c) r
end_to_come q s had has c r h = record {
  windows = h.windows;
  sizes = record { task = h.sizes.task; ring = h.sizes.ring; threads = h.sizes.threads; lines = h.sizes.lines; slack = h.sizes.slack };
  made = record { size = h.made.size; room = h.made.room };
  dropped = h.dropped;
  took = h.took;
  count = h.count;
  near = h.near;
  whole = h.whole;
  flushes = flushes q s c r h.dropped r.ended (no_end q s c r h.dropped r.ended h.flushes);
  state = state q s c r h.dropped c.ended h.state;
}

-- so it is where memory lacks for what comes behind them
pub lacks_end : (q : Tree) (s : Sizes) (had has : Lefts) (c : Cutter) (r : Input) → Cuts q (without_end s) had has c r → Cuts q s had has (record c { flush = end_counts q s; ended = Some NoMemory }) r
lacks_end q s had has c r h =
    let w = end_to_come q s had has c r h in
    record {
      windows = w.windows;
      sizes = w.sizes;
      made = record { size = w.made.size; room = w.made.room };
      dropped = w.dropped;
      took = w.took;
      count = w.count;
      near = w.near;
      whole = w.whole;
      flushes = flushes q s (record c { ended = Some NoMemory }) r w.dropped r.ended (no_end q s c r h.dropped r.ended h.flushes);
      state = tt;
    }

-- ---- its block

pub due_all : (count : ℕ) (o : Option End) → due_at count o ≡ true → (o ≡ Some AllRead) × (is_due true count AllRead ≡ true)
due_all count None h = absurd (not_both h)
due_all count (Some AllRead) h = (refl, h)
due_all count (Some (Bad side line cause)) h = absurd (not_both h)
due_all count (Some (ReadFault side)) h = absurd (not_both h)
due_all count (Some (TooWide task needs)) h = absurd (not_both h)
due_all count (Some NoMemory) h = absurd (not_both h)

own_shape : (s : Shape) (t j : ℕ) → s ≢ Join → by_shape s t t j ≡ t
own_shape Select t j alone = refl
own_shape Group t j alone = refl
own_shape Join t j alone = absurd (alone refl)

none_placed : (q : Tree) (ks : List ℕ) (xs : List Row) → places_behind q ks xs [] ≡ []
unfolding places_after
none_placed q [] xs = refl
none_placed q (k ∷ ks) xs = refl

-- a block like that, behind all rows
pub ends_each : (c : Cutter) (b : Block) → is_end_due c ≡ true → b.number ≡ c.number → b.first ≡ c.number → b.before ≡ c.mark → b.earlier.before ≡ c.mark → b.earlier.rows ≡ [] → b.rows ≡ [] → b.places.items ≡ [] → b.ended ≡ true
    → EndsEach c b
ends_each c b due number first before behind alone none places ends q s had has r joins counts k =
    let a : Cutter = with_end q s c in
    let w : Cuts q s had has a r = end_to_come q s had has c r k in
    let all = due_all c.number c.ended due in
    let d : is_due (end_counts q s) c.number AllRead ≡ true = subst (λ f. is_due f c.number AllRead ≡ true) (sym counts) all.1 in
    let own : c.number ≡ free q s.task (going_on r.rows) c.number = sym (own_shape q.shape c.number _ joins) in
    let room : 1 ≤ c.room = subst (λ n. 1 ≤ n) (sym w.made.room) w.sizes.ring.0 in
    let near : need q s.task r c.number ≤ s.ring = end_near q s had has a r w all.0 d c.number own (omega (arith, room)) in
    record {
      next = end_next q s had has a r w all.0 d b none ends near number before (first ∙ own) behind alone;
      placed = places ∙ sym (none_placed q q.partition r.rows) ∙ ap (places_behind q q.partition r.rows) (sym none);
      cuts = end_cuts q s had has a r w all.0 d b none ends near c.lasts;
    }
