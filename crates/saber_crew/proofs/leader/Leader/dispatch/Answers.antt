use Rattle.std.proofs.Common.{◌∙◌, ◌≡◌, refl, sym, subst, ap, arith}
use Rattle.std.specs.Prelude.{Err}
use Rattle.saber_crew.specs.declared.dispatch.Over.TheVariants.{AllGiven, Stopped, NoMemory}
use Rattle.saber_crew.specs.declared.dispatch.Dispatched.{Dispatched}
use Rattle.saber_crew.specs.Dispatches.{Puts, AllDispatched, DispatchedTo, AreFrees}
use Rattle.saber_crew.proofs.Filling.{given_so_far, dispatch_ended, dispatch_dropped, dispatch_more, frees_cover, frees_more, covers, fills_next}
use Rattle.saber_crew.proofs.Leading.{then_same}
use Rattle.saber_crew.proofs.leader.Leader.dispatch.Goals as goal

no_memory : NoMemory ≡ AllGiven → ⊥
no_memory e = cc

no_stop : Stopped ≡ AllGiven → ⊥
no_stop e = cc

runs_on : NoMemory ≡ Stopped → ⊥
runs_on e = cc

pub next_rows-requires : goal.next_rows-requires
next_rows-requires g c =
    let w = g.W.Work in
    record { given = given_so_far w.is_told w.filled w.upto w.is_rows w.keeps w.whole (g.P.Supply.has_given c.loop-own.supply c.loop-own.from) c.loop-own.tasks c.args.self.now.seat.lead c.loop-own.self.seat.lead c.loop-own.invariant.2 }

pub returns-in-Err-clause-same : goal.returns-in-Err-clause-same
returns-in-Err-clause-same g c = then_same c.args.self.now c.loop-own.self c.next_rows.new.self c.loop-own.invariant.0 c.next_rows.ensures.goes.same

pub returns-in-Err-clause-ends : goal.returns-in-Err-clause-ends
returns-in-Err-clause-ends g c =
    let w = g.W.Work in let given = g.P.Supply.has_given in let e = c.next_rows.ensures in let lead = c.args.self.now.seat.lead in
    let before = given c.loop-own.supply c.loop-own.from in let after = given c.next_rows.new.supply c.next_rows.new.from in let at = c.next_rows.new.self.seat.lead in
    let all : AllDispatched w.is_told w.upto before c.loop-own.tasks lead at = subst (AllDispatched w.is_told w.upto before c.loop-own.tasks lead) (sym e.goes.works.lead) c.loop-own.invariant.2 in
    record {
      base = e.goes.works.base ∙ c.loop-own.invariant.1;
      filled = dispatch_ended w.is_told w.filled w.upto w.is_rows w.keeps w.whole before after c.loop-own.tasks (g.P.Supply.is_over c.next_rows.new.supply) (record { tasks = c.loop-own.tasks; over = c.in-Err.over; helpers = c.args.helpers }) lead at all
          c.in-Err.ensures.gives (λ is. e.over (c.in-Err.is ∙ ap Err is)) refl;
      few = c.loop-own.invariant.3;
      stops = λ is. e.stops (c.in-Err.is ∙ ap Err is);
      asked = refl;
    }

pub returns-in_default-clause-same : goal.returns-in_default-clause-same
returns-in_default-clause-same g c = then_same c.args.self.now c.loop-own.self c.next_rows.new.self c.loop-own.invariant.0 c.next_rows.ensures.goes.same

pub returns-in_default-clause-ends : goal.returns-in_default-clause-ends
returns-in_default-clause-ends g c =
    let w = g.W.Work in let given = g.P.Supply.has_given in let e = c.next_rows.ensures in let lead = c.args.self.now.seat.lead in
    let before = given c.loop-own.supply c.loop-own.from in let after = given c.next_rows.new.supply c.next_rows.new.from in let at = c.next_rows.new.self.seat.lead in
    let all : AllDispatched w.is_told w.upto before c.loop-own.tasks lead at = subst (AllDispatched w.is_told w.upto before c.loop-own.tasks lead) (sym e.goes.works.lead) c.loop-own.invariant.2 in
    record {
      base = e.goes.works.base ∙ c.loop-own.invariant.1;
      filled = dispatch_dropped w.is_told w.filled w.upto w.is_rows w.keeps w.whole before after c.loop-own.tasks c.in-Ok.own c.in-Ok.ensures.gives (g.P.Supply.is_over c.next_rows.new.supply) (record { tasks = c.loop-own.tasks; over = NoMemory; helpers = c.args.helpers }) lead at all refl no_memory;
      few = c.loop-own.invariant.3;
      stops = λ is. absurd (runs_on is);
      asked = refl;
    }

pub fill_next-requires : goal.fill_next-requires
fill_next-requires g c =
    let w = g.W.Work in let i = c.loop-own.invariant in let given = g.P.Supply.has_given in let e = c.next_rows.ensures in let lead = c.args.self.now.seat.lead in
    let before = given c.loop-own.supply c.loop-own.from in let after = given c.next_rows.new.supply c.next_rows.new.from in let at = c.next_rows.new.self.seat.lead in
    let all : AllDispatched w.is_told w.upto before c.loop-own.tasks lead at = subst (AllDispatched w.is_told w.upto before c.loop-own.tasks lead) (sym e.goes.works.lead) i.2 in
    let list : AreFrees w.upto w.first c.loop-own.tasks c.loop-own.frees at = subst (AreFrees w.upto w.first c.loop-own.tasks c.loop-own.frees) (sym e.goes.works.lead) i.4 in
    let room = c.in-Ok-push.ensures.slid.0 in let up = e.goes.works.seen in
    let fills = fills_next w.is_told w.filled w.upto w.is_rows w.keeps w.whole before after c.loop-own.tasks c.in-Ok.own c.in-Ok.ensures.gives lead at all in
    record {
      next = fills.0;
      below = fills.1;
      covered = covers w.is_told w.upto w.first c.loop-own.tasks c.push.new.self at
          (frees_cover w.is_told w.filled w.upto w.is_rows w.keeps w.whole before after c.loop-own.tasks c.in-Ok.own c.in-Ok.ensures.gives w.first c.first-first.result c.first-first.ensures lead at c.saturating_sub-from.result c.loop-own.frees c.push.new.self all list (omega (arith, c.saturating_sub-from.ensures)) c.in-Ok-push.ensures.slid)
          c.next_rows.new.self.seat.seen (omega (arith, room, up, c.saturating_sub-from.ensures, c.cells.ensures, i.0.size, c.bench-bench.ensures, i.5, i.6));
    }

pub returns-then-not-fill_next-clause-same : goal.returns-then-not-fill_next-clause-same
returns-then-not-fill_next-clause-same g c =
    let v = c.args.self.now in let m = c.next_rows.new.self in
    then_same v m c.fill_next.new.self (then_same v c.loop-own.self m c.loop-own.invariant.0 c.next_rows.ensures.goes.same) c.fill_next.ensures.fills.same

pub returns-then-not-fill_next-clause-ends : goal.returns-then-not-fill_next-clause-ends
returns-then-not-fill_next-clause-ends g c =
    let w = g.W.Work in let given = g.P.Supply.has_given in let e = c.next_rows.ensures in let f = c.fill_next.ensures in let lead = c.args.self.now.seat.lead in
    let before = given c.loop-own.supply c.loop-own.from in let after = given c.next_rows.new.supply c.next_rows.new.from in let at = c.next_rows.new.self.seat.lead in
    let all : AllDispatched w.is_told w.upto before c.loop-own.tasks lead at = subst (AllDispatched w.is_told w.upto before c.loop-own.tasks lead) (sym e.goes.works.lead) c.loop-own.invariant.2 in
    let p = subst (λ b. Puts w.filled c.in-Ok.own b at c.fill_next.new.self.seat.lead) c.if-not-fill_next.true f.put in
    let over = g.P.Supply.is_over c.next_rows.new.supply in let dispatched : Dispatched = record { tasks = c.loop-own.tasks; over = Stopped; helpers = c.args.helpers } in
    record {
      base = f.fills.base ∙ e.goes.works.base ∙ c.loop-own.invariant.1;
      filled = subst (λ o. DispatchedTo w.is_told w.upto after over dispatched lead o) (sym p) (dispatch_dropped w.is_told w.filled w.upto w.is_rows w.keeps w.whole before after c.loop-own.tasks c.in-Ok.own c.in-Ok.ensures.gives over dispatched lead at all refl no_stop);
      few = c.loop-own.invariant.3;
      stops = λ is. f.stops c.if-not-fill_next.true;
      asked = refl;
    }

pub loop-own-preserved : goal.loop-own-preserved
loop-own-preserved g c =
    let w = g.W.Work in let i = c.loop-own.invariant in let f = c.fill_next.ensures in let given = g.P.Supply.has_given in let e = c.next_rows.ensures in let lead = c.args.self.now.seat.lead in
    let before = given c.loop-own.supply c.loop-own.from in let after = given c.next_rows.new.supply c.next_rows.new.from in let at = c.next_rows.new.self.seat.lead in
    let all : AllDispatched w.is_told w.upto before c.loop-own.tasks lead at = subst (AllDispatched w.is_told w.upto before c.loop-own.tasks lead) (sym e.goes.works.lead) i.2 in
    let list : AreFrees w.upto w.first c.loop-own.tasks c.loop-own.frees at = subst (AreFrees w.upto w.first c.loop-own.tasks c.loop-own.frees) (sym e.goes.works.lead) i.4 in
    let p = subst (λ b. Puts w.filled c.in-Ok.own b at c.fill_next.new.self.seat.lead) c.if-not-fill_next.false f.put in
    let few = (fills_next w.is_told w.filled w.upto w.is_rows w.keeps w.whole before after c.loop-own.tasks c.in-Ok.own c.in-Ok.ensures.gives lead at all).1 in
    let cover = frees_cover w.is_told w.filled w.upto w.is_rows w.keeps w.whole before after c.loop-own.tasks c.in-Ok.own c.in-Ok.ensures.gives w.first c.first-first.result c.first-first.ensures lead at c.saturating_sub-from.result c.loop-own.frees c.push.new.self all list (omega (arith, c.saturating_sub-from.ensures)) c.in-Ok-push.ensures.slid in
    let slid = c.in-Ok-push.ensures.slid.0 in let from = c.saturating_sub-from.ensures in let cells = c.cells.ensures in let size = c.bench-bench.ensures in
    let v = c.args.self.now in let m = c.next_rows.new.self in let n = c.fill_next.new.self in
    let there = then_same v m n (then_same v c.loop-own.self m i.0 e.goes.same) f.fills.same in
    let more = e.goes.works.seen in let up = f.fills.seen in let room = f.room c.if-not-fill_next.false in (
      there,
      f.fills.base ∙ e.goes.works.base ∙ i.1,
      dispatch_more w.is_told w.filled w.upto w.is_rows w.keeps w.whole before after c.loop-own.tasks c.in-Ok.own c.in-Ok.ensures.gives lead at c.fill_next.new.self.seat.lead all p,
      omega arith,
      frees_more w.is_told w.filled w.upto w.is_rows w.keeps w.whole before after c.loop-own.tasks c.in-Ok.own c.in-Ok.ensures.gives w.first c.first-first.result c.first-first.ensures lead at c.fill_next.new.self.seat.lead c.push.new.self all p cover,
      omega (arith, slid, from, cells, size, i.0.size, more, up, i.5, i.6),
      omega (arith, room),
    )
