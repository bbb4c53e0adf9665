use Rattle.std.proofs.Common.{◌≡◌, ◌∙◌, inl, inr, sym, ap, refl, false, arith}
use Rattle.saber_engine.proofs.FedDry.{came_on, came_at_last}
use Rattle.std.specs.Prelude.{Option, Some, None, is_some}
use Rattle.saber_engine.proofs.fed_blocks.FedBlocksSupplySaberWork.next.Goals as goal

is_none : {A : Type 0} (o : Option A) → is_some o ≡ false → o ≡ None
is_none None e = refl
is_none (Some x) e = absurd (let h = e in cc)

pub loop-init : goal.loop-init
loop-init g c = (is_none c.args.self.now.end (sym c.is_some.ensures ∙ c.if-is_some.false), (λ told d h. h), inl (refl, refl, refl))

pub try_next-requires-clause-given : goal.try_next-requires-clause-given
try_next-requires-clause-given g c = let r = c.requires in (r.0, r.1, c.loop.invariant.1 r.0 r.1 r.2)

pub loop-preserved : goal.loop-preserved
loop-preserved g c =
    let f = g.F.Feed in let came = c.try_next.ensures.came c.in_default.is in (
      c.try_next.ensures.goes c.in_default.is,
      (λ told d h. c.in_default.ensures.gives told d (c.loop.invariant.1 told d h)),
      inr (came_on c.loop.counter (f.taken c.args.from.now) (f.taken c.loop.from) (f.taken c.try_next.new.feed) (f.waiting c.loop.from) (f.waiting c.try_next.new.feed) (f.mark c.args.from.now) (f.mark c.loop.from) c.loop.invariant.2 came.0 came.1),
    )

pub returns-in-Some-clause-gives : goal.returns-in-Some-clause-gives
returns-in-Some-clause-gives g c told d h = c.in-Some.ensures.gives told d (c.loop.invariant.1 told d h)

pub returns-clause-gives : goal.returns-clause-gives
returns-clause-gives g c told d h = c.loop.invariant.1 told d h

pub returns-in-Some-clause-dry : goal.returns-in-Some-clause-dry
returns-in-Some-clause-dry g c e = inl (c.try_next.ensures.dry (c.in-Some.is ∙ ap Some e))

pub returns-clause-dry : goal.returns-clause-dry
returns-clause-dry g c e =
    let f = g.F.Feed in
    inr (came_at_last c.loop.counter (f.taken c.args.from.now) (f.taken c.loop.from) (f.waiting c.loop.from) (f.mark c.args.from.now) (f.mark c.loop.from) (λ z. omega (arith, c.loop-test.false, z)) c.loop.invariant.2)
