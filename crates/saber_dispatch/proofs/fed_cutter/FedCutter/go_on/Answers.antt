use Rattle.std.proofs.Common.{length, sym, subst, arith}
use Rattle.saber_dispatch.specs.declared.cutter.Cutter.{Cutter}
use Rattle.saber_dispatch.specs.Readings.{reading_of}
use Rattle.saber_dispatch.specs.FedReadings.{AreFew}
use Rattle.saber_dispatch.specs.Feeding.{Begins}
use Rattle.saber_dispatch.proofs.fed_cutter.FedCutter.go_on.Goals as goal

pub fill_begun-requires-clause-begins : goal.fill_begun-requires-clause-begins
fill_begun-requires-clause-begins g c =
    let (q, s, r, k) = c.requires.cuts in
    let taken = g.F.Feed.taken c.args.feed.now in
    let w = g.F.Feed.waiting c.args.feed.now in
    (q, s, r, subst (λ (x : Cutter). Begins q s taken w x r c.in-Ok.begun.before c.in-Ok.begun.rows) (sym c.begin.ensures.cutter) (c.in-Ok.ensures.begins q s taken w r k.gave))

pub returns-in-Ok-clause-cuts : goal.returns-in-Ok-clause-cuts
returns-in-Ok-clause-cuts g c q s r k =
    let taken = g.F.Feed.taken c.args.feed.now in
    let w = g.F.Feed.waiting c.args.feed.now in
    c.fill_begun.ensures.cuts q s r (subst (λ (x : Cutter). Begins q s taken w x r c.in-Ok.begun.before c.in-Ok.begun.rows) (sym c.begin.ensures.cutter) (c.in-Ok.ensures.begins q s taken w r k.gave))

pub returns-in-Ok-clause-short : goal.returns-in-Ok-clause-short
returns-in-Ok-clause-short g c h =
    let w = g.F.Feed.waiting c.args.feed.now in
    let mark = g.F.Feed.mark c.args.feed.now in
    let a = c.args.self.now.cutter in
    let few : AreFew a.size (length c.in-Ok.begun.rows) (reading_of a.reader) w mark = record { few = omega (arith, h.few.few, c.in-Ok.ensures.count); goes = h.few.goes; unmarked = h.few.unmarked } in
    c.fill_begun.ensures.short (subst (λ (x : Cutter). AreFew x.size (length c.in-Ok.begun.rows) (reading_of x.reader) w mark) (sym c.begin.ensures.cutter) few)
