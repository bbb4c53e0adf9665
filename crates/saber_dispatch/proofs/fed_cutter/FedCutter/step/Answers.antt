use Rattle.std.proofs.Common.{sym, ◌∙◌, subst}
use Rattle.saber_dispatch.specs.declared.ends.End.TheVariants.{AllRead, ReadFault}
use Rattle.saber_dispatch.specs.declared.fed_cutter.Step.{Step}
use Rattle.saber_dispatch.specs.FedReadings.{only}
use Rattle.saber_dispatch.specs.Feeding.{StepTo}
use Rattle.saber_dispatch.proofs.Faults.{fault_told}
use Rattle.saber_dispatch.proofs.FedBlocks.{none_begun, agrees_still, cut_step, step_told, step_dry, unmarked_goes}
use Rattle.saber_dispatch.proofs.fed_cutter.FedCutter.step.Goals as goal

pub stop_at-requires-clause-cuts : goal.stop_at-requires-clause-cuts
stop_at-requires-clause-cuts g c =
    let (q, s, r, k) = c.requires in
    let taken = g.F.Feed.taken c.args.feed.now in
    let w = g.F.Feed.waiting c.args.feed.now in
    let a = c.args.self.now in
    (q, s, only taken, only w, r, (none_begun q s taken w a.cutter r a.begun c.in-Some.end c.in-Some.is k.gave).1)

pub returns-in-Some-clause-cuts : goal.returns-in-Some-clause-cuts
returns-in-Some-clause-cuts g c q s r k =
    let taken = g.F.Feed.taken c.args.feed.now in
    let w = g.F.Feed.waiting c.args.feed.now in
    let mark = g.F.Feed.mark c.args.feed.now in
    let a = c.args.self.now in
    let n = none_begun q s taken w a.cutter r a.begun c.in-Some.end c.in-Some.is k.gave in
    subst (λ (x : Step). StepTo x q s taken w mark (record { cutter = c.stop_at.new.self; begun = a.begun }) r) (sym c.step_of.ensures)
    (cut_step c.stop_at.result q s taken w mark c.stop_at.new.self r a.begun n.0 (c.stop_at.ensures.cuts q s (only taken) (only w) r n.1) (agrees_still a.cutter c.stop_at.new.self w mark k.agrees c.stop_at.ensures.stays))

pub returns-in-Some-clause-all : goal.returns-in-Some-clause-all
returns-in-Some-clause-all g c e =
    let (q, s, r, k) = c.requires in
    let w = g.F.Feed.waiting c.args.feed.now in
    let mark = g.F.Feed.mark c.args.feed.now in
    step_told c.step_of.result q s (g.F.Feed.taken c.args.feed.now) w mark (record { cutter = c.stop_at.new.self; begun = c.args.self.now.begun }) r AllRead (returns-in-Some-clause-cuts g c q s r k) e

pub returns-in-Some-clause-cut : goal.returns-in-Some-clause-cut
returns-in-Some-clause-cut g c side e =
    let (q, s, r, k) = c.requires in
    let w = g.F.Feed.waiting c.args.feed.now in
    let mark = g.F.Feed.mark c.args.feed.now in
    step_told c.step_of.result q s (g.F.Feed.taken c.args.feed.now) w mark (record { cutter = c.stop_at.new.self; begun = c.args.self.now.begun }) r (ReadFault side) (returns-in-Some-clause-cuts g c q s r k) e

pub returns-in-None-clause-all : goal.returns-in-None-clause-all
returns-in-None-clause-all g c e =
    let (q, s, r, k) = c.requires in
    let w = g.F.Feed.waiting c.go_on.new.feed in
    let mark = g.F.Feed.mark c.args.feed.now in
    c.go_on.ensures.stands.1 ∙ step_told c.go_on.result q s (g.F.Feed.taken c.args.feed.now) w mark c.go_on.new.self r AllRead (c.go_on.ensures.cuts q s r k) e

pub returns-in-None-clause-cut : goal.returns-in-None-clause-cut
returns-in-None-clause-cut g c side e =
    let (q, s, r, k) = c.requires in
    let w = g.F.Feed.waiting c.go_on.new.feed in
    let mark = g.F.Feed.mark c.args.feed.now in
    let told = step_told c.go_on.result q s (g.F.Feed.taken c.args.feed.now) w mark c.go_on.new.self r (ReadFault side) (c.go_on.ensures.cuts q s r k) e in
    (told.0, c.go_on.ensures.stands.1 ∙ told.1)

pub returns-in-None-clause-dry : goal.returns-in-None-clause-dry
returns-in-None-clause-dry g c e =
    let (q, s, r, k) = c.requires in
    let w = g.F.Feed.waiting c.go_on.new.feed in
    let mark = g.F.Feed.mark c.args.feed.now in
    let told = step_dry c.go_on.result q s (g.F.Feed.taken c.args.feed.now) w mark c.go_on.new.self r (c.go_on.ensures.cuts q s r k) e in
    (told.0, c.go_on.ensures.stands.1 ∙ told.1)

pub returns-in-None-clause-sound : goal.returns-in-None-clause-sound
returns-in-None-clause-sound g c b is side e = let n = c.go_on.new.self.cutter in c.go_on.ensures.sound b is side (fault_told n.flush n.number n.ended side e)

pub returns-in-Some-clause-short : goal.returns-in-Some-clause-short
returns-in-Some-clause-short g c h =
    let (q, s, r, k) = c.requires in
    absurd (unmarked_goes c.args.self.now.cutter (g.F.Feed.waiting c.args.feed.now) (g.F.Feed.mark c.args.feed.now) c.in-Some.end k.agrees c.in-Some.is h.unended h.few.unmarked)
