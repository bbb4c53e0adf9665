use Rattle.std.proofs.Common.{None, false, refl, ◌∙◌}
use Rattle.saber_plan.specs.Trees.{tree_of}
use Rattle.saber_dispatch.proofs.Beginning.{cuts_nothing}
use Rattle.saber_dispatch.proofs.Serving.{back_alone}
use Rattle.saber_laws.proofs.CheckedLaws.{checked_fit}
use Rattle.saber_dispatch.proofs.cutter.Cutter.new.Goals as goal

pub returns-clause-cuts : goal.returns-clause-cuts
returns-clause-cuts c had suits =
    let q = tree_of c.args.plan.now in
    let s = c.args.sizes.now in
    cuts_nothing q c.in_ok-reader.ensures.checked (checked_fit q c.in_ok-reader.ensures.checked) s c.requires.sizes
    (record { alloc = c.args.alloc; reader = c.in_ok-reader.reader; lasts = c.lasts_for.result; size = s.task; room = c.from.result; flush = c.end_counts.result; mark = record { left = 0; right = 0; last = None; ended = false }; number = 0; ended = None })
    refl c.from.ensures c.end_counts.ensures.counts c.in_ok-reader.ensures.fresh refl refl refl (c.lasts_for.ensures s.task) had suits

pub returns-clause-serves : goal.returns-clause-serves
returns-clause-serves c p checked alike had suits =
    let q = tree_of c.args.plan.now in
    let s = c.args.sizes.now in
    cuts_nothing p checked (checked_fit p checked) s c.requires.sizes
    (record { alloc = c.args.alloc; reader = c.in_ok-reader.reader; lasts = c.lasts_for.result; size = s.task; room = c.from.result; flush = c.end_counts.result; mark = record { left = 0; right = 0; last = None; ended = false }; number = 0; ended = None })
    refl c.from.ensures (c.end_counts.ensures.counts ∙ alike.ends) (c.in_ok-reader.ensures.fresh ∙ alike.reader) refl refl refl (back_alone q p s.task c.lasts_for.result alike.alone (c.lasts_for.ensures s.task)) had suits
