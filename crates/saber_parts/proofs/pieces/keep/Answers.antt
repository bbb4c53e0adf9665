use Rattle.saber_fragment.specs.Shown.{windows_by}
use Rattle.saber_parts.specs.WindowFacts.{none_kept, some_kept}
use Rattle.saber_parts.proofs.pieces.keep.Goals as goal

pub returns-then-is_empty : goal.returns-then-is_empty
returns-then-is_empty g c =
    let shown = g.A.Assembles.shown in
    none_kept (windows_by shown c.args.parts.now) c.args.window (shown c.args.part) (c.is_empty.ensures.none c.if-is_empty.true)

pub returns : goal.returns
returns g c = some_kept g.A.Assembles.shown c.args.parts.now c.push.new.self c.args.window c.args.part (c.is_empty.ensures.some c.if-is_empty.false) c.in_ok-push.ensures.ok
