use Rattle.std.proofs.Common.{sym, ◌∙◌, ap}
use Rattle.saber_partial.specs.Piles.{piled_part}
use Rattle.saber_sliding.specs.Entries.{suffixes}
use Rattle.saber_sliding.proofs.Entered.{late_none, seen_late, seen_turned_all, sound_turned_all}
use Rattle.saber_sliding.proofs.ones.settle.Goals as goal

pub take_over-requires-clause-chained : goal.take_over-requires-clause-chained
take_over-requires-clause-chained g c = (late_none c.args.late.now c.args.front.now c.args.back.now (piled_part c.args.all.now) c.if-not-late.false c.requires.sound).1

pub take_over-requires-clause-none : goal.take_over-requires-clause-none
take_over-requires-clause-none g c = (late_none c.args.late.now c.args.front.now c.args.back.now (piled_part c.args.all.now) c.if-not-late.false c.requires.sound).0

pub returns-clause-sound : goal.returns-clause-sound
returns-clause-sound g c = sound_turned_all c.take_over.new.self c.take_over.new.back (piled_part c.clear.new.self) c.take_over.ensures.back (ap piled_part c.clear.ensures)

pub returns-clause-entries : goal.returns-clause-entries
returns-clause-entries g c =
    let none = late_none c.args.late.now c.args.front.now c.args.back.now (piled_part c.args.all.now) c.if-not-late.false c.requires.sound in
    seen_turned_all c.take_over.new.self c.take_over.new.back (suffixes c.args.back.now) (piled_part c.clear.new.self) c.take_over.ensures.front c.take_over.ensures.back (ap piled_part c.clear.ensures)
    ∙ sym (seen_late c.args.front.now c.args.back.now (piled_part c.args.all.now) none.0)
