use Rattle.std.proofs.Common.{sym, ◌∙◌}
use Rattle.saber_sliding.specs.Entries.{suffixes}
use Rattle.saber_sliding.proofs.Entered.{late_none, seen_late, seen_turned_all, sound_turned_all}
use Rattle.saber_sliding.proofs.groups.settle.Goals as goal

pub returns-clause-sound : goal.returns-clause-sound
returns-clause-sound g c = sound_turned_all c.turn.new.front.items c.turn.new.back.items c.turn.new.back_part.part c.in_ok-turn.ensures.back c.in_ok-turn.ensures.part

pub returns-clause-entries : goal.returns-clause-entries
returns-clause-entries g c =
    let front = c.args.front.now.items in
    let back = c.args.back.now.items in
    let p = c.args.back_part.now.part in
    let none = late_none c.args.late.now front back p c.if-not-late.false c.requires in
    let new = c.turn.new in
    seen_turned_all new.front.items new.back.items (suffixes back) new.back_part.part c.in_ok-turn.ensures.front c.in_ok-turn.ensures.back c.in_ok-turn.ensures.part
    ∙ sym (seen_late front back p none.0)
