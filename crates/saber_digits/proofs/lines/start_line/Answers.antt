use Rattle.std.proofs.Common.{◌∙◌, ◌++◌, ◌+◌, ◌-◌, ap, sym, take, append_assoc, arith}
use borrow.Rule.Slice.PartMut.{put_mid}
use Rattle.saber_digits.proofs.Short.{text_at}
use Rattle.saber_digits.proofs.lines.start_line.Goals as goal

pub returns-clause-ok : goal.returns-clause-ok
returns-clause-ok c =
    let at = c.in_ok-at.at in
    let room = c.in_ok-at.ensures.room in
    let long = c.told-line in
    let out = c.with_room.new.out.items in
    let line = c.args.line.now in
    ap (λ l. out ++ take (at + c.args.count) (put_mid at (at + 24 - at) line l)) c.copy_from_slice.ensures.after
    ∙ ap (λ l. out ++ l) (text_at line c.args.text.now at c.args.count c.told-text (omega (arith, room, long)) c.requires.few)
    ∙ sym (append_assoc out (take at line) (take c.args.count c.args.text.now))
    ∙ ap (λ l. l ++ take c.args.count c.args.text.now) c.in_ok-at.ensures.ok
