use Rattle.std.proofs.Common.{◌++◌, ◌∙◌, ◌≤◌, length, ap, Ok, arith, length-append}
use Rattle.saber_io.specs.Outside.{left_before}
use Rattle.saber_cli.proofs.TextLemmas.{front-full, front-ended, given_more}
use Rattle.saber_cli.proofs.texts.read_text.Goals as goal

pub returns-then-n-eq0-clause-front : goal.returns-then-n-eq0-clause-front
returns-then-n-eq0-clause-front g c = front-ended _ (g.S.Source.left c.read_piece.new.source) c.read_piece.new.text.items (c.loop-text.invariant.read ∙ c.in_ok-n.ensures.bytes) c.in_ok-n.ensures.short (c.in_ok-n.ensures.end (ap Ok c.if-n-eq0.true))

pub returns-clause-front : goal.returns-clause-front
returns-clause-front g c = front-full _ (g.S.Source.left c.loop-text.source) c.loop-text.text.items c.loop-text.invariant.read (omega arith)

pub returns-then-n-eq0-clause-takes : goal.returns-then-n-eq0-clause-takes
returns-then-n-eq0-clause-takes g c = (c.read_piece.new.text.items, c.in_ok-n.ensures.short, c.loop-text.invariant.read ∙ c.in_ok-n.ensures.bytes)

pub returns-clause-takes : goal.returns-clause-takes
returns-clause-takes g c = (c.loop-text.text.items, c.loop-text.invariant.short, c.loop-text.invariant.read)

pub returns-in_err-n-clause-takes : goal.returns-in_err-n-clause-takes
returns-in_err-n-clause-takes g c =
    let text = c.loop-text.text.items in
    let t = c.read_piece.ensures.takes in
    let few : length (text ++ t.0) ≤ 65537 = let sum = length-append text t.0 in let room = t.1 in let had = c.loop-text.invariant.short in omega (arith, sum, room, had) in
    (text ++ t.0, few, c.loop-text.invariant.read ∙ ap (left_before text) t.2 ∙ given_more text t.0 _)
