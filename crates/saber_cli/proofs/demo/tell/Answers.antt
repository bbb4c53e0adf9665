use Rattle.std.proofs.Common.{◌≡◌, ◌∙◌, subst}
use Rattle.saber_words.specs.Demo.{asked_demo}
use Rattle.saber_demo.specs.Summary.{summary}
use Rattle.saber_cli.specs.Puts.{PutsText}
use Rattle.saber_cli.proofs.DemoLemmas.{answer_told, memory_told}
use Rattle.saber_cli.proofs.demo.tell.Goals as goal

pub returns-in-Ok-clause-told : goal.returns-in-Ok-clause-told
returns-in-Ok-clause-told g c =
    let d = asked_demo c.args.command.now in
    let o = c.put.result.outcome in
    let w = c.put.ensures.written in
    let text = c.in-Ok.out.items in
    let puts : PutsText text o w.0 = subst (λ t. PutsText t o w.0) c.deref.ensures.value w.2 in
    let is : text ≡ summary d.rows c.args.answer.text.written = c.in-Ok.ensures ∙ (λ i. summary (c.from.ensures i) (c.text.ensures i)) in
    answer_told d o c.args.answer.text.written c.args.answer.tasks c.put.result.tasks _ _ text w.0 (c.requires.answer c.if-not-whole.false) is c.put.ensures.tasks c.put.ensures.no_tasks w.1 puts c.put.ensures.kinds

pub returns-then-not-whole-clause-told : goal.returns-then-not-whole-clause-told
returns-then-not-whole-clause-told g c = rw (c.lacking.ensures) (memory_told (asked_demo c.args.command.now) (g.K.Sink.written c.args.sink))

pub returns-clause-told : goal.returns-clause-told
returns-clause-told g c = rw (c.lacking-in-Err.ensures) (memory_told (asked_demo c.args.command.now) (g.K.Sink.written c.args.sink))
