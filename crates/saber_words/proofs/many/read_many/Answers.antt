use Rattle.std.proofs.Common.{◌∙◌}
use Rattle.std.specs.Option.{ok_or}
use Rattle.std.proofs.lemmas.Result.{IfOk-weaker}
use Rattle.saber_words.specs.Many.{asked_many}
use Rattle.saber_words.specs.declared.commands.WordsFault.TheVariants.{Usage}
use Rattle.saber_words.proofs.ManySizes.{many_of-sized}
use Rattle.saber_words.proofs.Parses.{many_of-met, many_of-refused, read_of}
use Rattle.saber_words.proofs.many.read_many.Goals as goal

pub returns-in_ok-asked-in-Ok : goal.returns-in_ok-asked-in-Ok
returns-in_ok-asked-in-Ok c =
    let met = many_of-met _ _ c.in-Ok.matches c.in_ok-app.ensures c.in-Ok.ensures.kinds c.in-Ok.ensures.matches in
    let read = read_of asked_many _ c.in_ok-asked-in-Ok.field-0 _ met c.in_ok-asked-in-Ok.ensures in
    let sized = IfOk-weaker (ok_or c.in_ok-asked-in-Ok.field-0 Usage) _ _ (λ many taken. many_of-sized _ (asked_many many) taken) read.0 in
    rw c.ok_or.ensures.value (record { taken = read.0; sizes = sized; usage = read.1 })

pub returns-in-Err-clause-usage : goal.returns-in-Err-clause-usage
returns-in-Err-clause-usage c = λ usage.
    many_of-refused _ _ c.in-Err.error c.in_ok-app.ensures c.in-Err.ensures.kinds (λ short.
    let memory = c.fault.ensures.1 (c.kind.ensures ∙ short) in cc)
