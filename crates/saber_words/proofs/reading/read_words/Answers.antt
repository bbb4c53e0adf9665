use Rattle.std.proofs.Common.{◌∙◌}
use Rattle.std.specs.Option.{ok_or}
use Rattle.std.proofs.lemmas.Result.{IfOk-weaker}
use Rattle.saber_words.specs.Commands.{asked_command}
use Rattle.saber_words.specs.declared.commands.WordsFault.TheVariants.{Usage}
use Rattle.saber_words.proofs.Sizes.{command_of-sized}
use Rattle.saber_words.proofs.Parses.{command_of-met, command_of-refused, read_of}
use Rattle.saber_words.proofs.reading.read_words.Goals as goal

pub returns-in-Ok : goal.returns-in-Ok
returns-in-Ok c =
    let met = command_of-met _ _ c.in-Ok.matches c.in_ok-app.ensures c.in-Ok.ensures.kinds c.in-Ok.ensures.matches in
    let read = read_of asked_command _ c.command.result _ met c.command.ensures in
    let sized = IfOk-weaker (ok_or c.command.result Usage) _ _ (λ command taken. command_of-sized _ (asked_command command) taken) read.0 in
    rw c.ok_or.ensures.value (record { taken = read.0; sizes = sized; usage = read.1 })

pub returns-in-Err-clause-usage : goal.returns-in-Err-clause-usage
returns-in-Err-clause-usage c = λ usage.
    command_of-refused _ _ c.in-Err.error c.in_ok-app.ensures c.in-Err.ensures.kinds (λ short.
    let memory = c.fault.ensures.1 (c.kind.ensures ∙ short) in cc)
