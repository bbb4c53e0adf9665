use Rattle.std.proofs.Common.{ap, ◌∙◌}
use Rattle.std.proofs.lemmas.Result.{IfOk-weaker}
use Rattle.clap.specs.Simple.{App, with_subcommand}
use Rattle.saber_words.specs.Many.{many_shape}
use Rattle.saber_words.proofs.many.program.Goals as goal

pub returns : goal.returns
returns c =
    IfOk-weaker c.with_subcommand.result _ _ (λ app added. added ∙ ap (λ (a : App). with_subcommand a many_shape) c.bare_saber.ensures) (c.with_subcommand.ensures many_shape c.many_app.ensures)
