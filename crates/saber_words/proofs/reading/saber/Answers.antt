use Rattle.std.proofs.Common.{ap, ◌≡◌, ◌∙◌}
use Rattle.std.proofs.lemmas.Result.{IfOk-weaker}
use Rattle.clap.specs.Simple.{App, app_of, with_subcommand}
use Rattle.saber_words.specs.Commands.{chain_shape, check_shape, demo_shape, run_shape}
use Rattle.saber_words.specs.Table.{bare_saber}
use Rattle.saber_words.proofs.reading.saber.Goals as goal

-- with these subcommands
abbrev one : App
one = with_subcommand bare_saber run_shape

abbrev two : App
two = with_subcommand one check_shape

abbrev three : App
three = with_subcommand two demo_shape

pub returns : goal.returns
returns c =
    let first : app_of c.in_ok-one.one ≡ one = c.in_ok-one.ensures run_shape c.run_app.ensures ∙ ap (λ (a : App). with_subcommand a run_shape) c.bare_saber.ensures in
    let second : app_of c.in_ok-two.two ≡ two = c.in_ok-two.ensures check_shape c.check_app.ensures ∙ ap (λ (a : App). with_subcommand a check_shape) first in
    let third : app_of c.in_ok-three.three ≡ three = c.in_ok-three.ensures demo_shape c.demo_app.ensures ∙ ap (λ (a : App). with_subcommand a demo_shape) second in
    IfOk-weaker c.with_subcommand-4.result _ _ (λ app added. added ∙ ap (λ (a : App). with_subcommand a chain_shape) third) (c.with_subcommand-4.ensures chain_shape c.chain_app.ensures)
