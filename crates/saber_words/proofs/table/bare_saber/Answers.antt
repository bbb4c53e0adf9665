use Rattle.std.proofs.Common.{ap}
use Rattle.saber_words.proofs.Apps.{set_up}
use Rattle.saber_words.proofs.table.bare_saber.Goals as goal

pub returns : goal.returns
returns c = rw (c.subcommand_required.ensures, c.disable_version_flag.ensures, c.disable_help_subcommand.ensures, c.disable_help_flag.ensures) (ap set_up c.new.ensures.app)
