use Rattle.std.proofs.Common.{refl}
use Rattle.clap.proofs.OnLiterals.{clap_on_literals}
use Rattle.saber_words.specs.Commands.{command_of, is_taken}
use Rattle.saber_words.proofs.Levels.{command_of-check, command_of-run}
use Rattle.saber_words.proofs.DemoWords.{command_of-demo}
use Rattle.saber_words.proofs.ChainWords.{command_of-chain}
use Rattle.saber_words.proofs.OtherWords.{command_of-other}
use Rattle.saber_words.proofs.laws.words_of_file_names.Goals as goal

pub returns-clause-empty : goal.returns-clause-empty
unfolding command_of is_taken clap_on_literals
returns-clause-empty c = refl

pub returns-clause-alone : goal.returns-clause-alone
unfolding command_of is_taken clap_on_literals
returns-clause-alone c = λ program. refl

pub returns-clause-run : goal.returns-clause-run
returns-clause-run c = command_of-run

pub returns-clause-check : goal.returns-clause-check
returns-clause-check c = command_of-check

pub returns-clause-demo : goal.returns-clause-demo
returns-clause-demo c = command_of-demo

pub returns-clause-chain : goal.returns-clause-chain
returns-clause-chain c = command_of-chain

pub returns-clause-other : goal.returns-clause-other
returns-clause-other c = command_of-other
