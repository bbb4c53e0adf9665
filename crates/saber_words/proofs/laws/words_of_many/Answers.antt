use Rattle.std.proofs.Common.{refl}
use Rattle.clap.proofs.OnLiterals.{clap_on_literals}
use Rattle.saber_words.specs.Many.{many_of}
use Rattle.saber_words.proofs.ManySizes.{many_of-sized}
use Rattle.saber_words.proofs.ManyWords.{many_of-files, many_of-other}
use Rattle.saber_words.proofs.laws.words_of_many.Goals as goal

pub returns-clause-empty : goal.returns-clause-empty
unfolding many_of clap_on_literals
returns-clause-empty c = refl

pub returns-clause-alone : goal.returns-clause-alone
unfolding many_of clap_on_literals
returns-clause-alone c = λ program. refl

pub returns-clause-files : goal.returns-clause-files
returns-clause-files c = many_of-files

pub returns-clause-other : goal.returns-clause-other
returns-clause-other c = many_of-other

pub returns-clause-sizes : goal.returns-clause-sizes
returns-clause-sizes c = many_of-sized
