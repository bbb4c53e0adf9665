-- What `chain` asks for.
use Rattle.std.specs.Prelude.{◌≡◌, Option, option_map, false}
use Rattle.clap.specs.Walk.{Text}
use Rattle.saber_plan.specs.declared.sizes.Sizes.{Sizes}
use Rattle.saber_plan.specs.Sizes.{SizesFit}
use Rattle.saber_words.specs.declared.commands.Chain.{Chain}

-- a run of a query over its files, and of a second one over the lines that the first writes, each by its name: both in tasks, rings and threads of these
-- sizes, whose lines and slack are those of the first one's files; the end of the input closes no window
pub record AskedChain : Type 0 where
  pub first : Text
  pub second : Text
  pub left : Text
  pub right : Option Text
  pub sizes : Sizes

abbrev pub asked_chain : Chain → AskedChain
asked_chain a = record {
  first = a.first.now;
  second = a.second.now;
  left = a.rows.left.now;
  right = option_map (λ name. name.now) a.rows.right;
  sizes = a.sizes;
}

-- the sizes of a run whose end closes nothing
pub record HasChainSizes (a : AskedChain) : Type 0 where
  pub fit : SizesFit a.sizes
  pub goes_on : a.sizes.flush ≡ false
