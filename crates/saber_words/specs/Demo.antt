-- What `demo` asks for.
use Rattle.std.specs.Prelude.{◌≡◌, ◌≤◌, ◌^◌, ℕ, true, false, [], Option, Some, None, codes}
use Rattle.clap.specs.Walk.{Rule}
use Rattle.clap.specs.Simple.{new_rule}
use Rattle.saber_plan.specs.declared.sizes.Sizes.{Sizes}
use Rattle.saber_plan.specs.Sizes.{FileLimits, SizesFit, limits_of}
use Rattle.saber_words.specs.Numbers.{Numeric, parser_of}
use Rattle.saber_words.specs.declared.commands.Demo.{Demo}

-- a run over so many rows that this seed gives, in these sizes
pub record AskedDemo : Type 0 where
  pub seed : ℕ
  pub rows : ℕ
  pub sizes : Sizes

abbrev pub asked_demo : Demo → AskedDemo
asked_demo d = record { seed = d.seed; rows = d.rows; sizes = d.sizes }

-- SEED: what the generator begins with. A positional that has to be given has no usual value.
abbrev pub seed : Numeric
seed = record { name = codes "seed"; least = 0; most = 2147483647; usual = [] }

-- ROWS
abbrev pub rows : Numeric
rows = record { name = codes "rows"; least = 0; most = 1048576; usual = [] }

-- a positional of one number, which has to be given, for `clap`
abbrev pub positional_rule : Numeric → Rule
positional_rule o = record (new_rule o.name) { required = true; parser = Some (parser_of o) }

-- what is asked of the lines of generated rows
abbrev pub generated_limits : FileLimits
generated_limits = record { most = 2 ^ 40; slack = 0 }

-- a seed of 31 bits, at most 2^20 rows, and the sizes of a run whose end closes nothing
pub record HasDemoSizes (d : AskedDemo) : Type 0 where
  pub small_seed : d.seed ≤ 2147483647
  pub few_generated : d.rows ≤ 2 ^ 20
  pub fit : SizesFit d.sizes
  pub limits : limits_of d.sizes ≡ generated_limits
  pub goes_on : d.sizes.flush ≡ false

-- what `demo` asks for, by the numbers and the sizes that were found
abbrev pub demo_with : Option ℕ → Option ℕ → Option Sizes → Option AskedDemo
demo_with (Some seed) (Some rows) (Some sizes) = Some (record { seed = seed; rows = rows; sizes = sizes })
demo_with _ _ _ = None
