-- Options that take a whole number.
use Rattle.std.specs.Prelude.{◌&&◌, nat_le, false, ℕ, List, [], ◌∷◌, Option, Some, None, if◌then◌else◌, option_and_then}
use Rattle.std.specs.Str.Parse.{digits_value, without_leading_plus}
use Rattle.clap.specs.Walk.{Row, Rule, Text, one_of}
use Rattle.clap.specs.Simple.{new_rule}
use Rattle.clap.specs.ValueTests.{accepts}
use Rattle.clap.specs.declared.builder.value_parser.ValueParser.{ValueParser}
use Rattle.clap.specs.declared.builder.value_parser.ValueParser.TheVariants.{Unsigned}
use Rattle.saber_words.specs.declared.numbers.NumberOption.{NumberOption}

-- an option of one value: its name behind `--`, the least and the most number that it takes, and the
-- text that stands for its value where it is not given
pub record Numeric : Type 0 where
  pub name : Text
  pub least : ℕ
  pub most : ℕ
  pub usual : Text

-- the option that the code has
abbrev pub numeric_of : NumberOption → Numeric
numeric_of o = record { name = o.name.now; least = o.least; most = o.most; usual = o.usual.now }

-- the values that it takes, for `clap`
abbrev pub parser_of : Numeric → ValueParser
parser_of o = Unsigned o.least o.most

-- the option, for `clap`
abbrev pub number_rule : Numeric → Rule
number_rule o = record (new_rule o.name) { long = Some o.name; parser = Some (parser_of o); defaults = o.usual ∷ [] }

-- the number that a value of the option writes: digits, with or without a `+` before them
abbrev pub number_in : Numeric → Text → Option ℕ
number_in o text = if accepts false (parser_of o) text then Some (digits_value 10 (without_leading_plus text)) else None

-- the number of the option, by the values that were found
abbrev pub number_by : Numeric → List Row → Option ℕ
number_by o rows = option_and_then (number_in o) (one_of o.name rows)

-- the number, where the option takes it
abbrev pub within : Numeric → ℕ → Option ℕ
within o n = if nat_le o.least n && nat_le n o.most then Some n else None
