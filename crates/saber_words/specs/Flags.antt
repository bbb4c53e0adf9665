-- Options that take no value.
use Rattle.std.specs.Prelude.{Bool, false, Some, List, codes}
use Rattle.std.specs.Str.{bytes_eq}
use Rattle.std.specs.Option.{option_map_or}
use Rattle.clap.specs.Walk.{Row, Rule, Text, first_of}
use Rattle.clap.specs.Simple.{new_rule}
use Rattle.clap.specs.declared.builder.action.ArgAction.TheVariants.{SetTrue}

-- the option, for `clap`
abbrev pub flag_rule : Text → Rule
flag_rule name = record (new_rule name) { long = Some name; action = Some SetTrue }

-- it was given: `clap` then gives it the value `true`, and `false` else
abbrev pub flag_by : Text → List Row → Bool
flag_by name rows = option_map_or (λ value. bytes_eq value (codes "true")) (first_of name rows) false
