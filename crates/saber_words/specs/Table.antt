-- The table of commands, as `clap` is told of it.
use Rattle.std.specs.Prelude.{◌≡◌, List, [], ◌++◌, map, true, false}
use Rattle.clap.specs.Walk.{Rule, Text}
use Rattle.clap.specs.Simple.{App, Shape, app_of, new_shape, shape_of}
use Rattle.clap.specs.declared.builder.command.Command.{Command}
use Rattle.clap.specs.declared.builder.command.Command.TheViews.{out-Command}
use Rattle.saber_words.specs.Numbers.{number_rule, numeric_of}
use Rattle.saber_words.specs.Flags.{flag_rule}
use Rattle.saber_words.specs.Demo.{positional_rule}
use Rattle.saber_words.specs.Commands.{optional, required_rule, saber_shape}
use Rattle.saber_words.specs.declared.table.Argument.{Argument}
use Rattle.saber_words.specs.declared.table.Argument.TheVariants as argument

-- what an argument is for `clap`
abbrev pub rule_by : Argument → Rule
rule_by (argument.Needed name) = required_rule name.now
rule_by (argument.Optional name) = optional name.now
rule_by (argument.Numeral option) = positional_rule (numeric_of option)
rule_by (argument.Number option) = number_rule (numeric_of option)
rule_by (argument.Flag name) = flag_rule name.now

-- a subcommand of this name with these arguments
abbrev pub shape_by : Text → List Argument → Shape
shape_by name arguments = record (new_shape name) { rules = map rule_by arguments }

-- a program without global arguments, which is this one
abbrev pub IsLocal : Command → App → Type 0
IsLocal c a = (app_of c ≡ a) × ((out-Command c).has_globals ≡ false)

-- the same of a subcommand
abbrev pub HasShape : Shape → Command → Type 0
HasShape s c = (shape_of c ≡ s) × ((out-Command c).has_globals ≡ false)

-- with these behind its arguments
abbrev pub with_rules : App → List Rule → App
with_rules a rules = record a { top = record a.top { rules = a.top.rules ++ rules } }

-- the program without its subcommands
abbrev pub bare_saber : App
bare_saber = record { top = record saber_shape { is_leaf = true }; subs = [] }
