-- What a command is for `clap`, step by step as it is built.
use Rattle.std.proofs.Common.{◌≡◌, ◌∙◌, refl, ap, ap₂, true, false, length, map, List, [], ◌∷◌, ◌++◌, append-nil, append_assoc, arith}
use Rattle.clap.specs.Walk.{Rule, Text, rule_of}
use Rattle.clap.specs.Simple.{App, Shape, app_of, new_shape, with_rule, with_subcommand}
use Rattle.clap.specs.Built.{AddsArg, AddsSubcommand}
use Rattle.clap.specs.declared.builder.arg.Arg.{Arg}
use Rattle.clap.specs.declared.builder.command.Command.{Command}
use Rattle.saber_words.specs.Numbers.{Numeric, number_rule}
use Rattle.saber_words.specs.Table.{rule_by, with_rules, HasShape, IsLocal}
use Rattle.saber_words.specs.declared.table.Argument.{Argument}

-- one more argument
pub local_with_arg : (old new : Command) (arg : Arg) (a : App) (r : Rule) → AddsArg old arg new → IsLocal old a → arg.global ≡ false → rule_of arg ≡ r → IsLocal new (with_rule a r)
local_with_arg old new arg a r added is local rule = (added.shape local ∙ ap₂ with_rule is.0 rule, added.globals ∙ rw (is.1, local) refl)

-- one more subcommand
pub app_with_subcommand : (old sub new : Command) (s : Shape) → AddsSubcommand old sub new → HasShape s sub → app_of new ≡ with_subcommand (app_of old) s
app_with_subcommand old sub new s added is = added.shape is.1 ∙ ap (with_subcommand (app_of old)) is.0

-- the settings of the program
abbrev pub set_up : App → App
set_up a = record a { top = record a.top { disable_help_flag = true; disable_help_subcommand = true; disable_version_flag = true; subcommand_required = true } }

-- no argument more
pub with_rules_none : (a : App) (arguments : List Argument) → length arguments ≡ 0 → with_rules a (map rule_by arguments) ≡ a
with_rules_none a [] none = ap (λ (rules : List Rule). record a { top = record a.top { rules = rules } }) (append-nil a.top.rules)
with_rules_none a (argument ∷ arguments) some = let bad : ⊥ = omega (arith, some) in absurd bad

-- the first argument, and then the others
pub with_rules_more : (a : App) (rule : Rule) (rules : List Rule) → with_rules (with_rule a rule) rules ≡ with_rules a (rule ∷ rules)
with_rules_more a rule rules = ap (λ (all : List Rule). record a { top = record a.top { rules = all } }) (append_assoc a.top.rules (rule ∷ []) rules)

-- a subcommand with five options of a number behind these arguments, and before those
abbrev pub with_five : Text → List Rule → List Rule → Numeric → Numeric → Numeric → Numeric → Numeric → Shape
with_five name front back a b c d e = record (new_shape name) { rules = front ++ (number_rule a ∷ number_rule b ∷ number_rule c ∷ number_rule d ∷ number_rule e ∷ back) }

-- what is made of five options is the same for the same options
pub same_five : (f : Numeric → Numeric → Numeric → Numeric → Numeric → Shape) {a b c d e p q r s t : Numeric} → a ≡ p → b ≡ q → c ≡ r → d ≡ s → e ≡ t → f a b c d e ≡ f p q r s t
same_five f one two three four five = rw (one, two, three, four, five) refl
