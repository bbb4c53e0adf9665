use Rattle.std.proofs.Common.{rules, ◌≡◌, ◌∙◌, IfOk, sym, ap, subst, List, length, map}
use Rattle.clap.specs.Walk.{Rule}
use Rattle.clap.specs.Simple.{App, with_rule}
use Rattle.saber_words.specs.Table.{rule_by, with_rules, IsLocal}
use Rattle.saber_words.specs.declared.table.Argument.{Argument}
use Rattle.saber_words.proofs.Apps.{local_with_arg, with_rules_more, with_rules_none}
use Rattle.saber_words.proofs.table.+with_arguments.Goals as goal

pub returns-in_default : goal.returns-in_default
returns-in_default t c a is =
    let none : length c.args.arguments.now ≡ 0 = search rules in
    subst (λ (b : App). IsLocal c.args.app b) (sym (with_rules_none a c.args.arguments.now none)) is

pub returns : goal.returns
returns t c a is =
    let rule : Rule = rule_by c.in-Some.argument.now in
    let rest : List Rule = map rule_by c.in-Some.rest.now in
    let one = local_with_arg c.args.app c.in_ok-more.more c.arg_of.result a rule c.in_ok-more.ensures is c.arg_of.ensures.local c.arg_of.ensures.rule in
    let same : with_rules (with_rule a rule) rest ≡ with_rules a (map rule_by c.args.arguments.now) =
    with_rules_more a rule rest ∙ ap (λ (l : List Argument). with_rules a (map rule_by l)) (sym c.in-Some.ensures.cases.0) in
    subst (λ (b : App). IfOk c.with_arguments.result (λ new. IsLocal new b)) same (c.with_arguments.ensures (with_rule a rule) one)
