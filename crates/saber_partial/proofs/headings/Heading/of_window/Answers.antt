use Rattle.std.proofs.Common.{◌≡◌, ◌∙◌, ap, arith, pos, rules, take, to_z-of_z}
use mir.Val.{SFits}
use mir.Syntax.{w128}
use Rattle.std.specs.Fmt.{decimal, signed_decimal}
use Rattle.saber_partial.proofs.Headed.{few_digits}
use Rattle.saber_partial.proofs.headings.Heading.of_window.Goals as goal

pub returns-clause-heading : goal.returns-clause-heading
returns-clause-heading c =
    let fits : SFits w128 c.from.result = search rules in
    let is : c.from.result ≡ pos c.args.window = c.from.ensures in
    let text : take c.put_number-count.result c.put_number-count.new.line ≡ decimal c.args.window =
    c.put_number-count.ensures.written ∙ ap signed_decimal (to_z-of_z fits ∙ is) in
    let short = c.put_number-count.ensures.short in
    record {
      few = few_digits c.args.window c.put_number-count.result c.put_number-count.new.line c.put_number-count.array_long (omega (arith, short)) (omega arith) text;
      text = text;
    }
