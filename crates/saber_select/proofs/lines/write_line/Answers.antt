use Rattle.std.proofs.Common.{◌++◌, ◌∷◌, [], List, ℕ, ◌∙◌, ap, rules, to_z-of_z}
use Rattle.std.proofs.lemmas.List.{take_rest}
use mir.Val.{SFits}
use mir.Syntax.{w128}
use Rattle.std.specs.Fmt.{signed_decimal}
use Rattle.saber_plan.specs.declared.expressions.Product.{Product}
use Rattle.saber_plan.specs.Answers.{items_over}
use Rattle.saber_digits.specs.Cells.{cells}
use Rattle.saber_select.proofs.Lined.{items_line}
use Rattle.saber_select.proofs.lines.write_line.Goals as goal

pub returns : goal.returns
returns c =
    let zs = c.args.row.now.values in
    let is = c.args.items.now in
    let behind : List ℕ → List (List Product) → List ℕ = λ l js. l ++ cells (items_over js zs []) in
    let fits : SFits w128 c.value.result = search rules in
    let first = c.in_ok-write_number.ensures.ok ∙ ap (λ z. c.args.out.now.items ++ signed_decimal z) (to_z-of_z fits ∙ c.value.ensures.value) in
    let values = c.in_ok-write_cells.ensures ∙ (λ j. behind (first j) (take_rest is 1 j)) in
    c.in_ok-push.ensures.items ∙ ap (λ l. l ++ 10 ∷ []) values ∙ items_line c.args.out.now.items zs is c.index-items-0.result c.requires.some c.index-items-0.is
