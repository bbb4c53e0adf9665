-- The text of the demo's query has the plan that is built, and so that plan is checked.
use Rattle.std.proofs.Common.{◌≡◌, ℕ, List, [], ◌∷◌, map, Some, None, false, codes, refl, ◌∙◌, subst, arith, rules, Result, Ok, Err}
use Rattle.std.specs.Prelude.{Contains}
use Rattle.saber_plan.specs.declared.expressions.Product.{Product}
use Rattle.saber_plan.specs.declared.plans.Aggregate.{Aggregate}
use Rattle.saber_plan.specs.declared.plans.Shape.TheVariants.{Group}
use Rattle.saber_plan.specs.declared.windows.Stream.{Stream}
use Rattle.saber_plan.specs.Trees.{tree}
use Rattle.saber_plan.specs.Checked.{IsChecked}
use Rattle.saber_query.specs.declared.token.Placed.{Placed}
use Rattle.saber_query.specs.declared.fault.QueryFault.{QueryFault}
use Rattle.saber_query.specs.declared.tree.Select.{Select}
use Rattle.saber_query.specs.declared.tree.Expr.{Expr}
use Rattle.saber_query.specs.declared.tree.Item.TheVariants.{Value, Count, Sum}
use Rattle.saber_query.specs.declared.tree.Factor.TheVariants.{Column}
use Rattle.saber_query.specs.declared.tree.Measure.TheVariants.{Range}
use Rattle.saber_query.specs.Tokens.{keyword_among}
use Rattle.saber_query.specs.Lexing.{lexed_text, begin, number_more, step, last_token, lex_from}
use Rattle.saber_query.specs.Trees.{query_of}
use Rattle.saber_query.specs.Longest.{Matches}
use Rattle.saber_query.specs.Means.{MeansTree, byte_of}
use Rattle.saber_query.specs.Parsed.{Parsed, IsParsed}
use Rattle.saber_check.specs.declared.fault.Fault.{Fault}
use Rattle.saber_check.specs.Least.{each}
use Rattle.saber_check.specs.Faults.{column_name_faults}
use Rattle.saber_check.specs.Walked.{faults, column_faults, factor_faults, prod_faults, expr_faults, item_faults, decl_faults, window_faults, source_faults, second_faults, key_faults, group_faults, running_product, product_faults, sum_faults, running_sum}
use Rattle.saber_check.specs.Texts.{HasPlan}
use Rattle.saber_query.proofs.LongestLemmas.{reads_longest}
use Rattle.saber_check.proofs.FrontLaws.{a_plan_is_checked}
use Rattle.saber_check.proofs.WalkedLaws.{same_faults}
use Rattle.saber_demo.specs.Query.{demo_query, demo_tree}

-- a column by itself
abbrev named : List ℕ → Expr
named n = record { first = record { first = Column (record { first = n; second = None }); more = [] }; more = [] }

-- the query as a tree of the grammar
abbrev demo_select : Select
demo_select = record {
  decl = record { name = codes "D"; first = codes "t"; more = codes "g" ∷ codes "v" ∷ [] };
  decls = [];
  word = None;
  item = Value (named (codes "g"));
  items = Count ∷ Sum (named (codes "v")) ∷ [];
  from = record { name = codes "D"; window = Some (record { measure = Range; size = 8; slide = 4 }) };
  second = None;
  predicate = None;
  group = Some (record { first = record { first = codes "g"; second = None }; more = [] });
  closed = false;
}

abbrev those : Result (List Placed) QueryFault → List Placed
those (Ok ps) = ps
those (Err f) = []

-- the tokens of its text
abbrev tokens : List Placed
tokens = those (lexed_text demo_query)

abbrev demo_parsed : Parsed
demo_parsed = record { select = demo_select; starts = map byte_of tokens }

lexed : lexed_text demo_query ≡ Ok tokens
unfolding begin number_more step last_token lex_from keyword_among
lexed = refl

matched : Matches 0 demo_query (Ok tokens)
matched = (reads_longest demo_query (Ok tokens)).0 lexed

means : MeansTree demo_query demo_parsed
unfolding begin number_more step last_token lex_from keyword_among
means = record { short = omega arith; placed = tokens; lexed = matched; words = refl; starts = refl; shallow = omega arith }

parsed : IsParsed demo_select (map byte_of tokens)
unfolding begin number_more step last_token lex_from keyword_among
parsed = record { each_word = refl; short = omega arith; real = search rules; shallow = omega arith }

no_faults : faults (query_of demo_select) ≡ []
unfolding faults column_faults factor_faults prod_faults expr_faults item_faults column_name_faults decl_faults window_faults source_faults second_faults key_faults group_faults running_product product_faults sum_faults running_sum each
no_faults = refl

pub demo_query_has_plan : HasPlan demo_query demo_tree
demo_query_has_plan = record {
  query = demo_parsed;
  parsed = parsed;
  means = means;
  faultless = λ i c h. let f = subst (λ (fs : List Fault). Contains fs (record { index = i; cause = c })) (same_faults (query_of demo_select) ∙ no_faults) h in omega (arith, f.1);
  same = refl;
}

pub demo_is_checked : IsChecked demo_tree
demo_is_checked = a_plan_is_checked demo_query demo_tree demo_query_has_plan

-- and so are its parts, however they were made
pub demo_parts_checked : (ss : List Stream) (gs : List Aggregate) (is : List (List Product)) (ks ps : List ℕ) → ss ≡ demo_tree.streams → gs ≡ demo_tree.aggregates → is ≡ demo_tree.items → ks ≡ demo_tree.keys → ps ≡ []
    → IsChecked (tree Group ss gs is ks None ps None)
demo_parts_checked ss gs is ks ps a b c d e = rw (a, b, c, d, e) demo_is_checked
