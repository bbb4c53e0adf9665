-- Lines and answers of groups.
use Rattle.std.specs.Prelude.{◌≡◌, ℕ, ◌+◌, ◌≤◌, List, ◌∷◌, ◌++◌, take, drop, get_or, flat_map, map, ℤ, pos, ◌+ℤ◌}
use Rattle.std.specs.Fmt.{decimal}
use Rattle.saber_plan.specs.declared.expressions.Product.{Product}
use Rattle.saber_plan.specs.declared.plans.Shape.TheVariants.{Group}
use Rattle.saber_plan.specs.Answers.{line}
use Rattle.saber_plan.specs.Checked.{lone}
use Rattle.saber_plan.specs.Parts.{Numbers, answers_of}
use Rattle.saber_partial.specs.declared.headings.Heading.{Heading}
use Rattle.saber_partial.specs.declared.layout.Layout.{Layout}
use Rattle.saber_partial.specs.Gathering.{stepped_numbers}

-- an item is one number of a group alone
abbrev pub IsLone : List Product → Type 0
IsLone e = (k : ℕ) × (e ≡ lone k)

-- the answers of groups
abbrev pub answers_under : List (List Product) → List (List ℤ × Numbers) → List (List ℤ)
answers_under is es = map (λ e. answers_of Group is e.0 e.1) es

-- a line for each
abbrev pub lines_for : ℕ → List (List Product) → List (List ℤ × Numbers) → List ℕ
lines_for i is es = flat_map (λ e. line (pos i ∷ answers_of Group is e.0 e.1)) es

-- a row of a group, with what later rows of it have
abbrev pub joined_row : Layout → List ℤ → List ℤ → List ℤ
joined_row l xs ys =
    take l.keys xs ++ (get_or xs l.keys (pos 0) +ℤ get_or ys l.keys (pos 0)) ∷ stepped_numbers l.folds (drop (l.keys + 1) xs) (drop (l.keys + 1) ys)

-- the text of a window's number
pub record IsHeading (h : Heading) : Type 0 where
  pub few : h.count ≤ 24
  pub text : take h.count h.text ≡ decimal h.window
