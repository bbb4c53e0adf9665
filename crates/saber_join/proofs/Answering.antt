-- The answers and the lines of pairs are those of the definitions.
use Rattle.std.proofs.Common.{◌≡◌, ℕ, ◌∷◌, map, pos, sym, ◌∙◌, ap}
use Rattle.std.proofs.lemmas.List.Folds.{flat_map-map}
use Rattle.std.proofs.lemmas.Simd.{map-map}
use Rattle.std.specs.FinMap.{entries}
use Rattle.saber_plan.specs.declared.plans.Shape.TheVariants.{Join}
use Rattle.saber_plan.specs.Trees.{Tree}
use Rattle.saber_plan.specs.Answers.{Entry, line}
use Rattle.saber_plan.specs.Parts.{Part, part_lines, part_answers, answers_in, group_answer}
use Rattle.saber_join.specs.Found.{lines_for, pair_lines, values_in}

pub answers_of_part : (q : Tree) → q.shape ≡ Join → (p : Part) → values_in p ≡ part_answers q p
answers_of_part q e p = sym (map-map (λ (e : Entry). e.1) (group_answer Join q.items) (entries p)) ∙ ap (λ s. map (λ (e : Entry). e.1) (map (group_answer s q.items) (entries p))) (sym e)

pub lines_of_part : (q : Tree) → q.shape ≡ Join → (i : ℕ) (p : Part) → pair_lines i p ≡ part_lines q i p
lines_of_part q e i p = ap (lines_for i) (answers_of_part q e p) ∙ flat_map-map (λ zs. line (pos i ∷ zs)) (λ (e : Entry). e.1) (answers_in q p)
