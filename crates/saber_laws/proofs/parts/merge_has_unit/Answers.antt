use Rattle.saber_plan.specs.Facts.Parts.{merge-empty_left, merge-empty_right}
use Rattle.saber_laws.proofs.parts.merge_has_unit.Goals as goal

pub returns : goal.returns
returns c = λ a. (merge-empty_left a, merge-empty_right a)
