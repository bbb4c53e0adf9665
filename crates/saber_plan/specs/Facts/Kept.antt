-- Facts on plans without PARTITION BY and a stream word: what is kept of them, and what is added to their text. Any proof may cite them.
use Rattle.std.proofs.Common.{◌≡◌, ℕ, [], ap, ◌∙◌}
use Rattle.std.specs.FinMap.{empty}
use Rattle.saber_plan.specs.Trees.{Tree}
use Rattle.saber_plan.specs.Inputs.{Input}
use Rattle.saber_plan.specs.Checked.{IsPlain}
use Rattle.saber_plan.specs.Answers.{alike, way_of, way, by_way, plain_text, key_text, change_text, text}
use Rattle.saber_plan.specs.Tasks.{Parts, Kept, by_windows, unclosed, unclosed_by_list, last_answers, kept_behind, plain_added, list_added, change_added, added_text}

-- such a plan's windows print their answers as they are, or its rows theirs
pub plain_way : (q : Tree) → IsPlain q → way q ≡ alike
plain_way q h = λ i. way_of (h.no_partition i) (h.no_word i)

module _ (q : Tree) (e : way q ≡ alike) where
  pub alike_text : (r : Input) → text q r ≡ plain_text q r
  unfolding text
  alike_text r = ap (λ w. by_way w (plain_text q r) (key_text q r) (λ c. change_text c q r)) e

  pub alike_added : (r : Input) (x y : ℕ) → added_text q r x y ≡ plain_added q r x y
  unfolding added_text
  alike_added r x y = ap (λ w. by_way w (plain_added q r x y) (list_added q r x y) (λ c. change_added c q r x y)) e

  pub alike_kept : (r : Input) → kept_behind q r ≡ by_windows (unclosed q r)
  unfolding kept_behind
  alike_kept r = ap (λ w. by_way w (by_windows (unclosed q r)) (record { parts = empty; lists = unclosed_by_list q r; answers = [] })
      (λ c. record { parts = unclosed q r; lists = empty; answers = last_answers q r })) e

  -- the open parts, of a store that has no more
  pub alike_parts : (parts : Parts) (r : Input) → by_windows parts ≡ kept_behind q r → parts ≡ unclosed q r
  alike_parts parts r h = ap (λ (k : Kept). k.parts) (h ∙ alike_kept r)
