-- One more row after placed rows, and its pairs with them.
use Rattle.std.proofs.Common.{◌≡◌, ◌<◌, List, [], ◌∷◌, ◌++◌, filter, ◌∙◌, ap, arith}
use Rattle.saber_plan.specs.declared.rows.Row.{Row}
use Rattle.saber_plan.specs.declared.windows.Mark.{Mark}
use Rattle.saber_plan.specs.Windows.{place, placed_after, mark_after, has}
use Rattle.saber_plan.specs.Answers.{frame}
use Rattle.saber_plan.specs.Parts.{pair_part}
use Rattle.saber_laws.specs.Pairs.{after_rows, WindowsGetPairs}
use Rattle.saber_plan.specs.Facts.Lists.{Each}
use Rattle.saber_plan.specs.Facts.Rows.{placed-append}
use Rattle.saber_laws.proofs.PairLaws.{placed_below, placed_rising, behind, behind_after}
use Rattle.saber_laws.proofs.PairingLaws.{window-push}

all_earlier : (m : Mark) (xs : List Row) (r : Row) → Each (λ y. place y < place (after_rows m xs r)) (placed_after m xs)
all_earlier m xs r = let all = behind_after m xs in placed_below m xs (behind (mark_after m xs)) (omega (arith, all))

one_more : (m : Mark) (xs : List Row) (r : Row) → placed_after m (xs ++ r ∷ []) ≡ placed_after m xs ++ after_rows m xs r ∷ []
unfolding placed_after
one_more m xs r = placed-append m xs (r ∷ [])

pub windows_get_pairs : WindowsGetPairs
windows_get_pairs q x i m xs r h = ap (λ l. pair_part q x (filter (has (frame q) i) l)) (one_more m xs r) ∙ window-push q x i (placed_after m xs) (after_rows m xs r) (placed_rising m xs) (all_earlier m xs r) h
