use Rattle.std.proofs.Common.{◌≡◌, ◌-◌, ◌<◌, ◌≤◌, ℕ, List, ℤ, length, get_or}
use Rattle.std.specs.declared.cmp.Ordering.TheVariants.{Less, Greater}
use Rattle.saber_plan.specs.Answers.{key_cmp}
use Rattle.saber_plan.specs.Parts.{Numbers}
use Rattle.saber_partial.specs.Young.{by_key}
use Rattle.saber_partial.proofs.places.place_by.Given as goal

abbrev pub invariant-loop-low : goal.invariant-loop-low
invariant-loop-low l = record {
  between : l.low ≤ l.high;
  within : l.high ≤ length l.groups.entries;
  below : (j : ℕ) (d : List ℤ × Numbers) → j < l.low → key_cmp (get_or (by_key l.order l.groups.entries) j d).0 l.key ≡ Less;
  above : (j : ℕ) (d : List ℤ × Numbers) → l.high ≤ j → j < length l.groups.entries → key_cmp (get_or (by_key l.order l.groups.entries) j d).0 l.key ≡ Greater;
}

abbrev pub decreases-loop-low : goal.decreases-loop-low
decreases-loop-low l = l.high - l.low
