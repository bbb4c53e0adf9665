-- Sources in lists beside their aggregates.
use Rattle.std.proofs.Common.{◌≡◌, ℕ, zero, suc, ◌+◌, ◌≤◌, ◌<◌, ◌^◌, List, [], ◌∷◌, ◌++◌, length, take, get_or, set, ℤ, pos, sym, subst₂, arith}
use Rattle.std.proofs.lemmas.List.{length-take-le, take_more, take_more_set}
use Rattle.std.specs.List.{AllByRecursion}
use Rattle.saber_plan.specs.declared.plans.Aggregate.{Aggregate}
use Rattle.saber_partial.specs.declared.sources.Source.{Source}
use Rattle.saber_partial.specs.Flat.{with_folds}
use Rattle.saber_partial.specs.Gathering.{plan_folds, HasRoom}
use Rattle.saber_partial.specs.Sources.{AreSources, IsSource}
use Rattle.saber_partial.specs.Tallies.{SumWithin}

pub sources_long : (gs : List Aggregate) (ss : List Source) → AreSources gs ss → length gs ≤ length ss
sources_long [] ss h = omega arith
sources_long (g ∷ gs) [] h = absurd h
sources_long (g ∷ gs) (s ∷ ss) h = let rest = sources_long gs ss h.1 in omega (arith, rest)

pub source_at : (gs : List Aggregate) (ss : List Source) (k : ℕ) (g : Aggregate) (s : Source) → AreSources gs ss → k < length gs → IsSource (get_or gs k g).expr (get_or ss k s)
source_at [] ss k g s h low = absurd (omega (arith, low))
source_at (x ∷ gs) [] k g s h low = absurd h
source_at (x ∷ gs) (y ∷ ss) zero g s h low = h.0
source_at (x ∷ gs) (y ∷ ss) (suc k) g s h low = source_at gs ss k g s h.1 (omega (arith, low))

append_one : (gs : List Aggregate) (ss : List Source) (g : Aggregate) (s : Source) → length gs ≡ length ss → AreSources gs ss → IsSource g.expr s → AreSources (gs ++ g ∷ []) (ss ++ s ∷ [])
append_one [] [] g s e h here = (here, tt)
append_one [] (y ∷ ss) g s e h here = absurd (omega (arith, e))
append_one (x ∷ gs) [] g s e h here = absurd h
append_one (x ∷ gs) (y ∷ ss) g s e h here = (h.0, append_one gs ss g s (omega (arith, e)) h.1 here)

pub sources_more : (gs : List Aggregate) (ss : List Source) (k : ℕ) (g : Aggregate) (s : Source) → k < length gs → k < length ss
    → AreSources (take k gs) (take k ss) → IsSource (get_or gs k g).expr s → AreSources (take (k + 1) gs) (take (k + 1) (set ss k s))
sources_more gs ss k g s low wide h here =
    let a = length-take-le k gs (omega (arith, low)) in
    let b = length-take-le k ss (omega (arith, wide)) in
    subst₂ AreSources (sym (take_more gs k g low)) (sym (take_more_set ss k s wide)) (append_one (take k gs) (take k ss) (get_or gs k g) s (omega (arith, a, b)) h here)

pub sources_front : (gs : List Aggregate) (n : ℕ) (ss : List Source) → AreSources gs (take n ss) → AreSources gs ss
sources_front [] n ss h = tt
sources_front (g ∷ gs) zero ss h = absurd h
sources_front (g ∷ gs) (suc n) [] h = absurd h
sources_front (g ∷ gs) (suc n) (s ∷ ss) h = (h.0, sources_front gs n ss h.1)

-- a number to which a row can be added
pub room_at : (gs : List Aggregate) (xs : List ℤ) (k : ℕ) (g : Aggregate) → k < length gs → length xs ≡ length gs → AllByRecursion HasRoom (with_folds (plan_folds gs) xs)
    → SumWithin (2 ^ 126) (get_or gs k g).fold (get_or xs k (pos 0))
room_at [] xs k g low e h = absurd (omega (arith, low))
room_at (x ∷ gs) [] k g low e h = absurd (omega (arith, e))
room_at (x ∷ gs) (z ∷ xs) zero g low e h = h.0
room_at (x ∷ gs) (z ∷ xs) (suc k) g low e h = room_at gs xs k g (omega (arith, low)) (omega (arith, e)) h.1
