-- Groups as rows of numbers in one list, and what such a list is.
use Rattle.std.specs.Prelude.{◌≡◌, ℕ, zero, suc, ◌+◌, ◌-◌, ◌*◌, ◌≤◌, List, [], ◌∷◌, length, map, take, drop, get_or, nat_abs, ℤ, pos}
use Rattle.std.specs.List.{AllByRecursion}
use Rattle.saber_plan.specs.declared.plans.Fold.{Fold}
use Rattle.saber_plan.specs.declared.plans.Fold.TheVariants.{Sum}
use Rattle.saber_plan.specs.declared.plans.Aggregate.{Aggregate}
use Rattle.saber_plan.specs.Parts.{Number, Numbers}
use Rattle.saber_partial.specs.declared.layout.Layout.{Layout}
use Rattle.saber_partial.specs.Tallies.{folds_of, IsTally}

-- numbers, and how each goes on
abbrev pub with_folds : List Fold → List ℤ → List Number
with_folds [] zs = []
with_folds (f ∷ fs) [] = []
with_folds (f ∷ fs) (z ∷ zs) = record { fold = f; value = z } ∷ with_folds fs zs

-- A row has a key, the count, and the aggregates.
abbrev pub entry_in : Layout → List ℤ → List ℤ × Numbers
entry_in l xs = (take l.keys xs, record { count = nat_abs (get_or xs l.keys (pos 0)); values = with_folds l.folds (drop (l.keys + 1) xs) })

-- n rows of w numbers, one after another
abbrev pub rows_in : ℕ → ℕ → List ℤ → List (List ℤ)
rows_in w zero xs = []
rows_in w (suc n) xs = take w xs ∷ rows_in w n (drop w xs)

abbrev pub entries_in : Layout → ℕ → List ℤ → List (List ℤ × Numbers)
entries_in l n xs = map (entry_in l) (rows_in l.width n xs)

-- a row is as wide as what is in it asks: at most eight keys, a count and 32 aggregates; behind their folds are others of no meaning
pub record IsLayout (l : Layout) : Type 0 where
  pub there : l.keys + 1 ≤ l.width
  pub few : l.width ≤ l.keys + 33
  pub small : l.width ≤ 64
  pub long : length l.folds ≡ 32
  pub rest : AllByRecursion (λ f. f ≡ Sum) (drop (l.width - (l.keys + 1)) l.folds)

-- a layout for keys of n columns and these aggregates
pub record Suits (l : Layout) (n : ℕ) (gs : List Aggregate) : Type 0 where
  pub keys : l.keys ≡ n
  pub width : l.width ≡ n + 1 + length gs
  pub folds : take (length gs) l.folds ≡ map (λ g. g.fold) gs

-- the numbers of a group, as many as its layout tells
pub record IsRow (l : Layout) (xs : List ℤ) : Type 0 where
  pub long : length xs ≡ l.width
  pub count : pos (nat_abs (get_or xs l.keys (pos 0))) ≡ get_or xs l.keys (pos 0)
  pub tally : IsTally (entry_in l xs).1

-- n rows of one layout
pub record AreRows (l : Layout) (n : ℕ) (xs : List ℤ) : Type 0 where
  pub layout : IsLayout l
  pub long : length xs ≡ n * l.width
  pub each : AllByRecursion (IsRow l) (rows_in l.width n xs)

-- a key and numbers, as a layout tells
pub record HasLayout (l : Layout) (e : List ℤ × Numbers) : Type 0 where
  pub keys : length e.0 ≡ l.keys
  pub width : l.keys + 1 + length e.1.values ≡ l.width
  pub folds : folds_of e.1.values ≡ take (length e.1.values) l.folds

abbrev pub HaveLayout : Layout → List (List ℤ × Numbers) → Type 0
HaveLayout l es = AllByRecursion (HasLayout l) es

-- groups of one layout
pub record Table : Type 0 where
  pub layout : Layout
  pub entries : List (List ℤ × Numbers)
