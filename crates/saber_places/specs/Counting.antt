-- Rows counted by their key lists.
use Rattle.std.specs.Prelude.{◌≡◌, ◌≤◌, ◌<◌, ℕ, List, [], ◌∷◌, ◌++◌, length, ℤ, Option, Some, None}
use Rattle.std.specs.List.{AllByRecursion}
use Rattle.saber_plan.specs.declared.rows.Row.{Row}
use Rattle.saber_plan.specs.declared.rows.Side.TheVariants.{Left}
use Rattle.saber_plan.specs.Trees.{Tree}
use Rattle.saber_plan.specs.Checked.{columns_on}
use Rattle.saber_plan.specs.Answers.{substream}
use Rattle.saber_plan.specs.Tasks.{places_after}
use Rattle.saber_places.specs.declared.places.Places.{Places}
use Rattle.saber_places.specs.Numbering.{by_list}
use Rattle.saber_places.specs.Counts.{count_of}

-- These rows are counted: so many have each key list of the columns of PARTITION BY.
pub record Counts (q : Tree) (xs : List Row) (p : Places) : Type 0 where
  pub columns : p.columns.items ≡ q.partition
  pub some : 1 ≤ length q.partition
  pub few : length q.partition ≤ 8
  pub one : length q.streams ≡ 1
  pub there : AllByRecursion (λ k. k < columns_on q.streams Left) q.partition
  pub long : length p.counts.items ≡ length p.known
  pub count : (k : List ℤ) → count_of (by_list p.known p.counts.items) k ≡ length (substream q k xs)

-- so are they where the query has PARTITION BY; else nothing is kept
abbrev pub AreCounted : Tree → List Row → Option Places → Type 0
AreCounted q xs None = q.partition ≡ []
AreCounted q xs (Some p) = Counts q xs p

-- where rows stand in their substreams, behind others; only a query with PARTITION BY asks for it
abbrev pub places_behind : Tree → List ℕ → List Row → List Row → List ℕ
places_behind q [] xs rows = []
places_behind q (k ∷ ks) xs rows = places_after q xs rows

-- whatever rows were counted, these are the places of those behind them, and they are counted too
pub record ArePlaced (q : Tree) (xs rows : List Row) (ps : List ℕ) (new : Option Places) : Type 0 where
  pub places : ps ≡ places_behind q q.partition xs rows
  pub counted : AreCounted q (xs ++ rows) new

abbrev pub PlacesOn : List Row → List ℕ → Option Places → Option Places → Type 0
PlacesOn rows ps old new = (q : Tree) (xs : List Row) → AreCounted q xs old → ArePlaced q xs rows ps new
