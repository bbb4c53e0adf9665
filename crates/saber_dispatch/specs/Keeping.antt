-- What is kept for the next block: rows before it, and counts of rows by key list.
use Rattle.std.specs.Prelude.{◌≡◌, List, ◌++◌, Option, IfSome}
use Rattle.saber_plan.specs.declared.rows.Row.{Row}
use Rattle.saber_plan.specs.Windows.{mark_of}
use Rattle.saber_plan.specs.Trees.{Tree}
use Rattle.saber_fragment.specs.declared.blocks.Block.{Block}
use Rattle.saber_fragment.specs.declared.blocks.Earlier.{Earlier}
use Rattle.saber_fragment.specs.Drafts.{EndWith}
use Rattle.saber_places.specs.Counting.{AreCounted, places_behind, PlacesOn}
use Rattle.saber_dispatch.specs.declared.keeper.Keeper.{Keeper}

-- what is kept of these rows, if anything is, are the last of them
abbrev pub KeepsLast : Keeper → List Row → Type 0
KeepsLast k xs = IfSome k.kept (EndWith xs)

-- the same block but for the rows that it has of those before, and where its own stand in their substreams
abbrev pub OnlyAdded : Block → Block → Type 0
OnlyAdded b c = c ≡ record b { earlier = c.earlier; places = c.places }

-- it has where its rows stand behind these
abbrev pub IsPlaced : Tree → List Row → Block → Type 0
IsPlaced q xs b = b.places.items ≡ places_behind q q.partition xs b.rows

-- these rows are counted by their key lists, where the query has PARTITION BY
abbrev pub CountsRows : Keeper → Tree → List Row → Type 0
CountsRows k q xs = AreCounted q xs k.places

-- whatever rows are counted, it has where its own stand behind them, and they are counted too
abbrev pub PlacesNext : Keeper → Block → Keeper → Type 0
PlacesNext old c new = PlacesOn c.rows c.places.items old.places new.places

-- the rows of the block itself, with what stands before them
abbrev pub IsCopyOf : Block → Earlier → Type 0
IsCopyOf b e = (e.before ≡ b.before) × (e.rows ≡ b.rows)

-- whatever the last rows before the block are, it has them if these are such
abbrev pub HasKept : Block → Option Earlier → Block → Type 0
HasKept b kept c = (xs : List Row) → EndWith xs b.earlier → IfSome kept (EndWith xs) → EndWith xs c.earlier

-- whatever rows stand before the block, it is given the last of them
abbrev pub GivesLast : Keeper → Block → Block → Type 0
GivesLast k b c = (xs : List Row) → b.before ≡ mark_of xs → EndWith xs b.earlier → KeepsLast k xs → EndWith xs c.earlier

-- and with its own behind them, the last of all are kept
abbrev pub KeepsOn : Keeper → Block → Keeper → Type 0
KeepsOn old b new = (xs : List Row) → b.before ≡ mark_of xs → KeepsLast old xs → KeepsLast new (xs ++ b.rows)
