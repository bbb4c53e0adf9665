-- The code's own rows and stores as the definitions see them.
use Rattle.std.specs.Prelude.{◌≡◌, List, length, map, ℤ}
use Rattle.std.specs.FinMap.{from_entries}
use Rattle.arrayvec.specs.ArrayVec.{ArrayVec}
use Rattle.saber_plan.specs.Answers.{key_cmp}
use Rattle.saber_plan.specs.Parts.{Part}
use Rattle.saber_places.specs.Numbering.{by_list}
use Rattle.saber_partition.specs.declared.keyed.Keyed.{Keyed}
use Rattle.saber_partition.specs.declared.lists.ListStore.{ListStore}
use Rattle.saber_partition.specs.declared.pieces.RowPiece.{RowPiece}
use Rattle.saber_partition.specs.Lists.{Own, Lists}
use Rattle.saber_partition.specs.Pieces.{Made, IsPlace}
use Rattle.saber_partition.specs.Streams.{part_in}

abbrev pub own_of : Keyed → Own
own_of s = record { next = s.windows.next; begun = s.begun; entries = s.windows.slices.entries }

abbrev pub lists_of : List (ArrayVec ℤ × Keyed) → Lists
lists_of es = from_entries {R = key_cmp} (map (λ e. (e.0.items, own_of e.1)) es)

-- the same where it stands by the lists' numbers
abbrev pub own_lists : List (List ℤ) → List Keyed → Lists
own_lists ls ks = by_list ls (map own_of ks)

abbrev pub kept_lists : ListStore → Lists
kept_lists s = own_lists s.known s.lists.items

-- each list has something
abbrev pub IsLong : ListStore → Type 0
IsLong s = length s.lists.items ≡ length s.known

-- a row's piece, whose part lies among others
abbrev pub made_of : List Part → RowPiece → Made
made_of ps p = record { list = p.list.items; place = p.place; part = part_in ps p.part }

-- there is a part at its place, if it has one
abbrev pub HasPart : List Part → RowPiece → Type 0
HasPart ps p = IsPlace ps p.part
