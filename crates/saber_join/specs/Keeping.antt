-- What a task holds after some rows: those of each side that lie in open windows.
use Rattle.std.specs.Prelude.{◌≡◌, ◌++◌, ℕ, List, map, filter, max, Bool, false, nat_lt, Option}
use Rattle.saber_plan.specs.Facts.Lists.{Each}
use Rattle.saber_plan.specs.Windows.{Frame, Placed}
use Rattle.saber_plan.specs.Needs.{first_window, past_window}
use Rattle.saber_plan.specs.Answers.{frame, is_left, is_right}
use Rattle.saber_plan.specs.Trees.{Tree}
use Rattle.saber_join.specs.Shelves.{Card, card_of}
use Rattle.saber_join.specs.Ties.{Ends}

-- the row lies in a window from c on
abbrev pub lies_from : Frame → ℕ → Placed → Bool
lies_from f c x = nat_lt (max (first_window f x) c) (past_window f x)

-- none of these rows does
abbrev pub NoneLies : Frame → ℕ → List Placed → Type 0
NoneLies f c xs = Each (λ (x : Placed). lies_from f c x ≡ false) xs

-- the cards of the rows that do
abbrev pub cards_of : Frame → Option Ends → ℕ → List Placed → List Card
cards_of f t c xs = map (card_of f t c) (filter (lies_from f c) xs)

abbrev pub lefts_of : Frame → Option Ends → ℕ → List Placed → List Card
lefts_of f t c xs = cards_of f t c (filter is_left xs)

abbrev pub rights_of : Frame → Option Ends → ℕ → List Placed → List Card
rights_of f t c xs = cards_of f t c (filter is_right xs)

-- the cards of one side and of the other, and those of more rows
abbrev pub KeepsLefts : Tree → Option Ends → ℕ → List Placed → List Card → List Card → Type 0
KeepsLefts q t c xs old new = new ≡ old ++ lefts_of (frame q) t c xs

abbrev pub KeepsRights : Tree → Option Ends → ℕ → List Placed → List Card → List Card → Type 0
KeepsRights q t c xs old new = new ≡ old ++ rights_of (frame q) t c xs
