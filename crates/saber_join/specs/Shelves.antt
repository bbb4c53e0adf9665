-- Rows of one side of a task with their keys, and how they are linked by buckets of keys.
use Rattle.std.specs.Prelude.{◌≡◌, ℕ, zero, suc, ◌*◌, ◌/◌, ◌%◌, ◌^◌, ◌<◌, max, List, [], ◌∷◌, ◌++◌, length, get_or, map, Bool, ◌&&◌, ◌==◌, if◌then◌else◌, nat_lt, Option, ℤ, pos, bit_and}
use Rattle.std.specs.Int.{cast_unsigned, w64}
use Rattle.std.specs.Ordering.{int_eq}
use Rattle.std.specs.List.{AllByRecursion}
use Rattle.saber_plan.specs.declared.rows.Side.TheVariants.{Left}
use Rattle.saber_plan.specs.Windows.{Placed, Frame, by_side}
use Rattle.saber_plan.specs.Needs.{first_window, past_window}
use Rattle.saber_join.specs.Standing.{standing_row, behind_rows}
use Rattle.saber_join.specs.Ties.{Ends, key_in}

-- a row with its key, and the windows that it lies in: those from `first` up to `past`
pub record Card : Type 0 where
  pub seen : Placed
  pub key : ℤ
  pub first : ℕ
  pub past : ℕ

-- the card of a row, where windows below c don't count
abbrev pub card_of : Frame → Option Ends → ℕ → Placed → Card
card_of f t c x = record { seen = standing_row x; key = key_in t x.row; first = max (first_window f x) c; past = past_window f x }

-- the same, where all is known
abbrev pub card_with : ℤ → ℕ → ℕ → Placed → Card
card_with k first past x = record { seen = x; key = k; first = first; past = past }

-- the left and the right cards, and one more of its side
abbrev pub lefts_with : Card → List Card → List Card
lefts_with e es = by_side e.seen.row.side (es ++ e ∷ []) es

abbrev pub rights_with : Card → List Card → List Card
rights_with e es = by_side e.seen.row.side es (es ++ e ∷ [])

-- it has this key, and a window behind the first `low`
abbrev pub meets : ℤ → ℕ → Card → Bool
meets k low e = int_eq e.key k && nat_lt low e.past

-- one that stands nowhere
abbrev pub no_card : Card
no_card = record { seen = record { row = record { side = Left; values = [] }; before = behind_rows 0 }; key = pos 0; first = 0; past = 0 }

-- places of cards
abbrev pub cards_at : List Card → List ℕ → List Card
cards_at es found = map (λ i. get_or es i no_card) found

pub record Found (es chosen : List Card) (found : List ℕ) : Type 0 where
  pub there : AllByRecursion (λ (i : ℕ). i < length es) found
  pub are : cards_at es found ≡ chosen

-- ---- buckets of keys

abbrev pub bucket_of : ℕ → ℤ → ℕ
bucket_of mask k = bit_and (cast_unsigned w64 k * 0x9E3779B97F4A7C15 % 2 ^ 64 / 2 ^ 48) mask

-- of the first n keys the last that lies in a bucket, counted from 1 on; 0 where there is none
abbrev pub last_in : ℕ → ℕ → List ℤ → ℕ → ℕ
last_in mask b ks zero = 0
last_in mask b ks (suc n) = if bucket_of mask (get_or ks n (pos 0)) == b then suc n else last_in mask b ks n
