-- What a reader of rows finds at the front of what it holds.
use Rattle.std.specs.Prelude.{◌≡◌, ◌≤◌, ◌<◌, ℕ, ◌+◌, ◌^◌, ◌==◌, ◌||◌, List, [], ◌∷◌, ◌++◌, length, take, Bool, true, false, Option, Some, None, ℤ, pos, int_le, get_or, ◌⊎◌}
use Rattle.std.specs.List.{list_all}
use Rattle.std.specs.Char.{is_ascii_digit}
use Rattle.std.specs.Str.Parse.{digits_value}
use Rattle.saber_plan.specs.Rows.{number_of, in_range, fields_of, bad_field, numbers, wide_field, without_cr, late, stamp, raised_time}
use Rattle.saber_plan.specs.declared.rows.Row.{Row}
use Rattle.saber_plan.specs.declared.rows.Side.{Side}
use Rattle.saber_rows.specs.LineFeeds.{IsLine}

-- the first n bytes are digits, up to 18 of them, and write this number
pub record AreDigits (bytes : List ℕ) (size n : ℕ) : Type 0 where
  pub within : n ≤ length bytes
  pub digits : list_all is_ascii_digit (take n bytes) ≡ true
  pub value : size ≡ digits_value 10 (take n bytes)
  pub small : size < 10 ^ 18

-- and this byte is behind them
pub record EndDigits (bytes : List ℕ) (size n next : ℕ) : Type 0 where
  pub inside : n < length bytes
  pub digits : AreDigits bytes size n
  pub next_is : next ≡ get_or bytes n 0

-- a byte of a number
abbrev pub is_plain : ℕ → Bool
is_plain b = is_ascii_digit b || b == 45

-- the first n bytes are a number
pub record IsNumberAt (bytes : List ℕ) (value : ℤ) (n : ℕ) : Type 0 where
  pub within : n ≤ length bytes
  pub some : 1 ≤ n
  pub plain : list_all is_plain (take n bytes) ≡ true
  pub number : number_of (take n bytes) ≡ Some value
  pub range : in_range 2 value ≡ true
  pub time : int_le (pos 0) value ≡ true → in_range 1 value ≡ true

-- they are a number in the range of this column, and this byte is behind them
pub record EndsField (bytes : List ℕ) (column : ℕ) (value : ℤ) (n next : ℕ) : Type 0 where
  pub inside : n < length bytes
  pub number : IsNumberAt bytes value n
  pub range : in_range column value ≡ true
  pub next_is : next ≡ get_or bytes n 0

-- a byte of a number, or a comma
abbrev pub is_clear : ℕ → Bool
is_clear b = is_plain b || b == 44

-- Behind whole fields with these numbers, whatever follows is the fields that are left, from the one with this number on.
pub record Begun (front : List ℕ) (next : ℕ) (vs : List ℤ) : Type 0 where
  pub clear : list_all is_clear front ≡ true
  pub count : (z : List ℕ) → length (fields_of (front ++ z)) + 1 ≡ next + length (fields_of z)
  pub good : (z : List ℕ) → bad_field 1 (fields_of (front ++ z)) ≡ bad_field next (fields_of z)
  pub values : (z : List ℕ) → numbers (fields_of (front ++ z)) ≡ vs ++ numbers (fields_of z)
  pub wide : (z : List ℕ) → wide_field 1 (numbers (fields_of (front ++ z))) ≡ wide_field next (numbers (fields_of z))

-- a line of so many numbers in their ranges
pub record IsRow (columns : ℕ) (content : List ℕ) (values : List ℤ) : Type 0 where
  pub some : 1 ≤ length content
  pub most : length content ≤ 4096
  pub count : length (fields_of content) ≡ columns
  pub good : bad_field 1 (fields_of content) ≡ None
  pub given : numbers (fields_of content) ≡ values
  pub wide : wide_field 1 values ≡ None

-- the first n bytes are such a line
pub record IsRowAt (columns : ℕ) (held : List ℕ) (values : List ℤ) (n : ℕ) : Type 0 where
  pub inside : n < length held
  pub line : IsLine held n
  pub row : IsRow columns (without_cr (take n held)) values

-- behind a content, perhaps with one CR, stands an LF
pub record IsFeedBehind (held : List ℕ) (end n : ℕ) : Type 0 where
  pub inside : n < length held
  pub feed : get_or held n 0 ≡ 10
  pub behind : (n ≡ end) ⊎ ((n ≡ end + 1) × (get_or held end 0 ≡ 13))

-- The first n bytes are a row of no earlier time than the greatest, this is its timestamp, and it stands behind the rows that were there.
pub record IsPut (side : Side) (columns : ℕ) (held : List ℕ) (high : Option ℕ) (had has : List Row) (n time : ℕ) : Type 0 where
  pub values : List ℤ
  pub put : has ≡ had ++ record { side = side; values = values } ∷ []
  pub row : IsRowAt columns held values n
  pub in_time : late 0 high values ≡ false
  pub own : time ≡ stamp values
  pub highest : time ≡ raised_time high (stamp values)
