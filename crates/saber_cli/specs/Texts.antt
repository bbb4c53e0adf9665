-- The text of a query file, as far as it is read.
use Rattle.std.specs.Prelude.{◌≡◌, ◌≤◌, ℕ, List, length, take, Option, Some}
use Rattle.saber_io.specs.Outside.{content_in, left_before}

-- a query's text has at most 65,536 bytes, so one more tells that it is too long
abbrev pub read_limit : ℕ
read_limit = 65537

-- what a source had left, and what it has: the bytes between were taken, and they are at most so many
abbrev pub TakesFew : ℕ → Option (List ℕ) → Option (List ℕ) → Type 0
TakesFew most had has = (taken : List ℕ) × (length taken ≤ most) × (had ≡ left_before taken has)

-- the file with this name is there, and this is its beginning
pub record BeginsFile (contents : List (List ℕ × List ℕ)) (name text : List ℕ) : Type 0 where
  pub whole : List ℕ
  pub there : content_in contents name ≡ Some whole
  pub front : text ≡ take read_limit whole
