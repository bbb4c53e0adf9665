-- What a buffer holds, and what a read adds to it.
use Rattle.std.specs.Prelude.{◌≡◌, ℕ, List, ◌++◌, length, slice_range, Option}
use Rattle.saber_io.specs.Outside.{left_before}
use Rattle.saber_rows.specs.declared.buffer.Buffer.{Buffer}

-- the bytes that are held
abbrev pub bytes_of : Buffer → List ℕ
bytes_of h = slice_range h.buf.items h.at h.end

-- n bytes came from the source, and stand behind the others
pub record Gains (n : ℕ) (old new : List ℕ) (had has : Option (List ℕ)) : Type 0 where
  pub taken : List ℕ
  pub count : length taken ≡ n
  pub behind : new ≡ old ++ taken
  pub left : had ≡ left_before taken has
