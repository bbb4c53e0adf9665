-- What a feed told.
use Rattle.std.specs.Prelude.{◌≡◌, ◌≤◌, ℕ, List, Option, Some, None}
use Rattle.saber_io.specs.declared.feeds.Fed.{Fed}
use Rattle.saber_io.specs.declared.feeds.EndMark.{EndMark}
use Rattle.saber_io.specs.Feeds.{Dry}

-- how many bytes a feed gave
abbrev pub size_of : Fed → ℕ
size_of (Fed.Bytes n) = n
size_of Fed.End = 0
size_of Fed.NotYet = 0

-- what a feed told: bytes, or, where nothing waited, its end, or that no mark was taken
abbrev pub Tells : List ℕ → List ℕ → Option EndMark → Fed → Type 0
Tells old new mark (Fed.Bytes n) = (1 ≤ n) × (n ≤ 4096)
Tells old new mark Fed.End = Dry old new × (mark ≡ Some EndMark.End)
Tells old new mark Fed.NotYet = Dry old new × (mark ≡ None)
