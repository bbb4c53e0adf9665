-- What calls on feeds do (this project's rule).
use Rattle.std.specs.Prelude.{◌≡◌, ◌≢◌, ◌≤◌, ℕ, Bool, true, false, List, [], ◌++◌, length, take, Option, Some, None}
use Rattle.saber_io.specs.declared.feeds.EndMark.{EndMark}
use Rattle.saber_io.specs.declared.feeds.Fed.{Fed}

-- nothing waits, before and after
abbrev pub Dry : List ℕ → List ℕ → Type 0
Dry old new = (old ≡ []) × (new ≡ [])

-- what a feed gave: bytes from the front of what waited, or, where nothing waited, its end or that no mark was taken
abbrev pub Feeds : List ℕ → List ℕ → Option EndMark → List ℕ → Fed → Type 0
Feeds old new mark buf (Fed.Bytes n) = (1 ≤ n) × (n ≤ length buf) × (old ≡ take n buf ++ new)
Feeds old new mark buf Fed.End = Dry old new × (mark ≡ Some EndMark.End)
Feeds old new mark buf Fed.NotYet = Dry old new × (mark ≡ None)

-- it was cut off, and nothing waited
abbrev pub IsCut : List ℕ → List ℕ → Option EndMark → Type 0
IsCut old new mark = Dry old new × (mark ≡ Some EndMark.Cut)

-- what a refill does: it adds as many bytes to what was taken as to what waits, and none behind a mark, which stands for good
pub record Adds (taken taken' waiting waiting' : List ℕ) (mark mark' : Option EndMark) : Type 0 where
  pub more : List ℕ
  pub taken_is : taken' ≡ taken ++ more
  pub waiting_is : waiting' ≡ waiting ++ more
  pub behind : mark ≢ None → (mark' ≡ mark) × (more ≡ [])

-- nothing was there to take
pub record Stays (taken taken' waiting waiting' : List ℕ) (mark mark' : Option EndMark) : Type 0 where
  pub taken_is : taken' ≡ taken
  pub waiting_is : waiting' ≡ waiting
  pub mark_is : mark' ≡ mark

-- what a refill does, by its answer
abbrev pub Refills : List ℕ → List ℕ → List ℕ → List ℕ → Option EndMark → Option EndMark → Bool → Type 0
Refills taken taken' waiting waiting' mark mark' true = Adds taken taken' waiting waiting' mark mark'
Refills taken taken' waiting waiting' mark mark' false = Stays taken taken' waiting waiting' mark mark'
