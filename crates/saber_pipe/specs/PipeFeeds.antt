-- The end of a pipe that is read from, as its callers see it (this project's rule).
use Rattle.std.specs.Prelude.{◌≡◌, ◌≢◌, ℕ, Bool, true, false, ◌⊎◌, List, [], ◌∷◌, ◌++◌, Option, None, drop}
use Rattle.crossbeam_queue.specs.Fifo.{Held}
use Rattle.crossbeam_queue.specs.Passes.{view}
use Rattle.saber_io.specs.declared.feeds.EndMark.{EndMark}
use Rattle.saber_pipe.specs.declared.items.Item.{Item}
use Rattle.saber_pipe.specs.declared.feed.PipeFeed.{PipeFeed}
use Rattle.saber_pipe.specs.Order.{bytes_of, mark_of, BeginsWith}

module _ {R P : Type 0} {p : _} where
  -- the items that it has taken
  abbrev pub got : PipeFeed R P p → List Item
  got f = (view f.end).got

  -- the items that it knows to have been sent, a front of all
  abbrev pub known : PipeFeed R P p → List Item
  known f = (view f.end).sent

  -- the bytes that it has taken
  abbrev pub taken : PipeFeed R P p → List ℕ
  taken f = bytes_of (got f)

  -- those of them that it has not given yet
  abbrev pub waiting : PipeFeed R P p → List ℕ
  waiting f = drop f.at f.piece.items

  -- the mark that it has taken, if it has
  abbrev pub mark : PipeFeed R P p → Option EndMark
  mark f = mark_of (got f)

  -- how often it has told of a cut
  abbrev pub faults_of : PipeFeed R P p → ℕ
  faults_of f = f.faults

  -- it may know more of what was sent, and is else as before
  pub record IsToldMore (old new : PipeFeed R P p) : Type 0 where
    pub got_is : got new ≡ got old
    pub waiting_is : waiting new ≡ waiting old
    pub faults_is : faults_of new ≡ faults_of old

  -- one item is taken
  pub record Taking (old new : PipeFeed R P p) : Type 0 where
    pub item : Item
    pub before : waiting old ≡ []
    pub unmarked : mark old ≡ None
    pub got_is : got new ≡ got old ++ item ∷ []
    pub waiting_is : waiting new ≡ bytes_of (item ∷ [])

  -- All was taken that it knows to have been sent. That the pipe held nothing at one moment no clause can say, as an empty list there always is.
  abbrev pub HasTakenKnown : PipeFeed R P p → Type 0
  HasTakenKnown f = Held 0 (λ items. BeginsWith (got f ++ items) (known f))

  -- nothing is taken
  abbrev pub Keeping : PipeFeed R P p → PipeFeed R P p → Type 0
  Keeping old new = (got new ≡ got old) × (waiting new ≡ waiting old)

  -- where bytes wait none are taken; else one item is taken, or all was that it knows to have been sent
  abbrev pub TakesOne : PipeFeed R P p → PipeFeed R P p → Bool → Type 0
  TakesOne old new true = (Keeping old new × (waiting old ≢ [])) ⊎ Taking old new
  TakesOne old new false = Keeping old new × (waiting old ≡ []) × HasTakenKnown new
