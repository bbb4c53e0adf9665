-- What is still to be sent (this project's rule).
use Rattle.std.specs.Prelude.{◌≡◌, Bool, true, false, ◌⊎◌, List, [], ◌∷◌, ◌++◌, Option, option_to_list}
use Rattle.crossbeam_queue.specs.Fifo.{Held}
use Rattle.crossbeam_queue.specs.Passes.{view}
use Rattle.saber_io.specs.declared.feeds.EndMark.{EndMark}
use Rattle.saber_pipe.specs.declared.items.Item.{Item}
use Rattle.saber_pipe.specs.declared.outbox.Outbox.{Outbox}
use Rattle.saber_pipe.specs.Order.{HoldsLastOf, KeepsTo}

module _ {P : Type 0} {p : _} where
  -- what was sent
  abbrev pub sent_of : Outbox P p → List Item
  sent_of o = (view o.end).sent

  -- what is kept until there is room
  abbrev pub kept_of : Outbox P p → List Item
  kept_of o = option_to_list o.first ++ o.rest.items

  -- all that is ever sent, once it was promised
  abbrev pub whole_of : Outbox P p → Option (List Item)
  whole_of o = (view o.end).whole

  -- all that is ever sent, if the bytes end now with this mark
  abbrev pub all_of : Outbox P p → EndMark → List Item
  all_of o mark = (sent_of o ++ kept_of o) ++ Item.Last mark ∷ []

  -- what is kept may be sent
  abbrev pub MaySend : Outbox P p → Type 0
  MaySend o = KeepsTo (whole_of o) (sent_of o) (kept_of o)

  -- At least as many items were sent as a full pipe holds, 64. That the pipe was full of them since the last send no clause can say, as some such list there always is then.
  abbrev pub MayHaveBeenFull : Outbox P p → Type 0
  MayHaveBeenFull o = Held 64 (HoldsLastOf (sent_of o))

  -- pieces from the front of what was kept were sent, in order
  pub record Moves (old new : Outbox P p) : Type 0 where
    pub moved : List Item
    pub sent_is : sent_of new ≡ sent_of old ++ moved
    pub kept_is : kept_of old ≡ moved ++ kept_of new
    pub whole_is : whole_of new ≡ whole_of old

  -- nothing is kept, or enough was sent for the pipe to have been full
  abbrev pub IsStill : Outbox P p → Type 0
  IsStill o = (kept_of o ≡ []) ⊎ MayHaveBeenFull o

  -- the first piece that was kept is sent, or none is, and enough was sent for the pipe to have been full if one was kept
  abbrev pub SendsOne : Outbox P p → Outbox P p → Bool → Type 0
  SendsOne old new true = Moves old new
  SendsOne old new false = Moves old new × (kept_of new ≡ kept_of old) × IsStill new
