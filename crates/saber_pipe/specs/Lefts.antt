-- What is left of what a writer wrote (this project's rule).
use Rattle.std.specs.Prelude.{◌≡◌, List, [], ◌∷◌, ◌++◌, Option, ⊤}
use Rattle.crossbeam_queue.specs.Passes.{view}
use Rattle.saber_io.specs.declared.feeds.EndMark.{EndMark}
use Rattle.saber_pipe.specs.declared.items.Item.{Item}
use Rattle.saber_pipe.specs.declared.left.Left.{Left}
use Rattle.saber_pipe.specs.Outboxes.{sent_of, kept_of, whole_of, MayHaveBeenFull}

module _ {P : Type 0} {p : _} where
  -- what was sent
  abbrev pub sent_out : Left P p → List Item
  sent_out (Left.Kept outbox) = sent_of outbox
  sent_out (Left.Sent receipt) = (view receipt.end).sent

  -- what is still to be sent, with the mark behind it
  abbrev pub left_out : Left P p → EndMark → List Item
  left_out (Left.Kept outbox) mark = kept_of outbox ++ Item.Last mark ∷ []
  left_out (Left.Sent receipt) mark = []

  -- all that was promised
  abbrev pub whole_out : Left P p → Option (List Item)
  whole_out (Left.Kept outbox) = whole_of outbox
  whole_out (Left.Sent receipt) = (view receipt.end).whole

  -- nothing is left, or enough was sent for the pipe to have been full
  abbrev pub IsPouredOut : Left P p → Type 0
  IsPouredOut (Left.Kept outbox) = MayHaveBeenFull outbox
  IsPouredOut (Left.Sent receipt) = ⊤

  -- items from the front of what was left were sent, in order
  pub record MovesLeft (old new : Left P p) (mark : EndMark) : Type 0 where
    pub moved : List Item
    pub sent_is : sent_out new ≡ sent_out old ++ moved
    pub left_is : left_out old mark ≡ moved ++ left_out new mark
    pub whole_is : whole_out new ≡ whole_out old

  -- the same is sent and left, and where nothing was left or enough was sent it still is so
  pub record IsSameLeft (old new : Left P p) : Type 0 where
    pub sent_is : sent_out new ≡ sent_out old
    pub left_is : (mark : EndMark) → left_out new mark ≡ left_out old mark
    pub whole_is : whole_out new ≡ whole_out old
    pub poured : IsPouredOut old → IsPouredOut new
