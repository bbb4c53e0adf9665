-- What a writer left behind, as its callers see it (this project's rule).
use Rattle.std.specs.Prelude.{◌≡◌, true, ◌⊎◌, List, [], ◌++◌, Option, Some, None}
use Rattle.saber_pipe.specs.declared.items.Item.{Item}
use Rattle.saber_pipe.specs.declared.backlog.Backlog.{Backlog}
use Rattle.saber_pipe.specs.Lefts.{sent_out, left_out, IsPouredOut}

module _ {P : Type 0} {p : _} where
  -- what was sent
  abbrev pub sent_by : Backlog P p → List Item
  sent_by b = sent_out b.left

  -- what is still to be sent, with the mark behind it
  abbrev pub to_send : Backlog P p → List Item
  to_send b = left_out b.left b.mark

  -- nothing is left, or enough was sent for the pipe to have been full
  abbrev pub IsPoured : Backlog P p → Type 0
  IsPoured b = IsPouredOut b.left

  -- all was sent, or the writer was alone
  abbrev pub IsSentUnlessAlone : Backlog P p → Type 0
  IsSentUnlessAlone b = (to_send b ≡ []) ⊎ (b.was_alone ≡ true)

  -- items from the front of what was to be sent were sent, in order
  pub record Moved (old new : Backlog P p) : Type 0 where
    pub moved : List Item
    pub sent_is : sent_by new ≡ sent_by old ++ moved
    pub left_is : to_send old ≡ moved ++ to_send new

  -- the same of a backlog that may not be there
  abbrev pub Pours : Option (Backlog P p) → Option (Backlog P p) → Type 0
  Pours None new = new ≡ None
  Pours (Some old) (Some new) = Moved old new × IsPoured new
  Pours (Some old) None = ⊥
