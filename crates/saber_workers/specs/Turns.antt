-- What a turn of work tells of its task, by what was in hand before it.
use Rattle.std.specs.Prelude.{◌≡◌, ℕ, true, false}
use Rattle.saber_ring.specs.declared.view.View.{View}
use Rattle.saber_workers.specs.declared.hand.Hand.{Hand}
use Rattle.saber_workers.specs.declared.turns.Turned.{Turned}
use Rattle.saber_workers.specs.Hands.{is_empty}
use Rattle.saber_workers.specs.Seats.{HasNoNew, HasNext, HasNothing}

module _ {W D R P S T V : Type 0} {g : _} (size : ℕ) (v w : View V) (old new : Hand W D R P S T g) (turned : Turned) where
  -- a job was in hand
  abbrev pub WhereBusy : Type 0
  WhereBusy = is_empty old.held ≡ false → HasNoNew size v w old.cursor new.cursor turned.claimed turned.held

  -- nothing was in hand, and a task was claimed
  abbrev pub WhereClaimed : Type 0
  WhereClaimed = is_empty old.held ≡ true → turned.claimed ≡ true → HasNext size v w old.cursor new.cursor turned.held

  -- nothing was in hand, and none was claimed
  abbrev pub WhereRefused : Type 0
  WhereRefused = is_empty old.held ≡ true → turned.claimed ≡ false → HasNothing size v w old.cursor new.cursor turned.held
