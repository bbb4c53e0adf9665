-- What a turn is after its stage was lent.
use Rattle.std.specs.Borrow.{Lends, MutBor, Fml, RattleType}
use Rattle.saber_core.specs.declared.work.Work.{Ghosts}
use Rattle.saber_ring.specs.declared.turn.Turn.{Turn}
use Rattle.saber_ring.specs.contracts.turn.Turn.{the_row}

module _ (W R P S T : RattleType) (g : Ghosts W.Denot R.Denot P.Denot S.Denot T.Denot) where
  abbrev pub with_stage : Turn W.Denot R.Denot P.Denot S.Denot T.Denot g → S.Denot → Turn W.Denot R.Denot P.Denot S.Denot T.Denot g
  with_stage t s = record t { stage = s }

  abbrev pub LendsStage : MutBor (Turn W.Denot R.Denot P.Denot S.Denot T.Denot g) → MutBor S.Denot → Fml
  LendsStage t r = Lends (the_row W R P S T g) S t r (with_stage t.now)
