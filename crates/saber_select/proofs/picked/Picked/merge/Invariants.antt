use Rattle.std.proofs.Common.{◌≡◌, ◌++◌, take, map}
use Rattle.saber_select.proofs.Spotting.{moved}
use Rattle.saber_select.proofs.picked.Picked.merge.Given as goal

abbrev pub invariant-loop-spot : goal.invariant-loop-spot
invariant-loop-spot l =
    (l.self-inside.numbers ≡ l.initial.self-inside.numbers)
    × (l.self-inside.spots.items ≡ l.initial.self-inside.spots.items ++ map (moved l.behind) (take l.spot-index l.spot-items))
