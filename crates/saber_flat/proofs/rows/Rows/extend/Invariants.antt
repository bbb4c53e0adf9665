use Rattle.std.proofs.Common.{◌≡◌, ◌++◌, take, map}
use Rattle.saber_flat.proofs.PlaceFacts.{moved}
use Rattle.saber_flat.proofs.rows.Rows.extend.Given as goal

abbrev pub invariant-loop-place : goal.invariant-loop-place
invariant-loop-place l =
    (l.self-inside.numbers ≡ l.initial.self-inside.numbers)
    × (l.self-inside.places.items ≡ l.initial.self-inside.places.items ++ map (moved l.behind) (take l.place-index l.place-items))
