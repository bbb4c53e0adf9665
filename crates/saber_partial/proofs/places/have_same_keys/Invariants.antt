use Rattle.std.proofs.Common.{◌≡◌, drop}
use Rattle.std.specs.Map.{keys_of}
use Rattle.saber_partial.proofs.places.have_same_keys.Given as goal

abbrev pub invariant-loop-i : goal.invariant-loop-i
invariant-loop-i l = keys_of (drop l.i l.groups.entries) ≡ keys_of (drop l.i l.others.entries) → keys_of l.groups.entries ≡ keys_of l.others.entries
