-- What the merged rows of two sides keep.
use Rattle.std.proofs.Common.{[]}
use Rattle.saber_laws.specs.Inputs.{MergeTurns}
use Rattle.saber_laws.proofs.InputLaws.{merged_stops_left, merged_rest_right, merged_stops_right, merged_rest_left, merged_takes}

-- ---- each side's rows

pub merges_turn : MergeTurns
merges_turn = record { left_stops = merged_stops_left; left_ended = merged_rest_right; right_stops = merged_stops_right; right_ended = merged_rest_left; takes = merged_takes }
