-- Cuts of rows, and the parts that lie outside of them.
use Rattle.saber_laws.specs.Parts.{NoRowsNoPart, PartsLieWithin}
use Rattle.saber_laws.proofs.PartLaws.{group_part-empty}
use Rattle.saber_laws.proofs.ShareLaws.{pair_part-nil}
use Rattle.saber_laws.proofs.EndLaws.{part_closed, not_begun_part}

pub no_rows_no_part : NoRowsNoPart
no_rows_no_part q = record { of_groups = group_part-empty q; of_pairs = pair_part-nil q }

pub parts_lie_within : PartsLieWithin
parts_lie_within q i r x y o a = record { closed_before = part_closed q i r x y o a; not_begun = not_begun_part q i r x y o a }
