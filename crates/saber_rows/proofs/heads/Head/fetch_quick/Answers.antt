use Rattle.std.proofs.Common.{◌≡◌, Some, sym, ap, subst}
use Rattle.saber_plan.specs.declared.rows.Row.{Row}
use Rattle.saber_rows.specs.Reader.{reader_of}
use Rattle.saber_rows.specs.Calls.{HoldsNext}
use Rattle.saber_rows.specs.Heads.{head_view}
use Rattle.saber_rows.proofs.Fronts.{none_in_front}
use Rattle.saber_rows.proofs.MergedRows.{LooksQuick, fetched}
use Rattle.saber_rows.proofs.heads.Head.fetch_quick.Goals as goal

pub returns-clause-some : goal.returns-clause-some
returns-clause-some c =
    let h = c.args.self.now in
    let old = reader_of h.lines in
    let new = reader_of c.held_into.new.self in
    let vs = c.held_into.new.values in
    let row : Row = record { side = c.no_row.result.side; values = vs } in
    let side : row.side ≡ h.lines.side = ap (λ (r : Row). r.side) c.no_row.ensures in
    let holds : HoldsNext row old new = subst (λ s. HoldsNext (record { side = s; values = vs }) old new) (sym side) c.in_ok-stamp.ensures.some in
    subst (λ n. LooksQuick n (head_view h) (record { reader = new; ahead = Some row })) (sym c.in_ok-stamp.ensures.own)
    (fetched row old new (head_view h).ahead (none_in_front h.full h.row c.requires) holds)
