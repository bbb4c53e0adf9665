use Rattle.std.proofs.Common.{◌≡◌, nat_le, true, false, sym, subst, ap, arith}
use Rattle.std.proofs.lemmas.Bool.Decides.{nat_tests}
use Rattle.saber_rows.specs.Heads.{Headed, head_view}
use Rattle.saber_rows.specs.Merging.{merger_of}
use Rattle.saber_rows.specs.MergedRows.{TakesFront}
use Rattle.saber_rows.proofs.merges.Merge.take_lesser.Goals as goal

pub returns-then-stamp-other : goal.returns-then-stamp-other
returns-then-stamp-other c =
    let e : nat_le c.args.stamp c.args.other ≡ true = grind (arith, nat_tests) in
    let right = head_view c.args.self.now.right in
    subst (λ b. TakesFront b c.take.result (merger_of c.args.self.now) (record { left = head_view c.take.new.self; right = right })) (sym e)
    (c.take.ensures.row, ap (λ (h : Headed). record { left = h; right = right }) c.take.ensures.rest)

pub returns-else-stamp-other : goal.returns-else-stamp-other
returns-else-stamp-other c =
    let e : nat_le c.args.stamp c.args.other ≡ false = grind (arith, nat_tests) in
    let left = head_view c.args.self.now.left in
    subst (λ b. TakesFront b c.take-else-stamp-other.result (merger_of c.args.self.now) (record { left = left; right = head_view c.take-else-stamp-other.new.self })) (sym e)
    (c.take-else-stamp-other.ensures.row, ap (λ (h : Headed). record { left = left; right = h }) c.take-else-stamp-other.ensures.rest)
