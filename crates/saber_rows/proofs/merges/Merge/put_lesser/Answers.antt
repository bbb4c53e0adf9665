use Rattle.std.proofs.Common.{◌≡◌, true, false, nat_le, refl, arith}
use Rattle.std.proofs.lemmas.Bool.Decides.{nat_tests}
use Rattle.saber_rows.specs.Heads.{head_view}
use Rattle.saber_rows.proofs.MergedRows.{left_none, right_none, kept_left, kept_right, puts_left, puts_right}
use Rattle.saber_rows.proofs.merges.Merge.put_lesser.Goals as goal

pub returns-in_default-clause-none : goal.returns-in_default-clause-none
returns-in_default-clause-none c e = (left_none (head_view c.args.self.now.left) (head_view c.look_quick.new.self) (head_view c.args.self.now.right) (c.look_quick.ensures.none c.in_default.is), refl)

pub returns-in_default-look_quick-clause-none : goal.returns-in_default-look_quick-clause-none
returns-in_default-look_quick-clause-none c e =
    (right_none c.in-Some.time (head_view c.args.self.now.left) (head_view c.look_quick.new.self) (head_view c.args.self.now.right) (head_view c.look_quick-2.new.self) c.in-Some.ensures.some c.look_quick.ensures.rules (c.look_quick-2.ensures.none c.in_default-look_quick.is), refl)

pub returns-then-time-other-clause-one : goal.returns-then-time-other-clause-one
returns-then-time-other-clause-one c e =
    let less : nat_le c.in-Some.time c.in-Some-look_quick.other ≡ true = grind (arith, nat_tests, c.if-time-other.true) in
    puts_left c.in-Some.time c.in-Some-look_quick.other (head_view c.args.self.now.left) (head_view c.look_quick.new.self) (head_view c.args.self.now.right) (head_view c.look_quick-2.new.self)
    c.in-Some.ensures.some c.look_quick.ensures.rules c.in-Some-look_quick.ensures.some c.look_quick-2.ensures.rules c.args.out.now.rows c.put.new.out.rows less (head_view c.put.new.self) (c.put.ensures.put e)

pub returns-then-time-other-clause-none : goal.returns-then-time-other-clause-none
returns-then-time-other-clause-none c e =
    let k = c.put.ensures.kept e in (
      kept_left c.in-Some.time c.in-Some-look_quick.other (head_view c.args.self.now.left) (head_view c.look_quick.new.self) (head_view c.args.self.now.right) (head_view c.look_quick-2.new.self)
          c.in-Some.ensures.some c.look_quick.ensures.rules c.in-Some-look_quick.ensures.some c.look_quick-2.ensures.rules c.args.out.now.rows c.put.new.out.rows (head_view c.put.new.self) k.0,
      k.1,
    )

pub returns-else-time-other-clause-one : goal.returns-else-time-other-clause-one
returns-else-time-other-clause-one c e =
    let more : nat_le c.in-Some.time c.in-Some-look_quick.other ≡ false = grind (arith, nat_tests, c.if-time-other.false) in
    puts_right c.in-Some.time c.in-Some-look_quick.other (head_view c.args.self.now.left) (head_view c.look_quick.new.self) (head_view c.args.self.now.right) (head_view c.look_quick-2.new.self)
    c.in-Some.ensures.some c.look_quick.ensures.rules c.in-Some-look_quick.ensures.some c.look_quick-2.ensures.rules c.args.out.now.rows c.put-else-time-other.new.out.rows more (head_view c.put-else-time-other.new.self) (c.put-else-time-other.ensures.put e)

pub returns-else-time-other-clause-none : goal.returns-else-time-other-clause-none
returns-else-time-other-clause-none c e =
    let k = c.put-else-time-other.ensures.kept e in (
      kept_right c.in-Some.time c.in-Some-look_quick.other (head_view c.args.self.now.left) (head_view c.look_quick.new.self) (head_view c.args.self.now.right) (head_view c.look_quick-2.new.self)
          c.in-Some.ensures.some c.look_quick.ensures.rules c.in-Some-look_quick.ensures.some c.look_quick-2.ensures.rules c.args.out.now.rows c.put-else-time-other.new.out.rows (head_view c.put-else-time-other.new.self) k.0,
      k.1,
    )
