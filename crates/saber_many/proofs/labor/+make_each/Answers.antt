use Rattle.std.proofs.Common.{arith}
use Rattle.saber_many.proofs.Lists.{first_can, others_can}
use Rattle.saber_many.proofs.labor.+make_each.Goals as goal

pub make_each-pieces-requires : goal.make_each-pieces-requires
make_each-pieces-requires g t c κs within =
    let less = c.in-Some.ensures.cases.1 in
    let can = others_can g.W.Work.upto g.W.Work.is_rows g.W.Shareable.is_alone g.L.Labor.suits c.in-Some.labor.now c.in-Some.others.now c.in-Some-split_first.own.now c.in-Some-split_first.rest.now
    c.in-Some.ensures.cases.0 c.in-Some-split_first.ensures.cases.0 c.requires.can in
    (omega (arith, less), (within.0, (within.1.0, (within.1.1.0, (within.1.1.1.0, (within.1.1.1.1.0, (within.1.1.1.1.1.0, (within.1.1.1.1.1.1, can))))))))

pub make_one-piece-requires : goal.make_one-piece-requires
make_one-piece-requires g t c =
    record {
      can = first_can g.W.Work.upto g.W.Work.is_rows g.W.Shareable.is_alone g.L.Labor.suits c.in-Some.labor.now c.in-Some.others.now c.in-Some-split_first.own.now c.in-Some-split_first.rest.now
          c.in-Some.ensures.cases.0 c.in-Some-split_first.ensures.cases.0 c.requires.can;
    }
