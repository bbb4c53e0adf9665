use Rattle.std.proofs.Common.{◌≡◌, length, arith, rules}
use Rattle.saber_many.proofs.Lists.{first_absorbs, others_absorb, absorbs_more, absorbs_none, absorbs_nobody, absorbs_nothing}
use Rattle.saber_many.proofs.labor.+absorb_each.Goals as goal

pub returns-in_default-clause-stop : goal.returns-in_default-clause-stop
returns-in_default-clause-stop g t c _ =
    let upto = g.W.Work.upto in let is_piece = g.W.Work.is_piece in let is_stage = g.W.Work.is_stage in let suits = g.L.Labor.suits in
    let none : length c.args.labors.now ≡ 0 = search rules in
    absorbs_none upto is_piece is_stage suits c.args.labors.now none c.args.members.now c.args.pieces.now.items c.requires.can

pub returns-in_default-clause-absorbs : goal.returns-in_default-clause-absorbs
returns-in_default-clause-absorbs g t c =
    let upto = g.W.Work.upto in let is_piece = g.W.Work.is_piece in let is_stage = g.W.Work.is_stage in let suits = g.L.Labor.suits in
    let none : length c.args.labors.now ≡ 0 = search rules in
    absorbs_nobody upto is_piece is_stage suits c.args.labors.now none c.args.members.now c.args.pieces.now.items

pub returns-in_default-split_first_mut-clause-absorbs : goal.returns-in_default-split_first_mut-clause-absorbs
returns-in_default-split_first_mut-clause-absorbs g t c =
    let upto = g.W.Work.upto in let is_piece = g.W.Work.is_piece in let is_stage = g.W.Work.is_stage in let suits = g.L.Labor.suits in
    let none : length c.args.members.now ≡ 0 = search rules in
    absorbs_nothing upto is_piece is_stage suits c.args.labors.now c.args.members.now none c.args.pieces.now.items

pub absorb_one-goes-requires : goal.absorb_one-goes-requires
absorb_one-goes-requires g t c =
    let upto = g.W.Work.upto in let is_piece = g.W.Work.is_piece in let is_stage = g.W.Work.is_stage in let suits = g.L.Labor.suits in
    record {
      can = first_absorbs upto is_piece is_stage suits c.in-Some.labor.now c.in-Some.others.now c.in-Some-split_first_mut.member.now c.in-Some-split_first_mut.rest.now c.pop_front.result c.pop_front.new.self.items
          c.in-Some.ensures.cases.0 c.in-Some-split_first_mut.ensures.cases.0 c.pop_front.ensures.items c.flat-piece.result c.flat-piece.ensures c.requires.can;
    }

pub absorb_each-more-requires : goal.absorb_each-more-requires
absorb_each-more-requires g t c κs within =
    let upto = g.W.Work.upto in let is_piece = g.W.Work.is_piece in let is_stage = g.W.Work.is_stage in let suits = g.L.Labor.suits in
    let less = c.in-Some.ensures.cases.1 in
    let can = others_absorb upto is_piece is_stage suits c.in-Some.labor.now c.in-Some.others.now c.in-Some-split_first_mut.member.now c.in-Some-split_first_mut.rest.now c.pop_front.result c.pop_front.new.self.items
    c.in-Some.ensures.cases.0 c.in-Some-split_first_mut.ensures.cases.0 c.pop_front.ensures.items c.flat-piece.result c.flat-piece.ensures
    c.pop_front.ensures.rest c.requires.can in
    (omega (arith, less), (within.0, (within.1.0, (within.1.1.0, (within.1.1.1.0, (within.1.1.1.1.0, (within.1.1.1.1.1.0, (within.1.1.1.1.1.1, can))))))))

pub returns-then-goes-clause-absorbs : goal.returns-then-goes-clause-absorbs
returns-then-goes-clause-absorbs g t c =
    let upto = g.W.Work.upto in let is_piece = g.W.Work.is_piece in let is_stage = g.W.Work.is_stage in let suits = g.L.Labor.suits in
    absorbs_more upto is_piece is_stage suits c.in-Some.labor.now c.in-Some.others.now c.in-Some-split_first_mut.member.now c.in-Some-split_first_mut.rest.now c.pop_front.result c.pop_front.new.self.items
    c.in-Some.ensures.cases.0 c.in-Some-split_first_mut.ensures.cases.0 c.pop_front.ensures.items c.flat-piece.result c.flat-piece.ensures
    c.pop_front.ensures.rest c.absorb_one-goes.new.member c.absorb_each-more.new.members c.absorb_one-goes.ensures.absorbs c.absorb_each-more.ensures.absorbs

pub returns-else-goes-clause-absorbs : goal.returns-else-goes-clause-absorbs
returns-else-goes-clause-absorbs g t c =
    let upto = g.W.Work.upto in let is_piece = g.W.Work.is_piece in let is_stage = g.W.Work.is_stage in let suits = g.L.Labor.suits in
    absorbs_more upto is_piece is_stage suits c.in-Some.labor.now c.in-Some.others.now c.in-Some-split_first_mut.member.now c.in-Some-split_first_mut.rest.now c.pop_front.result c.pop_front.new.self.items
    c.in-Some.ensures.cases.0 c.in-Some-split_first_mut.ensures.cases.0 c.pop_front.ensures.items c.flat-piece.result c.flat-piece.ensures
    c.pop_front.ensures.rest c.absorb_one-goes.new.member c.absorb_each-more.new.members c.absorb_one-goes.ensures.absorbs c.absorb_each-more.ensures.absorbs
