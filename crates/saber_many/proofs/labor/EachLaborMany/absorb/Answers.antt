use Rattle.std.proofs.Common.{◌≡◌, ◌+◌, length, subst, sym, arith}
use Rattle.std.specs.Prelude.{Vec, Option}
use Rattle.std.specs.List.{AllByRecursion, AllZip}
use Rattle.std.specs.Vec.{with_items}
use Rattle.std.proofs.lemmas.List.{with_items_is}
use Rattle.std.specs.declared.alloc.Global.{Global}
use Rattle.std.specs.declared.collections.VecDeque.{VecDeque}
use Rattle.saber_many.specs.declared.member.Member.{Member}
use Rattle.saber_many.specs.Sharing.{MemberAt}
use Rattle.saber_many.specs.Labors.{all_upto, AllSuit, HasStopped}
use Rattle.saber_many.proofs.Lists.{go_on, any_pieces, zip_long, upto_long}
use Rattle.saber_many.proofs.labor.EachLaborMany.absorb.Goals as goal

pub returns-clause-stage : goal.returns-clause-stage
returns-clause-stage g c told k s at is =
    let upto = g.W.Work.upto in let is_piece = g.W.Work.is_piece in let is_stage = g.W.Work.is_stage in let suits = g.L.Labor.suits in
    let x = c.absorb_each.ensures in
    let old = c.args.stage.now in
    let new = c.absorb_each.new.members in
    let suit = subst (λ z. AllSuit suits z (all_upto upto told 0)) (sym c.deref.ensures.value) s in
    let stand = subst (λ z. AllZip (MemberAt upto is_stage k) (all_upto upto told k) z) (sym c.deref_mut.ensures.value) at in
    let are = any_pieces is_piece (λ (v : VecDeque (Option g.row.W-Piece.Denot) Global). v.items) told k c.args.piece c.or_none-pieces.result.items c.or_none-pieces.ensures.none c.or_none-pieces.ensures.some is in
    let now : AllZip (MemberAt upto is_stage (k + 1)) told new = x.absorbs told k suit stand are in
    let a = zip_long (MemberAt upto is_stage k) (all_upto upto told k) old.items at in
    let b = upto_long upto told k in
    let d = zip_long (MemberAt upto is_stage (k + 1)) told new now in
    let full = old.ok.0 in
    let long : length new ≡ old.len = omega (arith, a, b, d, full) in
    let same : (with_items old new).items ≡ new = with_items_is old new long in
    go_on upto is_stage (λ (v : Vec (Member g.row.W-Stage.Denot) Global). v.items) told k (with_items old new) c.absorb_each.result
    (λ e. subst (AllByRecursion HasStopped) (sym same) (x.stop e)) (subst (AllZip (MemberAt upto is_stage (k + 1)) told) (sym same) now)
