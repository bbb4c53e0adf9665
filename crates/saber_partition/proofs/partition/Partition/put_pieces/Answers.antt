use Rattle.std.proofs.Common.{◌≡◌, ℕ, ◌+◌, ◌<◌, ◌≤◌, List, [], ◌∷◌, ◌++◌, Some, map, take, length, get_or, sym, ◌∙◌, ap, subst, subst₂, arith}
use Rattle.std.proofs.lemmas.Option.{get_or_from_slice_get}
use Rattle.std.proofs.lemmas.List.{length-take-le, map-append, take_all, take_more}
use Rattle.std.specs.List.{slice_get, AllByRecursion}
use Rattle.saber_plan.specs.declared.rows.Row.{Row}
use Rattle.saber_plan.specs.Trees.{tree_of}
use Rattle.saber_plan.specs.GivenRows.{IsRowOf}
use Rattle.saber_plan.specs.Facts.Lists.{all_at}
use Rattle.saber_partition.specs.declared.pieces.RowPiece.{RowPiece}
use Rattle.saber_partition.specs.Pieces.{Made, IsMade, AreMade}
use Rattle.saber_partition.specs.Stores.{made_of, HasPart}
use Rattle.saber_partition.proofs.Parted.{all_push, still_made, still_there}
use Rattle.saber_partition.proofs.Taking.{made_nothing, made_more}
use Rattle.saber_partition.proofs.partition.Partition.put_pieces.Goals as goal

is_row : (rows : List Row) (k : ℕ) (x : Row) → Some x ≡ slice_get rows k → x ≡ get_or rows k x
is_row rows k x there = sym (get_or_from_slice_get rows k x x (sym there))

pub loop-i-init : goal.loop-i-init
loop-i-init c =
    let q = tree_of c.args.self.now in
    record {
      made = subst (λ (ps : List RowPiece). AreMade q [] c.args.places.now (map (made_of c.args.parts.now) ps)) (sym (c.in_ok-try_reserve_exact.ensures.items ∙ c.requires.none)) (made_nothing q c.args.places.now);
      there = subst (AllByRecursion (HasPart c.args.parts.now)) (sym (c.in_ok-try_reserve_exact.ensures.items ∙ c.requires.none)) tt;
      others = c.requires.others;
    }

pub row_piece-requires-clause-row : goal.row_piece-requires-clause-row
row_piece-requires-clause-row c =
    let rows = c.args.rows.now in
    let i = c.loop-i.i in
    let below = subst (λ n. i < n) c.len-count.ensures c.loop-i-test.true in
    all_at (IsRowOf (tree_of c.args.self.now)) rows i c.row.result below (is_row rows i c.row.result c.row.ensures) c.requires.rows

pub loop-i-preserved : goal.loop-i-preserved
loop-i-preserved c =
    let q = tree_of c.args.self.now in
    let rows = c.args.rows.now in
    let ns = c.args.places.now in
    let i = c.loop-i.i in
    let x = c.row.result in
    let p = c.in_ok-piece.piece in
    let old = c.loop-i.pieces.items in
    let qs = c.row_piece.new.parts in
    let kept = c.loop-i.invariant in
    let still : map (made_of qs) old ≡ map (made_of c.loop-i.parts) old = still_made c.loop-i.parts qs old c.in_ok-piece.ensures.more kept.there in
    let below = subst (λ n. i < n) c.len-count.ensures c.loop-i-test.true in
    let more : take (i + 1) rows ≡ take i rows ++ x ∷ [] = take_more rows i x below ∙ ap (λ y. take i rows ++ y ∷ []) (sym (is_row rows i x c.row.ensures)) in
    let pushed : map (made_of qs) c.push.new.self.items ≡ map (made_of qs) old ++ made_of qs p ∷ [] = ap (map (made_of qs)) c.in_ok-push.ensures.items ∙ map-append (made_of qs) old (p ∷ []) in
    let long : length (take i rows) ≡ i = length-take-le i rows (omega (arith, below)) in
    let place : c.place_at-place.result ≡ get_or ns (length (take i rows)) 0 = c.place_at-place.ensures ∙ ap (λ n. get_or ns n 0) (sym long) in
    record {
      made = subst₂ (λ (rs : List Row) (ps : List Made). AreMade q rs ns ps) (sym more) (sym pushed)
          (made_more q (take i rows) ns (map (made_of qs) old) x (made_of qs p) (subst (AreMade q (take i rows) ns) (sym still) kept.made)
          (subst (λ n. IsMade q x n (made_of qs p)) place c.in_ok-piece.ensures.made));
      there = subst (AllByRecursion (HasPart qs)) (sym c.in_ok-push.ensures.items) (all_push (HasPart qs) old p (still_there c.loop-i.parts qs old c.in_ok-piece.ensures.more kept.there) c.in_ok-piece.ensures.there);
      others = c.in_ok-piece.ensures.all;
    }

pub returns : goal.returns
returns c =
    let rows = c.args.rows.now in
    let all = subst (λ n. n ≤ c.loop-i.i) c.len-count.ensures c.loop-i-test.false in
    subst (λ (rs : List Row). AreMade (tree_of c.args.self.now) rs c.args.places.now (map (made_of c.loop-i.parts) c.loop-i.pieces.items)) (take_all c.loop-i.i rows all) c.loop-i.invariant.made
