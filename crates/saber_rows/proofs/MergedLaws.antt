-- Calls of a merge, one after another, and over sources that tell.
use Rattle.std.proofs.Common.{◌≡◌, ℕ, List, [], ◌++◌, Bool, true, false, Option, Some, None, option_map, Ok, Err, refl, sym, ◌∙◌, ap, subst, append_assoc}
use Rattle.saber_io.specs.Outside.{left_before, EndsEmpty}
use Rattle.saber_plan.specs.Rows.{Read}
use Rattle.saber_rows.specs.Reader.{Reader, to_come}
use Rattle.saber_rows.specs.Heads.{Headed, Takes}
use Rattle.saber_rows.specs.Merging.{Merger, merger_rest, merger_over, MergeMoves}
use Rattle.saber_rows.specs.Laws.{LinesPass, MergesGoOn, MergersStand, MergesTell}
use Rattle.saber_rows.proofs.ReaderTexts.{none_comes, all_comes, can_come}
use Rattle.saber_rows.proofs.Fronts.{stand, looked}
use Rattle.saber_rows.proofs.MergedTurns.{takes_on, followed, is_ahead, in_turn, goes}

pub merges_go_on : MergesGoOn
merges_go_on f g a b c h1 h2 h3 k1 k2 k3 first next =
    let l = takes_on a.left.reader b.left.reader c.left.reader h1 h2 h3 first.left next.left in
    let r = takes_on a.right.reader b.right.reader c.right.reader k1 k2 k3 first.right next.right in
    record {
      left = l;
      right = r;
      rest = λ p q z w x y.
          ap (λ t. merger_rest p q a t (r.taken ++ w)) (append_assoc first.left.taken next.left.taken z)
          ∙ ap (merger_rest p q a (first.left.taken ++ (next.left.taken ++ z))) (append_assoc first.right.taken next.right.taken w)
          ∙ first.rest p q (next.left.taken ++ z) (next.right.taken ++ w) (followed a.left.reader b.left.reader c.left.reader h1 h2 h3 first.left next.left p z x) (followed a.right.reader b.right.reader c.right.reader k1 k2 k3 first.right next.right q w y)
          ∙ ap f (next.rest p q z w x y);
    }

pub mergers_stand : MergersStand
mergers_stand m had hadr = record { left = stand m.left.reader had; right = stand m.right.reader hadr; rest = λ p q z w f g. refl }

-- what will come of a side is what was taken, and then what will come
module _ (a b : Reader) (had has : Option (List ℕ)) (t : Takes a b had has) (z : List ℕ) (there : has ≡ Some z) where
  comes_later : (e : Bool) → b.ended ≡ e → a.ended ≡ false → t.taken ++ z ≡ t.taken ++ to_come b z
  comes_later true e unended = let empty : z ≡ [] = subst EndsEmpty there (t.seen unended e) in ap (λ y. t.taken ++ y) (empty ∙ sym (none_comes b z e))
  comes_later false e unended = ap (λ y. t.taken ++ y) (sym (all_comes b z e))

  comes_by : (e : Bool) → a.ended ≡ e → to_come a (t.taken ++ z) ≡ t.taken ++ to_come b z
  comes_by true e = none_comes a (t.taken ++ z) e ∙ sym (ap (λ y. y ++ to_come b z) (t.still e).0 ∙ none_comes b z (t.still e).1)
  comes_by false e = all_comes a (t.taken ++ z) e ∙ comes_later b.ended refl e

  comes : to_come a (t.taken ++ z) ≡ t.taken ++ to_come b z
  comes = comes_by a.ended refl

module _ (f : Read → Read) (a b : Merger) (h1 h2 k1 k2 : Option (List ℕ)) (m : MergeMoves f a b h1 h2 k1 k2) where
  both_tell : (z w : List ℕ) → h2 ≡ Some z → k2 ≡ Some w → merger_rest false false a (to_come a.left.reader (m.left.taken ++ z)) (to_come a.right.reader (m.right.taken ++ w)) ≡ f (merger_rest false false b (to_come b.left.reader z) (to_come b.right.reader w))
  both_tell z w e g =
      ap (λ y. merger_rest false false a y (to_come a.right.reader (m.right.taken ++ w))) (comes a.left.reader b.left.reader h1 h2 m.left z e)
      ∙ ap (merger_rest false false a (m.left.taken ++ to_come b.left.reader z)) (comes a.right.reader b.right.reader k1 k2 m.right w g)
      ∙ m.rest false false (to_come b.left.reader z) (to_come b.right.reader w) (can_come b.left.reader z) (can_come b.right.reader w)

  by_told : (l r : Option (List ℕ)) → h2 ≡ l → k2 ≡ r → merger_over a (left_before m.left.taken l) (left_before m.right.taken r) ≡ option_map f (merger_over b l r)
  by_told None r e g = refl
  by_told (Some z) None e g = refl
  by_told (Some z) (Some w) e g = ap Some (both_tell z w e g)

pub merges_tell : MergesTell
merges_tell f a b h1 h2 k1 k2 m = ap (λ l. merger_over a l k1) m.left.left ∙ ap (merger_over a (left_before m.left.taken h2)) m.right.left ∙ by_told f a b h1 h2 k1 k2 m h2 k2 refl refl

-- a call of a reader alone is a look, after which the row in front is passed on
pub lines_pass : LinesPass
lines_pass (Ok (Some row)) old new had has c side last count p =
    let l = looked old new had has side last count p (Ok (Some row)) c in
    let h : Headed = record { reader = new; ahead = Some row } in
    record { fits = (is_ahead side last count h l.passed row refl).fits; ordered = in_turn side last count h l.passed row refl; passed = goes side last count h l.passed row refl }
lines_pass (Ok None) old new had has c side last count p = let l = looked old new had has side last count p (Ok None) c in (l.passed, l.finds.2)
lines_pass (Err e) old new had has c side last count p = let l = looked old new had has side last count p (Err e) c in (l.passed, l.finds.2)
