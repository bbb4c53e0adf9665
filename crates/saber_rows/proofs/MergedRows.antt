-- Rows of a merge that its sides hold.
use Rattle.std.proofs.Common.{◌≡◌, ◌≢◌, ℕ, ◌+◌, List, true, false, nat_le, suc, Option, Some, None, Result, Ok, IfSome, refl, sym, ◌∙◌, ap, subst, arith}
use Rattle.saber_plan.specs.declared.rows.Row.{Row}
use Rattle.saber_plan.specs.declared.rows.Side.TheVariants.{Left, Right}
use Rattle.saber_plan.specs.declared.windows.Mark.{Mark}
use Rattle.saber_plan.specs.Rows.{stamp}
use Rattle.saber_plan.specs.Inputs.{merged_read}
use Rattle.saber_rows.specs.declared.ends.RowEnd.{RowEnd}
use Rattle.saber_rows.specs.declared.heads.Look.{Look}
use Rattle.saber_rows.specs.declared.heads.Look.TheVariants.{Found, Ended, Failed}
use Rattle.saber_rows.specs.Reader.{Reader}
use Rattle.saber_rows.specs.Calls.{HoldsNext}
use Rattle.saber_rows.specs.Heads.{Headed, bare, side_rest, front_of, Called, Looks, LooksAfterAny}
use Rattle.saber_rows.specs.Merging.{Merger, settled_answer, Passed, MergeTurn}
use Rattle.saber_rows.specs.MergedRows.{PutsFront, StillGives, MergeStands, MergesOne, MergesRows}
use Rattle.saber_rows.proofs.Fronts.{stand, looks}
use Rattle.saber_rows.proofs.MergedTurns.{front_is, none_some, found_fails, unfailed_yet, on_left, on_right, lesser_left, lesser_right}
use Rattle.saber_rows.proofs.MergedLaws.{merges_go_on, mergers_stand}

-- a row that was held is what a call gives
called : (row : Row) (old new : Reader) (left : Option (List ℕ)) → HoldsNext row old new → Called (Ok (Some row)) old new left left
called row old new left h = record {
  again = subst (λ o. IfSome o (λ a. (◌≡◌ {A = Result (Option Row) RowEnd} (Ok (Some row)) a) × (new ≡ old))) (sym h.goes) tt;
  moves = h.moves left;
  rules = h.rules;
  answer = λ _. h.answer;
  none = λ _ e. absurd cc;
  ended = λ _ e. absurd cc;
  refused = λ _ line cause e. absurd cc;
  cut = λ _ e. absurd cc;
  memory = λ _ e. absurd cc;
  fits = h.given.fits;
  ordered = h.given.ordered;
  last = h.given.last;
  rises = h.given.rises;
  stays = omega (arith, h.given.rises);
  counted = h.counted;
}

-- it comes in front
pub fetched : (row : Row) (old new : Reader) (ahead : Option Row) → ahead ≡ None → HoldsNext row old new → (left : Option (List ℕ))
    → LooksAfterAny (Found (stamp row.values)) (record { reader = old; ahead = ahead }) (record { reader = new; ahead = Some row }) left left
fetched row old new ahead none h left side last count p = looks old new left left side last count ahead none p (Ok (Some row)) (Ok (Some row)) refl (called row old new left h)

-- ---- looks that find what is held

abbrev pub LooksQuick : ℕ → Headed → Headed → Type 0
LooksQuick n old new = (left : Option (List ℕ)) → LooksAfterAny (Found n) old new left left

found_open : (n : ℕ) (r : Option Look) → ((e : RowEnd) → r ≢ Some (Failed e)) → settled_answer (Some (Found n)) r ≡ None
found_open n None h = refl
found_open n (Some (Found k)) h = refl
found_open n (Some Ended) h = refl
found_open n (Some (Failed e)) h = absurd (h e refl)

right_found_open : (n : ℕ) (f r : Option Look) → settled_answer f r ≡ None → settled_answer f (Some (Found n)) ≡ None
right_found_open n None r h = refl
right_found_open n (Some (Found k)) r h = refl
right_found_open n (Some Ended) r h = refl
right_found_open n (Some (Failed e)) r h = absurd cc

module _ (n : ℕ) (a b o : Headed) (look : LooksQuick n a b) (rules : b.reader.rules ≡ a.reader.rules) where
  abbrev left_before : Merger
  left_before = record { left = a; right = o }

  abbrev left_after : Merger
  left_after = record { left = b; right = o }

  left_still : (m : Mark) → Passed m left_before → StillGives m left_before left_after
  left_still m p =
      let k : (l : Option (List ℕ)) → Looks (Found n) Left m.last m.left a b l l = λ l. look l Left m.last m.left p.left in
      let front : front_of b ≡ Some (Found n) = front_is (Found n) b (k None).finds in
      record {
        moves = λ l r. record { left = (k l).takes; right = stand o.reader r; rest = λ c d z w f g. ap (λ x. merged_read x (side_rest d o w)) ((k l).rest c z f) };
        passed = record { left = (k None).passed; right = p.right; held = λ h e. absurd (none_some (front_of b) (Found n) h front) };
        goes = λ h. ap (λ x. settled_answer x (front_of o)) front ∙ found_open n (front_of o) (unfailed_yet (front_of a) (front_of o) h p.held);
      }

  pub left_stands : MergeStands left_before left_after
  left_stands = record { still = left_still; left_rules = rules; right_rules = refl }

module _ (n : ℕ) (o a b : Headed) (look : LooksQuick n a b) (rules : b.reader.rules ≡ a.reader.rules) where
  abbrev right_before : Merger
  right_before = record { left = o; right = a }

  abbrev right_after : Merger
  right_after = record { left = o; right = b }

  right_still : (m : Mark) → Passed m right_before → StillGives m right_before right_after
  right_still m p =
      let k : (l : Option (List ℕ)) → Looks (Found n) Right m.last m.right a b l l = λ l. look l Right m.last m.right p.right in
      let front : front_of b ≡ Some (Found n) = front_is (Found n) b (k None).finds in
      record {
        moves = λ l r. record { left = stand o.reader l; right = (k r).takes; rest = λ c d z w f g. ap (merged_read (side_rest c o z)) ((k r).rest d w g) };
        passed = record { left = p.left; right = (k None).passed; held = λ h e. found_fails n e (front_of b) front };
        goes = λ h. ap (settled_answer (front_of o)) front ∙ right_found_open n (front_of o) (front_of a) h;
      }

  pub right_stands : MergeStands right_before right_after
  right_stands = record { still = right_still; left_rules = refl; right_rules = rules }

pub same_stands : (a b : Merger) → b ≡ a → MergeStands a b
same_stands a b e = subst (MergeStands a) (sym e) (record {
  still = λ m p. record { moves = λ l r. mergers_stand a l r; passed = p; goes = λ h. h };
  left_rules = refl;
  right_rules = refl;
})

pub stands_on : (a b c : Merger) → MergeStands a b → MergeStands b c → MergeStands a c
stands_on a b c s t = record {
  still = λ m p.
      let k = s.still m p in
      let l = t.still m k.passed in
      record { moves = λ x y. merges_go_on (λ r. r) (λ r. r) a b c x x x y y y (k.moves x y) (l.moves x y); passed = l.passed; goes = λ h. l.goes (k.goes h) };
  left_rules = t.left_rules ∙ s.left_rules;
  right_rules = t.right_rules ∙ s.right_rules;
}

pub left_none : (a b o : Headed) → b ≡ a → MergeStands (record { left = a; right = o }) (record { left = b; right = o })
left_none a b o e = subst (λ h. MergeStands (record { left = a; right = o }) (record { left = h; right = o })) (sym e) (same_stands (record { left = a; right = o }) (record { left = a; right = o }) refl)

pub right_none : (n : ℕ) (a b c d : Headed) → LooksQuick n a b → b.reader.rules ≡ a.reader.rules → d ≡ c → MergeStands (record { left = a; right = c }) (record { left = b; right = d })
right_none n a b c d look rules e = subst (λ h. MergeStands (record { left = a; right = c }) (record { left = b; right = h })) (sym e) (left_stands n a b c look rules)

-- ---- both sides hold theirs

module _ (n k : ℕ) (a b c d : Headed) (left : LooksQuick n a b) (left_rules : b.reader.rules ≡ a.reader.rules) (right : LooksQuick k c d) (right_rules : d.reader.rules ≡ c.reader.rules) (had has : List Row) where
  abbrev both_before : Merger
  both_before = record { left = a; right = c }

  abbrev both_after : Merger
  both_after = record { left = b; right = d }

  pub both_stand : MergeStands both_before both_after
  both_stand = stands_on both_before (record { left = b; right = c }) both_after (left_stands n a b c left left_rules) (right_stands k b c d right right_rules)

  pub kept_left : (new : Headed) → new ≡ b → MergeStands both_before (record { left = new; right = d })
  kept_left new e = subst (λ h. MergeStands both_before (record { left = h; right = d })) (sym e) both_stand

  pub kept_right : (new : Headed) → new ≡ d → MergeStands both_before (record { left = b; right = new })
  kept_right new e = subst (λ h. MergeStands both_before (record { left = b; right = h })) (sym e) both_stand

  turned : (m : Mark) (l r : Option (List ℕ)) (x : Option Row) (new : Merger) → Passed m both_before → (Passed m both_after → MergeTurn m (Ok x) both_after new l l r r) → MergeTurn m (Ok x) both_before new l l r r
  turned m l r x new p turn =
      let f = left l Left m.last m.left p.left in
      let g = right r Right m.last m.right p.right in
      on_left m (Ok x) (Found n) a b c new l l l r r f (on_right m (Ok x) (Found k) c d b new r r r l l g (turn (both_stand.still m p).passed))

  pub puts_left : nat_le n k ≡ true → (new : Headed) → PutsFront b new had has → MergesOne both_before (record { left = new; right = d }) had has
  puts_left less new p = record {
    row = p.row;
    put = p.put;
    turn = λ l r m q. turned m l r (Some p.row) (record { left = new; right = d }) q (λ s.
        subst (λ h. MergeTurn m (Ok (Some p.row)) both_after (record { left = h; right = d }) l l r r) (sym p.rest)
        (subst (λ o. MergeTurn m (Ok o) both_after (record { left = bare b.reader; right = d }) l l r r) p.front
        (lesser_left m both_after l r s n k (left l Left m.last m.left q.left).finds (right r Right m.last m.right q.right).finds less)));
    left_rules = ap (λ (h : Headed). h.reader.rules) p.rest ∙ left_rules;
    right_rules = right_rules;
  }

  pub puts_right : nat_le n k ≡ false → (new : Headed) → PutsFront d new had has → MergesOne both_before (record { left = b; right = new }) had has
  puts_right more new p = record {
    row = p.row;
    put = p.put;
    turn = λ l r m q. turned m l r (Some p.row) (record { left = b; right = new }) q (λ s.
        subst (λ h. MergeTurn m (Ok (Some p.row)) both_after (record { left = b; right = h }) l l r r) (sym p.rest)
        (subst (λ o. MergeTurn m (Ok o) both_after (record { left = b; right = bare d.reader }) l l r r) p.front
        (lesser_right m both_after l r s n k (left l Left m.last m.left q.left).finds (right r Right m.last m.right q.right).finds more)));
    left_rules = left_rules;
    right_rules = ap (λ (h : Headed). h.reader.rules) p.rest ∙ right_rules;
  }

-- ---- one after another

pub one_more : (n : ℕ) (old mid new : Merger) (had there has : List Row) → MergesRows n old mid had there → MergesOne mid new there has → MergesRows (n + 1) old new had has
one_more n old mid new had there has rows one = subst (λ k. MergesRows k old new had has) next (mid, there, rows, one) where
  next : suc n ≡ n + 1
  next = omega arith
