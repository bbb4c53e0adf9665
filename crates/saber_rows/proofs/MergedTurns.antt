-- What a merge does, by what stands in front of its sides.
use Rattle.std.proofs.Common.{◌≡◌, ◌≢◌, ◌≤◌, ℕ, ◌+◌, List, [], ◌∷◌, ◌++◌, length, Bool, true, false, cond, nat_le, is_some, Option, Some, None, Result, Ok, Err, IfSome, ℤ, pos, option_map, refl, sym, ◌∙◌, ap, subst, arith, append_assoc, length-append}
use Rattle.std.proofs.lemmas.Bool.Decides.{nat_tests}
use Rattle.saber_io.specs.Outside.{left_before, EndsEmpty}
use Rattle.saber_plan.specs.declared.rows.Row.{Row}
use Rattle.saber_plan.specs.declared.rows.Side.{Side}
use Rattle.saber_plan.specs.declared.rows.Side.TheVariants.{Left, Right}
use Rattle.saber_plan.specs.declared.windows.Mark.{Mark}
use Rattle.saber_plan.specs.Rows.{Read, End, all_read, cut, bad, before, stamp, falls, RowFits, lines_of}
use Rattle.saber_plan.specs.Windows.{by_side, in_order, step_mark}
use Rattle.saber_plan.specs.Inputs.{holds_up, merged_read}
use Rattle.saber_rows.specs.declared.ends.RowEnd.{RowEnd}
use Rattle.saber_rows.specs.declared.ends.RowEnd.TheVariants.{ReadFault, NoMemory, Bad}
use Rattle.saber_rows.specs.declared.heads.Look.{Look}
use Rattle.saber_rows.specs.declared.heads.Look.TheVariants.{Found, Ended, Failed}
use Rattle.saber_rows.specs.Reader.{Reader, rest_of, gone_count, CanFollow, nothing}
use Rattle.saber_rows.specs.Heads.{Headed, bare, look_of, led_by, side_rest, front_of, Finds, Takes, IsAhead, SidePassed, ComesAfter, Looks}
use Rattle.saber_rows.specs.MergedRows.{TakesFront}
use Rattle.saber_rows.specs.Merging.{Merger, merger_rest, MergeAnswer, settled_answer, merge_answer, MergeMoves, StopsBy, Passed, MergeTurn}
use Rattle.saber_rows.proofs.ReadSteps.{given_none, true_not_false}
use Rattle.saber_rows.proofs.Fronts.{stand}
use Rattle.saber_laws.proofs.MergedLaws.{merges_turn}

-- ---- merged rows, by what is in front

none_left : (r : Read) → merged_read (nothing all_read) r ≡ r
none_left r = merges_turn.left_ended r.end r.rows

none_right : (l : Read) → merged_read l (nothing all_read) ≡ l
none_right l = by_rows l.rows l.end where
  by_end : (e : End) → merged_read (nothing e) (nothing all_read) ≡ nothing e
  by_end all_read = merges_turn.left_ended all_read []
  by_end cut = merges_turn.left_stops cut all_read [] refl
  by_end (bad s n c) = merges_turn.left_stops (bad s n c) all_read [] refl

  by_rows : (xs : List Row) (e : End) → merged_read (record { rows = xs; end = e }) (nothing all_read) ≡ record { rows = xs; end = e }
  by_rows [] e = by_end e
  by_rows (x ∷ xs) e = merges_turn.right_ended x xs e

takes_left : (l r : Read) (x y : Row) → nat_le (stamp x.values) (stamp y.values) ≡ true → merged_read (before x l) (before y r) ≡ before x (merged_read l (before y r))
takes_left l r x y e = merges_turn.takes x l.rows l.end y r.rows r.end ∙ ap (λ b. cond b (before x (merged_read l (before y r))) (before y (merged_read (before x l) r))) e

takes_right : (l r : Read) (x y : Row) → nat_le (stamp x.values) (stamp y.values) ≡ false → merged_read (before x l) (before y r) ≡ before y (merged_read (before x l) r)
takes_right l r x y e = merges_turn.takes x l.rows l.end y r.rows r.end ∙ ap (λ b. cond b (before x (merged_read l (before y r))) (before y (merged_read (before x l) r))) e

-- ---- sides

row_rest : (p : Bool) (h : Headed) (z : List ℕ) (x : Row) → h.ahead ≡ Some x → side_rest p h z ≡ before x (rest_of p h.reader z)
row_rest p h z x e = ap (λ o. led_by o (rest_of p h.reader z)) e

no_row_rest : (p : Bool) (h : Headed) (z : List ℕ) → h.ahead ≡ None → side_rest p h z ≡ rest_of p h.reader z
no_row_rest p h z e = ap (λ o. led_by o (rest_of p h.reader z)) e

-- a side that is read to its end has nothing, whatever can follow
ended_rest : (p : Bool) (h : Headed) (z : List ℕ) → Finds Ended h → CanFollow p h.reader z → side_rest p h z ≡ nothing all_read
ended_rest false h z f follow = no_row_rest false h z f.0 ∙ f.2.0 z follow
ended_rest true h z f follow = absurd (true_not_false true (follow f.2.1).0 refl)

-- one whose next line is refused has that end
refused_rest : (s : Side) (n : ℕ) (c : _) (h : Headed) (z : List ℕ) → h.reader.rules.side ≡ s → Finds (Failed (Bad n c)) h → CanFollow false h.reader z → side_rest false h z ≡ nothing (bad s n c)
refused_rest s n c h z e f follow = no_row_rest false h z f.0 ∙ f.2 z follow ∙ ap (λ t. nothing (bad t n c)) e

cut_rest : (h : Headed) → Finds (Failed ReadFault) h → side_rest true h [] ≡ nothing cut
cut_rest h f = no_row_rest true h [] f.0 ∙ f.2.none

-- what stands in front is what a look finds without the source
pub front_is : (l : Look) (h : Headed) → Finds l h → front_of h ≡ Some l
front_is (Found n) h (row, e, s) = ap (λ o. front_of (record { reader = h.reader; ahead = o })) e ∙ ap (λ k. Some (Found k)) (sym s)
front_is Ended h (e, a, c) = ap (λ o. front_of (record { reader = h.reader; ahead = o })) e ∙ ap (option_map look_of) a
front_is (Failed x) h (e, a, c) = ap (λ o. front_of (record { reader = h.reader; ahead = o })) e ∙ ap (option_map look_of) a

-- once its row is passed on, nothing is known of what stands in front
front_gone : (h : Headed) (x : Row) → IsAhead x h.reader → front_of (bare h.reader) ≡ None
front_gone h x a = ap (option_map look_of) a.fresh

pub none_some : (o : Option Look) (l : Look) → o ≡ None → o ≡ Some l → ⊥
none_some o l e f = cc

-- the left side's row is behind an answer of the right one
pub again_row : (n : ℕ) (l : Look) (o : Option Look) (answer : MergeAnswer) (P Q R : Type 0) → IfSome o (λ look. (l ≡ look) × P × Q) → ((e : RowEnd) → l ≡ Failed e → P → (answer ≡ Err (Right, e)) × R) → IfSome (settled_answer (Some (Found n)) o) (λ a. (answer ≡ a) × R × Q)
again_row n l None answer P Q R h f = tt
again_row n l (Some (Found k)) answer P Q R h f = tt
again_row n l (Some Ended) answer P Q R h f = tt
again_row n l (Some (Failed e)) answer P Q R h f = let r = f e h.0 h.1 in (r.0, r.1, h.2)

-- the left side is at its end
pub again_end : (l : Look) (o : Option Look) (answer : MergeAnswer) (P Q R : Type 0) → IfSome o (λ look. (l ≡ look) × P × Q) → (l ≡ Ended → P → (answer ≡ Ok None) × R) → ((e : RowEnd) → l ≡ Failed e → P → (answer ≡ Err (Right, e)) × R)
    → IfSome (settled_answer (Some Ended) o) (λ a. (answer ≡ a) × R × Q)
again_end l None answer P Q R h d f = tt
again_end l (Some (Found k)) answer P Q R h d f = tt
again_end l (Some Ended) answer P Q R h d f = let r = d h.0 h.1 in (r.0, r.1, h.2)
again_end l (Some (Failed e)) answer P Q R h d f = let r = f e h.0 h.1 in (r.0, r.1, h.2)

-- a side that fails had not failed before, or gives its failure again
pub unsettled : (o : Option Look) (l : Look) (d : RowEnd) (P Q : Type 0) → l ≡ Failed d → IfSome o (λ look. (l ≡ look) × P × Q) → ((e : RowEnd) → o ≢ Some (Failed e)) → o ≡ None
unsettled None l d P Q is h f = refl
unsettled (Some look) l d P Q is h f = absurd (f d (ap (λ x. Some x) (sym h.0 ∙ is)))

-- what is fixed of the sides stays
pub taken_rules : (b : Bool) (row : Option Row) (old new : Merger) → TakesFront b row old new → (new.left.reader.rules ≡ old.left.reader.rules) × (new.right.reader.rules ≡ old.right.reader.rules)
taken_rules true row old new h = (ap (λ (m : Merger). m.left.reader.rules) h.1, ap (λ (m : Merger). m.right.reader.rules) h.1)
taken_rules false row old new h = (ap (λ (m : Merger). m.left.reader.rules) h.1, ap (λ (m : Merger). m.right.reader.rules) h.1)

pub found_not_failed : (n : ℕ) (e : RowEnd) → ◌≡◌ {A = Look} (Found n) (Failed e) → ⊥
found_not_failed n e h = cc

pub found_not_ended : (n : ℕ) → ◌≡◌ {A = Look} (Found n) Ended → ⊥
found_not_ended n h = cc

pub ended_not_failed : (e : RowEnd) → ◌≡◌ {A = Look} Ended (Failed e) → ⊥
ended_not_failed e h = cc

pub same_failure : (d e : RowEnd) → ◌≡◌ {A = Look} (Failed d) (Failed e) → d ≡ e
same_failure d e h = cc

-- a row is no fault
pub row_not_err : (row : Option Row) (s : Side) (e : RowEnd) → ◌≡◌ {A = MergeAnswer} (Ok row) (Err (s, e)) → ⊥
row_not_err row s e h = cc

same_err : (x y : Side × RowEnd) → ◌≡◌ {A = MergeAnswer} (Err x) (Err y) → x ≡ y
same_err x y h = cc

pub right_not_left : (d e : RowEnd) → ◌≡◌ {A = MergeAnswer} (Err (Right, d)) (Err (Left, e)) → ⊥
right_not_left d e h = let s : Right ≡ Left = ap (λ (x : Side × RowEnd). x.0) (same_err (Right, d) (Left, e) h) in cc

pub same_right : (d e : RowEnd) → ◌≡◌ {A = MergeAnswer} (Err (Right, d)) (Err (Right, e)) → d ≡ e
same_right d e h = ap (λ (x : Side × RowEnd). x.1) (same_err (Right, d) (Right, e) h)

pub found_fails : (n : ℕ) (e : RowEnd) (o : Option Look) → o ≡ Some (Found n) → o ≡ Some (Failed e) → ⊥
found_fails n e o f g = cc

pub ended_fails : (e : RowEnd) (o : Option Look) → o ≡ Some Ended → o ≡ Some (Failed e) → ⊥
ended_fails e o f g = cc

-- ---- what was passed on

module _ (s : Side) (last : Option ℤ) (count : ℕ) (h : Headed) (p : SidePassed s last count h) (x : Row) (e : h.ahead ≡ Some x) where
  pub is_ahead : IsAhead x h.reader
  is_ahead = subst (λ o. IfSome o (λ row. IsAhead row h.reader)) e p.front

  pub own_side : x.side ≡ s
  own_side = is_ahead.fits.own ∙ p.is_side

  pub in_turn : in_order last (stamp x.values) ≡ true
  in_turn = subst (λ o. ComesAfter last o h.reader) e p.order

  after_it : (o : Option ℕ) (zs : List ℤ) → o ≡ Some (stamp x.values) → falls o zs ≡ false → in_order (Some (pos (stamp x.values))) (stamp zs) ≡ true
  after_it None zs g k = cc
  after_it (Some l) zs g k =
      let same : l ≡ stamp x.values = cc in
      subst (λ n. nat_le n (stamp zs) ≡ true) same (grind (arith, nat_tests))

  -- its row goes
  pub goes : SidePassed s (Some (pos (stamp x.values))) (count + 1) (bare h.reader)
  goes =
      let c : count + 1 ≤ gone_count h.reader = subst (λ o. count + cond (is_some o) 1 0 ≤ gone_count h.reader) e p.counted in
      record { is_side = p.is_side; front = tt; sure = p.sure; order = λ f zs k. after_it h.reader.last zs is_ahead.last k; counted = omega (arith, c); few = p.few }

  -- the other side's row goes, and this one's is not before it
  pub stays_row : (n : ℕ) → nat_le n (stamp x.values) ≡ true → SidePassed s (Some (pos n)) count h
  stays_row n g = record { is_side = p.is_side; front = p.front; sure = p.sure; order = subst (λ o. ComesAfter (Some (pos n)) o h.reader) (sym e) g; counted = p.counted; few = p.few }

-- the other side's row goes, and this one is at its end
pub stays_ended : (s : Side) (last new : Option ℤ) (count : ℕ) (h : Headed) → SidePassed s last count h → Finds Ended h → SidePassed s new count h
stays_ended s last new count h p f = record {
  is_side = p.is_side;
  front = p.front;
  sure = p.sure;
  order = subst (λ o. ComesAfter new o h.reader) (sym f.0) (λ g. absurd (no_answer h.reader.answer g f.1));
  counted = p.counted;
  few = p.few;
} where
  no_answer : (o : Option (Result (Option Row) RowEnd)) → o ≡ None → o ≡ Some (Ok None) → ⊥
  no_answer o a b = cc

count_left : (m : Mark) (x : Row) → x.side ≡ Left → (step_mark m x).left ≡ m.left + 1
count_left m x e = ap (λ s. by_side s (m.left + 1) m.left) e

count_left_same : (m : Mark) (x : Row) → x.side ≡ Right → (step_mark m x).left ≡ m.left
count_left_same m x e = ap (λ s. by_side s (m.left + 1) m.left) e

count_right : (m : Mark) (x : Row) → x.side ≡ Right → (step_mark m x).right ≡ m.right + 1
count_right m x e = ap (λ s. by_side s m.right (m.right + 1)) e

count_right_same : (m : Mark) (x : Row) → x.side ≡ Left → (step_mark m x).right ≡ m.right
count_right_same m x e = ap (λ s. by_side s m.right (m.right + 1)) e

fits_side : (x : Row) (h : Headed) (s : Side) (l r : ℕ) → IsAhead x h.reader → h.reader.rules.side ≡ s → h.reader.rules.columns ≡ by_side s l r → RowFits x.side (by_side x.side l r) x
fits_side x h s l r a e c =
    let own : x.side ≡ s = a.fits.own ∙ e in
    record { own = refl; count = a.fits.count ∙ c ∙ ap (λ t. by_side t l r) (sym own); range = a.fits.range }

-- ---- turns

module _ (m : Mark) (old : Merger) (had hadr : Option (List ℕ)) (p : Passed m old) where
  -- nothing moves
  abbrev pub still_moves : MergeMoves (λ rest. rest) old old had had hadr hadr
  still_moves = record { left = stand old.left.reader had; right = stand old.right.reader hadr; rest = λ a b z w f g. refl }

  -- ---- an end

  pub both_ended : Finds Ended old.left → Finds Ended old.right → MergeTurn m (Ok None) old old had had hadr hadr
  both_ended f g = record {
    moves = still_moves;
    ends = λ z w a b. ap (λ l. merged_read l (side_rest false old.right w)) (ended_rest false old.left z f a) ∙ none_left (side_rest false old.right w) ∙ ended_rest false old.right w g b;
    passed = p;
    kept = ap (λ o. settled_answer o (front_of old.right)) (front_is Ended old.left f) ∙ ap (settled_answer (Some Ended)) (front_is Ended old.right g);
  }

  stops_left : (e : RowEnd) → Finds (Failed e) old.left → StopsBy Left e old
  stops_left (Bad n c) f = λ z w a b. ap (λ l. merged_read l (side_rest false old.right w)) (refused_rest Left n c old.left z p.left.is_side f a) ∙ merges_turn.left_stops (bad Left n c) (side_rest false old.right w).end (side_rest false old.right w).rows refl
  stops_left ReadFault f = (f.2, λ w b. ap (λ l. merged_read l (side_rest false old.right w)) (cut_rest old.left f) ∙ merges_turn.left_stops cut (side_rest false old.right w).end (side_rest false old.right w).rows refl)
  stops_left NoMemory f = f.2

  pub left_fails : (e : RowEnd) → Finds (Failed e) old.left → MergeTurn m (Err (Left, e)) old old had had hadr hadr
  left_fails e f = record { moves = still_moves; ends = stops_left e f; passed = p; kept = ap (λ o. settled_answer o (front_of old.right)) (front_is (Failed e) old.left f) }

  -- a left side that has a row or is at its end is held up by the right one
  held_row : (n : ℕ) → Finds (Found n) old.left → (d : End) → holds_up d ≡ true → (q : Bool) (z : List ℕ) → merged_read (side_rest q old.left z) (nothing d) ≡ nothing d
  held_row n (x, e, s) d h q z = ap (λ l. merged_read l (nothing d)) (row_rest q old.left z x e) ∙ merges_turn.right_stops x (rest_of q old.left.reader z).rows (rest_of q old.left.reader z).end d h

  held_end : Finds Ended old.left → (d : End) → (z : List ℕ) → CanFollow false old.left.reader z → merged_read (side_rest false old.left z) (nothing d) ≡ nothing d
  held_end f d z a = ap (λ l. merged_read l (nothing d)) (ended_rest false old.left z f a) ∙ none_left (nothing d)

  stops_right : (e : RowEnd) → Finds (Failed e) old.right → ((d : End) → holds_up d ≡ true → (z : List ℕ) → CanFollow false old.left.reader z → merged_read (side_rest false old.left z) (nothing d) ≡ nothing d) → StopsBy Right e old
  stops_right (Bad n c) f held = λ z w a b. ap (merged_read (side_rest false old.left z)) (refused_rest Right n c old.right w p.right.is_side f b) ∙ held (bad Right n c) refl z a
  stops_right ReadFault f held = (f.2, λ z a. ap (merged_read (side_rest false old.left z)) (cut_rest old.right f) ∙ held cut refl z a)
  stops_right NoMemory f held = f.2

  pub right_fails_row : (n : ℕ) (e : RowEnd) → Finds (Found n) old.left → Finds (Failed e) old.right → MergeTurn m (Err (Right, e)) old old had had hadr hadr
  right_fails_row n e f g = record {
    moves = still_moves;
    ends = stops_right e g (λ d h z a. held_row n f d h false z);
    passed = p;
    kept = ap (λ o. settled_answer o (front_of old.right)) (front_is (Found n) old.left f) ∙ ap (settled_answer (Some (Found n))) (front_is (Failed e) old.right g);
  }

  pub right_fails_end : (e : RowEnd) → Finds Ended old.left → Finds (Failed e) old.right → MergeTurn m (Err (Right, e)) old old had had hadr hadr
  right_fails_end e f g = record {
    moves = still_moves;
    ends = stops_right e g (λ d h z a. held_end f d z a);
    passed = p;
    kept = ap (λ o. settled_answer o (front_of old.right)) (front_is Ended old.left f) ∙ ap (settled_answer (Some Ended)) (front_is (Failed e) old.right g);
  }

  -- ---- a row

  abbrev pub left_gone : Merger
  left_gone = record { left = bare old.left.reader; right = old.right }

  abbrev pub right_gone : Merger
  right_gone = record { left = old.left; right = bare old.right.reader }

  settled_left : (x : Row) → IsAhead x old.left.reader → merge_answer left_gone ≡ None
  settled_left x a = ap (λ o. settled_answer o (front_of old.right)) (front_gone old.left x a)

  settled_row : (n : ℕ) (x : Row) → Finds (Found n) old.left → IsAhead x old.right.reader → merge_answer right_gone ≡ None
  settled_row n x f a = ap (λ o. settled_answer o (front_of (bare old.right.reader))) (front_is (Found n) old.left f) ∙ ap (settled_answer (Some (Found n))) (front_gone old.right x a)

  settled_end : (x : Row) → Finds Ended old.left → IsAhead x old.right.reader → merge_answer right_gone ≡ None
  settled_end x f a = ap (λ o. settled_answer o (front_of (bare old.right.reader))) (front_is Ended old.left f) ∙ ap (settled_answer (Some Ended)) (front_gone old.right x a)

  left_row : (x : Row) (e : old.left.ahead ≡ Some x) → SidePassed Right (Some (pos (stamp x.values))) m.right old.right
      → ((a b : Bool) (z w : List ℕ) → CanFollow a old.left.reader z → CanFollow b old.right.reader w → merger_rest a b old z w ≡ before x (merger_rest a b left_gone z w))
      → ((k : RowEnd) → front_of old.right ≢ Some (Failed k))
      → MergeTurn m (Ok (Some x)) old left_gone had had hadr hadr
  left_row x e other rest unfailed =
      let ahead = is_ahead Left m.last m.left old.left p.left x e in
      let own = own_side Left m.last m.left old.left p.left x e in
      record {
        moves = record { left = stand old.left.reader had; right = stand old.right.reader hadr; rest = rest };
        ends = tt;
        passed = record {
          fits = fits_side x old.left Left old.left.reader.rules.columns old.right.reader.rules.columns ahead p.left.is_side refl;
          ordered = in_turn Left m.last m.left old.left p.left x e;
          passed = record {
            left = subst (λ n. SidePassed Left (Some (pos (stamp x.values))) n (bare old.left.reader)) (sym (count_left m x own)) (goes Left m.last m.left old.left p.left x e);
            right = subst (λ n. SidePassed Right (Some (pos (stamp x.values))) n old.right) (sym (count_right_same m x own)) other;
            held = λ f. unfailed;
          };
        };
        kept = settled_left x ahead;
      }

  right_row : (x : Row) (e : old.right.ahead ≡ Some x) → SidePassed Left (Some (pos (stamp x.values))) m.left old.left
      → ((a b : Bool) (z w : List ℕ) → CanFollow a old.left.reader z → CanFollow b old.right.reader w → merger_rest a b old z w ≡ before x (merger_rest a b right_gone z w))
      → merge_answer right_gone ≡ None
      → MergeTurn m (Ok (Some x)) old right_gone had had hadr hadr
  right_row x e other rest kept =
      let ahead = is_ahead Right m.last m.right old.right p.right x e in
      let own = own_side Right m.last m.right old.right p.right x e in
      record {
        moves = record { left = stand old.left.reader had; right = stand old.right.reader hadr; rest = rest };
        ends = tt;
        passed = record {
          fits = fits_side x old.right Right old.left.reader.rules.columns old.right.reader.rules.columns ahead p.right.is_side refl;
          ordered = in_turn Right m.last m.right old.right p.right x e;
          passed = record {
            left = subst (λ n. SidePassed Left (Some (pos (stamp x.values))) n old.left) (sym (count_left_same m x own)) other;
            right = subst (λ n. SidePassed Right (Some (pos (stamp x.values))) n (bare old.right.reader)) (sym (count_right m x own)) (goes Right m.last m.right old.right p.right x e);
            held = λ f k g. none_some (front_of (bare old.right.reader)) (Failed k) (front_gone old.right x ahead) g;
          };
        };
        kept = kept;
      }

  -- both have one
  pub lesser_left : (n k : ℕ) → Finds (Found n) old.left → Finds (Found k) old.right → nat_le n k ≡ true → MergeTurn m (Ok old.left.ahead) old left_gone had had hadr hadr
  lesser_left n k (x, e, s) (y, f, t) h =
      let less : nat_le (stamp x.values) (stamp y.values) ≡ true = subst (λ i. nat_le i (stamp y.values) ≡ true) s (subst (λ i. nat_le n i ≡ true) t h) in
      subst (λ o. MergeTurn m (Ok o) old left_gone had had hadr hadr) (sym e)
      (left_row x e (stays_row Right m.last m.right old.right p.right y f (stamp x.values) less)
      (λ a b z w c d. ap (λ l. merged_read l (side_rest b old.right w)) (row_rest a old.left z x e) ∙ ap (merged_read (before x (rest_of a old.left.reader z))) (row_rest b old.right w y f)
      ∙ takes_left (rest_of a old.left.reader z) (rest_of b old.right.reader w) x y less ∙ ap (λ r. before x (merged_read (rest_of a old.left.reader z) r)) (sym (row_rest b old.right w y f)))
      (λ j g. found_fails k j (front_of old.right) (front_is (Found k) old.right (y, f, t)) g))

  later_left : (a b : ℕ) → nat_le a b ≡ false → nat_le b a ≡ true
  later_left a b h = grind (arith, nat_tests)

  pub lesser_right : (n k : ℕ) → Finds (Found n) old.left → Finds (Found k) old.right → nat_le n k ≡ false → MergeTurn m (Ok old.right.ahead) old right_gone had had hadr hadr
  lesser_right n k (x, e, s) (y, f, t) h =
      let less : nat_le (stamp x.values) (stamp y.values) ≡ false = subst (λ i. nat_le i (stamp y.values) ≡ false) s (subst (λ i. nat_le n i ≡ false) t h) in
      subst (λ o. MergeTurn m (Ok o) old right_gone had had hadr hadr) (sym f)
      (right_row y f (stays_row Left m.last m.left old.left p.left x e (stamp y.values) (later_left _ _ less))
      (λ a b z w c d. ap (λ l. merged_read l (side_rest b old.right w)) (row_rest a old.left z x e) ∙ ap (merged_read (before x (rest_of a old.left.reader z))) (row_rest b old.right w y f)
      ∙ takes_right (rest_of a old.left.reader z) (rest_of b old.right.reader w) x y less ∙ ap (λ l. before y (merged_read l (rest_of b old.right.reader w))) (sym (row_rest a old.left z x e)))
      (settled_row n y (x, e, s) (is_ahead Right m.last m.right old.right p.right y f)))

  pub lesser_taken : (n k : ℕ) (row : Option Row) (new : Merger) → Finds (Found n) old.left → Finds (Found k) old.right → TakesFront (nat_le n k) row old new → MergeTurn m (Ok row) old new had had hadr hadr
  lesser_taken n k row new f g t = by_case (nat_le n k) refl t where
    by_case : (b : Bool) → nat_le n k ≡ b → TakesFront b row old new → MergeTurn m (Ok row) old new had had hadr hadr
    by_case true e h = subst (λ x. MergeTurn m (Ok row) old x had had hadr hadr) (sym h.1) (subst (λ r. MergeTurn m (Ok r) old left_gone had had hadr hadr) (sym h.0) (lesser_left n k f g e))
    by_case false e h = subst (λ x. MergeTurn m (Ok row) old x had had hadr hadr) (sym h.1) (subst (λ r. MergeTurn m (Ok r) old right_gone had had hadr hadr) (sym h.0) (lesser_right n k f g e))

  -- one is at its end
  pub only_left : (n : ℕ) → Finds (Found n) old.left → Finds Ended old.right → MergeTurn m (Ok old.left.ahead) old left_gone had had hadr hadr
  only_left n (x, e, s) g =
      subst (λ o. MergeTurn m (Ok o) old left_gone had had hadr hadr) (sym e)
      (left_row x e (stays_ended Right m.last (Some (pos (stamp x.values))) m.right old.right p.right g)
      (λ a b z w c d. ap (merged_read (side_rest a old.left z)) (ended_rest b old.right w g d) ∙ none_right (side_rest a old.left z) ∙ row_rest a old.left z x e
      ∙ ap (before x) (sym (none_right (rest_of a old.left.reader z)) ∙ ap (merged_read (rest_of a old.left.reader z)) (sym (ended_rest b old.right w g d))))
      (λ j h. ended_fails j (front_of old.right) (front_is Ended old.right g) h))

  pub only_right : (k : ℕ) → Finds Ended old.left → Finds (Found k) old.right → MergeTurn m (Ok old.right.ahead) old right_gone had had hadr hadr
  only_right k g (y, f, t) =
      subst (λ o. MergeTurn m (Ok o) old right_gone had had hadr hadr) (sym f)
      (right_row y f (stays_ended Left m.last (Some (pos (stamp y.values))) m.left old.left p.left g)
      (λ a b z w c d. ap (λ l. merged_read l (side_rest b old.right w)) (ended_rest a old.left z g c) ∙ none_left (side_rest b old.right w) ∙ row_rest b old.right w y f
      ∙ ap (before y) (sym (none_left (rest_of b old.right.reader w)) ∙ ap (λ l. merged_read l (rest_of b old.right.reader w)) (sym (ended_rest a old.left z g c))))
      (settled_end y g (is_ahead Right m.last m.right old.right p.right y f)))

-- ---- one after another

pub given_append : (xs ys : List ℕ) (o : Option (List ℕ)) → left_before xs (left_before ys o) ≡ left_before (xs ++ ys) o
given_append xs ys None = refl
given_append xs ys (Some zs) = ap Some (sym (append_assoc xs ys zs))

module _ (a b c : Reader) (h1 h2 h3 : Option (List ℕ)) (first : Takes a b h1 h2) (next : Takes b c h2 h3) where
  -- what follows the second can follow the first
  pub followed : (partial : Bool) (z : List ℕ) → CanFollow partial c z → CanFollow partial b (next.taken ++ z)
  followed partial z follow e = ((follow (next.still e).1).0, rw ((next.still e).0) (follow (next.still e).1).1)

  -- the end is seen in the first or in the second
  pub seen_in : (e : Bool) → b.ended ≡ e → a.ended ≡ false → c.ended ≡ true → EndsEmpty h3
  seen_in true e unended ended =
      let back : h2 ≡ h3 = next.left ∙ ap (λ t. left_before t h3) (next.still e).0 ∙ sym (given_none h3) in
      subst EndsEmpty back (first.seen unended e)
  seen_in false e unended ended = next.seen e ended

  pub counts : c.place.lines ≡ a.place.lines + length (first.done ++ next.done)
  counts = omega (arith, first.count, next.count, length-append first.done next.done)

  abbrev pub takes_on : Takes a c h1 h3
  takes_on = record {
    taken = first.taken ++ next.taken;
    left = first.left ∙ ap (left_before first.taken) next.left ∙ given_append first.taken next.taken h3;
    done = first.done ++ next.done;
    count = counts;
    lines = λ z follow. ap (λ t. lines_of (a.held ++ t)) (append_assoc first.taken next.taken z) ∙ first.lines (next.taken ++ z) (followed false z follow)
        ∙ ap (λ ls. first.done ++ ls) (next.lines z follow) ∙ sym (append_assoc first.done next.done (lines_of (c.held ++ z)));
    still = λ e. (rw ((first.still e).0, (next.still (first.still e).1).0) refl, (next.still (first.still e).1).1);
    seen = λ unended ended. seen_in b.ended refl unended ended;
  }

-- a look at a side, and then a turn
module _ (m : Mark) (answer : MergeAnswer) (l : Look) (a b other : Headed) (new : Merger) (h1 h2 h3 g1 g2 : Option (List ℕ)) where
  pub on_right : Looks l Right m.last m.right a b h1 h2 → MergeTurn m answer (record { left = other; right = b }) new g1 g2 h2 h3 → MergeTurn m answer (record { left = other; right = a }) new g1 g2 h1 h3
  on_right k t = record {
    moves = record {
      left = t.moves.left;
      right = takes_on a.reader b.reader new.right.reader h1 h2 h3 k.takes t.moves.right;
      rest = λ p q z w f g.
          ap (λ y. merged_read (side_rest p other (t.moves.left.taken ++ z)) (side_rest q a y)) (append_assoc k.takes.taken t.moves.right.taken w)
          ∙ ap (merged_read (side_rest p other (t.moves.left.taken ++ z))) (k.rest q (t.moves.right.taken ++ w) (followed a.reader b.reader new.right.reader h1 h2 h3 k.takes t.moves.right q w g))
          ∙ t.moves.rest p q z w f g;
    };
    ends = t.ends;
    passed = t.passed;
    kept = t.kept;
  }

  pub on_left : Looks l Left m.last m.left a b h1 h2 → MergeTurn m answer (record { left = b; right = other }) new h2 h3 g1 g2 → MergeTurn m answer (record { left = a; right = other }) new h1 h3 g1 g2
  on_left k t = record {
    moves = record {
      left = takes_on a.reader b.reader new.left.reader h1 h2 h3 k.takes t.moves.left;
      right = t.moves.right;
      rest = λ p q z w f g.
          ap (λ y. merged_read (side_rest p a y) (side_rest q other (t.moves.right.taken ++ w))) (append_assoc k.takes.taken t.moves.left.taken z)
          ∙ ap (λ r. merged_read r (side_rest q other (t.moves.right.taken ++ w))) (k.rest p (t.moves.left.taken ++ z) (followed a.reader b.reader new.left.reader h1 h2 h3 k.takes t.moves.left p z f))
          ∙ t.moves.rest p q z w f g;
    };
    ends = t.ends;
    passed = t.passed;
    kept = t.kept;
  }

-- ---- a fault that comes first

settled_fails : (l : Look) (e : RowEnd) → settled_answer (Some l) (Some (Failed e)) ≢ None
settled_fails (Found n) e h = cc
settled_fails Ended e h = cc
settled_fails (Failed x) e h = cc

-- where the merge hasn't ended, its right side hasn't failed before
pub unfailed_yet : (f r : Option Look) → settled_answer f r ≡ None → (f ≡ None → (e : RowEnd) → r ≢ Some (Failed e)) → (e : RowEnd) → r ≢ Some (Failed e)
unfailed_yet None r h held e g = held refl e g
unfailed_yet (Some l) r h held e g = settled_fails l e (subst (λ x. settled_answer (Some l) x ≡ None) g h)

-- ---- an answer that is given again

both_hold : (o : Option MergeAnswer) (E F : Type 0) (G : MergeAnswer → Type 0) → E → F → IfSome o G → IfSome o (λ a. G a × E × F)
both_hold None E F G e f h = tt
both_hold (Some a) E F G e f h = (h, e, f)

-- what ended the merge is told by the look at the left side, and then by the right one
pub again_behind : (left right : Option Look) (look : Look) (E F : Type 0) (G : MergeAnswer → Type 0) → IfSome left (λ l. (look ≡ l) × E × F) → IfSome (settled_answer (Some look) right) G
    → IfSome (settled_answer left right) (λ a. G a × E × F)
again_behind None right look E F G h g = tt
again_behind (Some l) right look E F G h g = both_hold (settled_answer (Some l) right) E F G h.1 h.2 (subst (λ x. IfSome (settled_answer (Some x) right) G) h.0 g)
