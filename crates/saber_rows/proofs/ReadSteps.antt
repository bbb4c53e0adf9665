-- A reader reads, or doesn't.
use Rattle.std.proofs.Common.{◌≡◌, ℕ, List, [], ◌∷◌, ◌++◌, ◌≤◌, length, Bool, true, false, not, cond, Option, Some, None, refl, sym, ◌∙◌, ap, append_assoc, arith}
use Rattle.std.proofs.lemmas.List.{append-nil}
use Rattle.saber_io.specs.Outside.{left_before, EndsEmpty}
use Rattle.saber_plan.specs.Rows.{SideRules, Place, lines_of, onto_line, read_by, cut, due, no_more, after_line, judge_at, without_cr}
use Rattle.saber_rows.specs.Buffer.{Gains}
use Rattle.saber_rows.specs.LineFeeds.{onto_lines, HasNoFeed}
use Rattle.saber_rows.specs.Reader.{Reader, rest_by, rest_of, NeedsMore}
use Rattle.saber_rows.specs.Calls.{Moves}
use Rattle.saber_rows.specs.Turns.{same, HasEnough}
use Rattle.saber_rows.proofs.HeldRows.{is_not_above}

-- a source gave nothing
pub given_none : (o : Option (List ℕ)) → o ≡ left_before [] o
given_none None = refl
given_none (Some bytes) = refl

pub true_not_false : {P : Type 0} (b : Bool) → b ≡ false → b ≡ true → P
true_not_false b f t = cc

-- bytes with nothing behind them are a line that is not whole
pub onto_none : (b : ℕ) (bs : List ℕ) → onto_lines (b ∷ bs) [] ≡ record { content = b ∷ bs; whole = false } ∷ []
onto_none b [] = refl
onto_none b (c ∷ cs) = ap (onto_line b) (onto_none c cs)

-- where the last line is not known only rows that are due come
unfinished : (held : List ℕ) (s : SideRules) (p : Place) → length held ≤ 4097 → read_by true s (onto_lines held []) p ≡ record { rows = due s p; end = cut }
unfolding read_by
unfinished [] s p few = refl
unfinished (b ∷ bs) s p few =
    ap (λ ls. read_by true s ls p) (onto_none b bs)
    ∙ ap (λ c. cond (not c) (no_more true s p) (after_line s p (judge_at s p (without_cr (b ∷ bs))) (read_by true s []))) (is_not_above 4097 (length (b ∷ bs)) few)

-- what a reader has left that knows no end
pub rest_unknown : (r : Reader) → r.over ≡ None → (partial : Bool) (z : List ℕ) → rest_of partial r z ≡ read_by partial r.rules (lines_of (r.held ++ z)) r.place
rest_unknown r over partial z = ap (λ o. rest_by o r.place.accepted (read_by partial r.rules (lines_of (r.held ++ z)) r.place)) over

-- a reader that holds no line feed and no row that is due needs more
pub needs_more : (r : Reader) → r.ended ≡ false → r.over ≡ None → due r.rules r.place ≡ [] → length r.held ≤ 4097 → HasNoFeed r.held → NeedsMore r
unfolding lines_of
needs_more r unended over none few feed = record {
  unended = unended;
  none = rest_unknown r over true [] ∙ ap (λ ls. read_by true r.rules ls r.place) (feed []) ∙ unfinished r.held r.rules r.place few ∙ ap (λ xs. record { rows = xs; end = cut }) none;
}

-- so one that has enough holds either
pub not_enough : {P : Type 0} (r : Reader) → r.ended ≡ false → r.over ≡ None → due r.rules r.place ≡ [] → length r.held ≤ 4097 → HasNoFeed r.held → HasEnough r → P
not_enough r unended over none few feed h = absurd (h (needs_more r unended over none few feed))

-- the same reader with other bytes, that saw the end or did not
abbrev pub with_held : Reader → List ℕ → Bool → Reader
with_held r held ended = record { rules = r.rules; place = r.place; last = r.last; held = held; ended = ended; over = r.over; answer = r.answer }

-- bytes came behind those that are held
pub came : (r : Reader) (held : List ℕ) (had has : Option (List ℕ)) (n : ℕ) → r.ended ≡ false → Gains n r.held held had has → Moves same r (with_held r held r.ended) had has
came r held had has n unended g = record {
  taken = g.taken;
  left = g.left;
  done = [];
  count = omega arith;
  lines = λ z follow. ap lines_of (behind z);
  rest = λ partial z follow. ap (λ bytes. rest_by r.over r.place.accepted (read_by partial r.rules (lines_of bytes) r.place)) (behind z);
  still = λ ended. true_not_false r.ended unended ended;
  seen = λ _ ended. true_not_false r.ended unended ended;
} where
  behind : (z : List ℕ) → r.held ++ (g.taken ++ z) ≡ held ++ z
  behind z = sym (append_assoc r.held g.taken z) ∙ ap (λ h. h ++ z) (sym g.behind)

none_taken : (xs : List ℕ) → length xs ≡ 0 → xs ≡ []
none_taken [] e = refl
none_taken (x ∷ xs) e = absurd (omega arith)

empty_left : (had has : Option (List ℕ)) → had ≡ left_before [] has → EndsEmpty had → EndsEmpty has
empty_left had None e h = tt
empty_left None (Some z) e h = cc
empty_left (Some y) (Some z) e h = let same : Some y ≡ Some z = e in let yz : y ≡ z = cc in sym yz ∙ h

-- no byte came, so the source is at its end
pub saw_end : (r : Reader) (held : List ℕ) (had has : Option (List ℕ)) (n : ℕ) → n ≡ 0 → r.ended ≡ false → Gains n r.held held had has → EndsEmpty had → Moves same r (with_held r held true) had has
saw_end r held had has n zero unended g empty = record {
  taken = [];
  left = left;
  done = [];
  count = omega arith;
  lines = λ z follow. ap (λ h. lines_of (h ++ z)) (sym kept);
  rest = λ partial z follow. ap (λ h. rest_by r.over r.place.accepted (read_by partial r.rules (lines_of (h ++ z)) r.place)) (sym kept);
  still = λ ended. true_not_false r.ended unended ended;
  seen = λ _ _. empty_left had has left empty;
} where
  left : had ≡ left_before [] has
  left = g.left ∙ ap (λ t. left_before t has) (none_taken g.taken (g.count ∙ zero))

  kept : held ≡ r.held
  kept = g.behind ∙ ap (λ t. r.held ++ t) (none_taken g.taken (g.count ∙ zero)) ∙ append-nil r.held
