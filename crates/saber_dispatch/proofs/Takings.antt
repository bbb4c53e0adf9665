-- Rows of one input that were taken as they were held.
use Rattle.std.proofs.Common.{◌≡◌, ◌≢◌, ◌≤◌, ◌^◌, ℕ, zero, suc, ◌+◌, ◌-◌, List, [], ◌∷◌, length, Option, Some, Result, Ok, IfSome, refl, sym, ◌∙◌, ap, subst, arith, length-append}
use Rattle.std.specs.List.{slice_get}
use Rattle.saber_plan.specs.declared.rows.Row.{Row}
use Rattle.saber_plan.specs.declared.rows.Side.TheVariants.{Left}
use Rattle.saber_plan.specs.declared.windows.Mark.{Mark}
use Rattle.saber_plan.specs.Windows.{step_mark}
use Rattle.saber_plan.specs.Trees.{Tree}
use Rattle.saber_plan.specs.GivenRows.{IsRowOf}
use Rattle.saber_rows.specs.declared.ends.RowEnd.{RowEnd}
use Rattle.saber_rows.specs.Reader as readers
use Rattle.saber_rows.specs.Calls.{HoldsNext, TakesOne, TakesRows}
use Rattle.saber_rows.specs.Heads.{Called}
use Rattle.saber_dispatch.specs.Readings.{Reading, one, Suits, Reads, ReadsOne, NextRow, IsOpen}
use Rattle.saber_dispatch.specs.Filling.{Filling, TakesOn, prepend}
use Rattle.saber_dispatch.proofs.ReadSteps.{stepped_one, left_more, right_same}
use Rattle.saber_dispatch.proofs.Fillings.{Lefts, filling_nothing, filling_more, filling_still, filling_reads, filling_on, still_suits, last_is, small}

-- a row that was held is what a call gives
called : (row : Row) (old new : readers.Reader) (left : Option (List ℕ)) → HoldsNext row old new → Called (Ok (Some row)) old new left left
called row old new left h = record {
  again = subst (λ o. IfSome o (λ a. (◌≡◌ {A = Result (Option Row) RowEnd} (Ok (Some row)) a) × (new ≡ old))) (sym h.goes) tt;
  moves = h.moves left;
  rules = h.rules;
  answer = λ _. h.answer;
  none = λ _ e. absurd cc;
  ended = λ _ e. absurd cc;
  refused = λ _ line cause e. absurd cc;
  cut = λ _ e. absurd cc;
  memory = λ _ e. absurd cc;
  fits = h.given.fits;
  ordered = h.given.ordered;
  last = h.given.last;
  rises = h.given.rises;
  stays = omega (arith, h.given.rises);
  counted = h.counted;
}

module _ (q : Tree) (m : Mark)
    (old : readers.Reader) (left : Option (List ℕ)) (had : List Row) (r : ReadsOne q m old) where
  abbrev here : Lefts
  here = left ∷ []

  -- so many came, and all are of the left stream
  record Taken (n : ℕ) (new : readers.Reader) (has : List Row) : Type 0 where
    mark : Mark
    filling : Filling n q m mark (one old) (one new) here here had has
    left_is : mark.left ≡ m.left + n
    right_is : mark.right ≡ m.right
    ended_is : mark.ended ≡ m.ended
    open_still : IsOpen (one old) → IsOpen (one new)

  none_taken : (new : readers.Reader) (has : List Row) → new ≡ old → has ≡ had → Taken 0 new has
  none_taken new has e k = record {
    mark = m;
    filling = filling_still 0 q m m (one old) (one old) (one new) here here had had has (ap one e) k (filling_nothing q m (one old) here had tt r);
    left_is = omega arith;
    right_is = refl;
    ended_is = refl;
    open_still = λ o. subst (λ x. IsOpen (one x)) (sym e) o;
  }

  module _ (n : ℕ) (mid new : readers.Reader) (there has : List Row) (t : Taken n mid there) (o : TakesOne mid new there has) where
    reads : ReadsOne q t.mark mid
    reads = filling_reads n q m t.mark (one old) (one mid) here here had there t.filling

    next : NextRow q t.mark o.row (one mid) (one new) here here
    next = stepped_one q t.mark mid new left left reads (Ok (Some o.row)) (called o.row mid new left o.holds)

    side : o.row.side ≡ Left
    side = o.holds.given.fits.own ∙ reads.passed.is_side

    longer : Filling (n + 1) q m (step_mark t.mark o.row) (one old) (one new) here here had has
    longer = filling_more n q m t.mark (one old) (one mid) (one new) here here here had there t.filling (step_mark t.mark o.row) has o.row next refl o.put

    one_more : Taken (n + 1) new has
    one_more = record {
      mark = step_mark t.mark o.row;
      filling = longer;
      left_is = omega (arith, left_more t.mark o.row side, t.left_is);
      right_is = right_same t.mark o.row side ∙ t.right_is;
      ended_is = t.ended_is;
      open_still = λ _. next.open_still;
    }

  taken : (n : ℕ) (new : readers.Reader) (has : List Row) → TakesRows n old new had has → Taken n new has
  taken zero new has t = none_taken new has t.0 t.1
  taken (suc n) new has t = subst (λ k. Taken k new has) next_is (one_more n t.0 new t.1 has (taken n t.0 t.1 t.2) t.3) where
    next_is : n + 1 ≡ suc n
    next_is = omega arith

  pub few : (n : ℕ) (new : readers.Reader) (has : List Row) → TakesRows n old new had has → (m.left + n ≤ 2 ^ 40) × (m.right ≤ 2 ^ 40)
  few n new has t =
      let k = taken n new has t in
      let s = small q k.mark (one new) (filling_reads n q m k.mark (one old) (one new) here here had has k.filling) in
      (omega (arith, k.left_is, s.0), omega (arith, k.right_is, s.1))

  -- the mark that is stepped over the last row alone, with the others counted
  pub record Marked (n : ℕ) (new : readers.Reader) (has : List Row) (before : Mark) (last : Row) : Type 0 where
    pub fits : IsRowOf q last
    pub filling : Filling n q m (step_mark before last) (one old) (one new) here here had has
    pub open_still : IsOpen (one new)

  pub marked : (n : ℕ) (new : readers.Reader) (has : List Row) (count i : ℕ) (last : Row) → TakesRows n old new had has → n ≢ 0 → count ≡ m.left + (n - 1) → i ≡ length has - 1 → Some last ≡ slice_get has i
      → Marked n new has (record { left = count; right = m.right; last = m.last; ended = m.ended }) last
  marked zero new has count i last t some e at is = absurd (some refl)
  marked (suc n) new has count i last t some e at is = record {
    fits = subst (IsRowOf q) (sym same_row) (next n t.0 new t.1 has k t.3).fits;
    filling = subst (λ x. Filling (suc n) q m x (one old) (one new) here here had has) (sym same_mark) (subst (λ j. Filling j q m (step_mark k.mark t.3.row) (one old) (one new) here here had has) next_is (longer n t.0 new t.1 has k t.3));
    open_still = (next n t.0 new t.1 has k t.3).open_still;
  } where
    k : Taken n t.0 t.1
    k = taken n t.0 t.1 t.2

    next_is : n + 1 ≡ suc n
    next_is = omega arith

    same_row : last ≡ t.3.row
    same_row = last_is t.1 has t.3.row last i t.3.put (omega (arith, at, ap length t.3.put, length-append t.1 (t.3.row ∷ []))) is

    count_is : count ≡ k.mark.left
    count_is = omega (arith, e, k.left_is)

    same_mark : step_mark (record { left = count; right = m.right; last = m.last; ended = m.ended }) last ≡ step_mark k.mark t.3.row
    same_mark = ap (step_mark (record { left = count; right = m.right; last = m.last; ended = m.ended })) same_row
        ∙ (λ i. step_mark (record { left = count_is i; right = sym k.right_is i; last = m.last; ended = sym k.ended_is i }) t.3.row)

pub takes_marked : (m : Mark) (old new : readers.Reader) (had has : List Row) (n count i : ℕ) (last : Row)
    → TakesRows n old new had has → n ≢ 0 → count ≡ m.left + (n - 1) → i ≡ length has - 1 → Some last ≡ slice_get has i
    → TakesOn n m (step_mark (record { left = count; right = m.right; last = m.last; ended = m.ended }) last) (one old) (one new) had has
takes_marked m old new had has n count i last t some e at is q (left ∷ []) s r =
    let k = marked q m old left had r n new has count i last t some e at is in
    (k.filling, λ _. k.open_still)
takes_marked m old new had has n count i last t some e at is q lefts s r = absurd s

-- none came, and nothing changed
pub takes_none : (m : Mark) (old new : Reading) (had has : List Row) → new ≡ old → has ≡ had → TakesOn 0 m m old new had has
takes_none m old new had has e k q lefts s r =
    (filling_still 0 q m m old old new lefts lefts had had has e k (filling_nothing q m old lefts had s r), λ o. subst IsOpen (sym e) o)

-- rows that were read, and then those that were taken as they were held
pub record Further (n : ℕ) (q : Tree) (m after : Mark) (old new : Reading) (had has : Lefts) (start more : List Row) : Type 0 where
  pub filling : Filling n q m after old new had has start more
  pub opened : IsOpen new
  pub suits : Suits new has
  pub reads : Reads q after new

pub further : (n k : ℕ) (q : Tree) (m mark after : Mark) (old mid new : Reading) (had there : Lefts) (start kept more : List Row)
    → Filling n q m mark old mid had there start kept → IsOpen mid → Suits mid there → TakesOn k mark after mid new kept more
    → Further (n + k) q m after old new had there start more
further n k q m mark after old mid new had there start kept more f o s t =
    let g = t q there s (filling_reads n q m mark old mid had there start kept f) in
    let both = filling_on n k q m mark after old mid new had there there start kept more f g.0 in
    record {
      filling = both;
      opened = g.1 o;
      suits = still_suits (prepend g.0.rows) mid new there there g.0.took.moves;
      reads = filling_reads (n + k) q m after old new had there start more both;
    }
