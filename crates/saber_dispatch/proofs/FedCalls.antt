-- A call of a reader over a feed.
use Rattle.std.proofs.Common.{◌≡◌, ◌≤◌, ◌<◌, ℕ, List, [], ◌∷◌, ◌++◌, Option, Some, None, Result, Ok, Err, IfSome, IfOk, Bool, true, false, refl, sym, ◌∙◌, ap, subst, arith}
use Rattle.saber_io.specs.declared.feeds.EndMark.{EndMark}
use Rattle.saber_io.specs.declared.feeds.EndMark.TheVariants as marks
use Rattle.saber_plan.specs.declared.rows.Row.{Row}
use Rattle.saber_plan.specs.declared.rows.RowCause.{RowCause}
use Rattle.saber_plan.specs.declared.rows.Side.{Side}
use Rattle.saber_plan.specs.declared.rows.Side.TheVariants.{Left}
use Rattle.saber_plan.specs.declared.windows.Mark.{Mark}
use Rattle.saber_plan.specs.Rows.{Read, End, RowFits, falls, all_read, bad, cut, before, lines_of, read_by}
use Rattle.saber_plan.specs.Trees.{Tree}
use Rattle.saber_rows.specs.declared.ends.RowEnd.{RowEnd}
use Rattle.saber_rows.specs.declared.ends.RowEnd.TheVariants as ends
use Rattle.saber_rows.specs.declared.ends.FedRow.{FedRow}
use Rattle.saber_rows.specs.Reader as readers
use Rattle.saber_rows.specs.Reader.{gone_count, HasEnd, NeedsMore}
use Rattle.saber_rows.specs.Calls.{Moves, IsGiven, WantsMemory}
use Rattle.saber_rows.specs.FedTurns.{answer_in, given_in, kept_in, last_in, IsKnown}
use Rattle.saber_rows.specs.Heads.{bare, Called, EndedBy, SidePassed}
use Rattle.saber_dispatch.specs.declared.ends.End.TheVariants.{ReadFault}
use Rattle.saber_dispatch.specs.declared.fed_reader.Got.TheVariants as gots
use Rattle.saber_dispatch.specs.Readings.{one, RulesOf, ReadsOne}
use Rattle.saber_dispatch.specs.FedReadings.{got_of, KnownStep, GotNext, IsSeen, IsCutOff, NothingWaits, GotTold}
use Rattle.saber_dispatch.proofs.ReadSteps.{if_some, stepped_one}

abbrev Answer : Type 0
Answer = Result (Option Row) RowEnd

-- what the clauses of a call over a feed say, by the answer that it gives if it gives one
pub record FedCalled (x : Option (Result (Option Row) RowEnd)) (old new : readers.Reader) (had has : Option (List ℕ)) : Type 0 where
  pub again : IfSome old.answer (λ a. (x ≡ Some a) × (new ≡ old))
  pub moves : Moves (given_in x) old new had has
  pub rules : new.rules ≡ old.rules
  pub answer : old.answer ≡ None → new.answer ≡ kept_in x
  pub dry : x ≡ None → NeedsMore new
  pub none : old.answer ≡ None → x ≡ Some (Ok None) → HasEnd all_read new
  pub ended : old.answer ≡ None → x ≡ Some (Ok None) → new.ended ≡ true
  pub refused : old.answer ≡ None → (line : ℕ) (cause : RowCause) → x ≡ Some (Err (ends.Bad line cause)) → HasEnd (bad old.rules.side line cause) new
  pub cut : old.answer ≡ None → x ≡ Some (Err ends.ReadFault) → NeedsMore new
  pub memory : old.answer ≡ None → x ≡ Some (Err ends.NoMemory) → WantsMemory old.rules
  pub given : IfSome x (λ a. IfOk a (λ o. IfSome o (λ row. IsGiven row old new)))
  pub last : new.last ≡ last_in old.last x
  pub stays : gone_count old ≤ gone_count new
  pub counted : gone_count new ≤ new.rules.most

-- an answer that is an error is that error
pub is_error : (result : Result FedRow RowEnd) (e : RowEnd) → answer_in result ≡ Some (Err e) → result ≡ Err e
is_error (Ok (FedRow.Row row)) e h = absurd (no h) where
  no : ◌≡◌ {A = Option Answer} (Some (Ok (Some row))) (Some (Err e)) → ⊥
  no i = cc
is_error (Ok FedRow.End) e h = absurd (no h) where
  no : ◌≡◌ {A = Option Answer} (Some (Ok None)) (Some (Err e)) → ⊥
  no i = cc
is_error (Ok FedRow.NotYet) e h = absurd (no h) where
  no : ◌≡◌ {A = Option Answer} None (Some (Err e)) → ⊥
  no i = cc
is_error (Err x) e h = ap (λ y. Err y) (same h) where
  same : ◌≡◌ {A = Option Answer} (Some (Err x)) (Some (Err e)) → x ≡ e
  same i = cc

inner : (a b : Answer) → ◌≡◌ {A = Option Answer} (Some a) (Some b) → a ≡ b
inner a b h = cc

module _ (old new : readers.Reader) (had has : Option (List ℕ)) where
  row_fits : (a : Answer) → IfOk a (λ o. IfSome o (λ row. IsGiven row old new)) → IfOk a (λ o. IfSome o (RowFits old.rules.side old.rules.columns))
  row_fits (Ok (Some row)) h = h.fits
  row_fits (Ok None) h = tt
  row_fits (Err e) h = tt

  row_ordered : (a : Answer) → IfOk a (λ o. IfSome o (λ row. IsGiven row old new)) → IfOk a (λ o. IfSome o (λ row. falls old.last row.values ≡ false))
  row_ordered (Ok (Some row)) h = h.ordered
  row_ordered (Ok None) h = tt
  row_ordered (Err e) h = tt

  row_rises : (a : Answer) → IfOk a (λ o. IfSome o (λ row. IsGiven row old new)) → IfOk a (λ o. IfSome o (λ row. gone_count old < gone_count new))
  row_rises (Ok (Some row)) h = h.rises
  row_rises (Ok None) h = tt
  row_rises (Err e) h = tt

  -- it is a call that answers so
  called : (a : Answer) → FedCalled (Some a) old new had has → Called a old new had has
  called a c = record {
    again = if_some _ _ old.answer c.again (λ b h. (inner a b h.0, h.1));
    moves = c.moves;
    rules = c.rules;
    answer = c.answer;
    none = λ o e. c.none o (ap (λ x. Some x) e);
    ended = λ o e. c.ended o (ap (λ x. Some x) e);
    refused = λ o line cause e. c.refused o line cause (ap (λ x. Some x) e);
    cut = λ o e. c.cut o (ap (λ x. Some x) e);
    memory = λ o e. c.memory o (ap (λ x. Some x) e);
    fits = row_fits a c.given;
    ordered = row_ordered a c.given;
    last = c.last;
    rises = row_rises a c.given;
    stays = c.stays;
    counted = c.counted;
  }

  -- a reader that finds nothing has not ended
  was_open : (o : Option Answer) → old.answer ≡ o → FedCalled None old new had has → old.answer ≡ None
  was_open None e c = e
  was_open (Some a) e c = absurd (no (subst (λ x. IfSome x (λ y. (◌≡◌ {A = Option Answer} None (Some y)) × (new ≡ old))) e c.again).0) where
    no : ◌≡◌ {A = Option Answer} None (Some a) → ⊥
    no i = cc

  module _ (q : Tree) (m : Mark) (r : ReadsOne q m old) where
    still_passed : FedCalled None old new had has → SidePassed Left m.last m.left (bare new)
    still_passed c =
        let p = r.passed in
        let o = was_open old.answer refl c in
        record {
          is_side = ap (λ s. s.side) c.rules ∙ p.is_side;
          front = tt;
          sure = subst (λ x. IfSome x (λ a. EndedBy a new)) (sym (c.answer o)) tt;
          order = λ n zs f. p.order o zs (subst (λ l. falls l zs ≡ false) c.last f);
          counted = omega (arith, p.counted, c.stays);
          few = c.counted;
        }

    pub stepped_fed : (result : Result FedRow RowEnd) → FedCalled (answer_in result) old new had has → GotNext q m (got_of result) (one old) (one new) (had ∷ []) (has ∷ [])
    stepped_fed (Ok (FedRow.Row row)) c = stepped_one q m old new had has r (Ok (Some row)) (called (Ok (Some row)) c)
    stepped_fed (Ok FedRow.End) c = stepped_one q m old new had has r (Ok None) (called (Ok None) c)
    stepped_fed (Ok FedRow.NotYet) c = record {
      moves = c.moves;
      reads = record { passed = still_passed c; no_right = r.no_right; goes_on = r.goes_on; rules = subst (RulesOf q Left) (sym c.rules) r.rules };
      needs = c.dry refl;
      open_still = c.answer (was_open old.answer refl c);
    }
    stepped_fed (Err e) c = stepped_one q m old new had has r (Err e) (called (Err e) c)

-- ---- the mark

pub seen_on : (old new : readers.Reader) (mark : Option EndMark) → (old.ended ≡ false → new.ended ≡ true → mark ≡ Some marks.End) → IsSeen (one old) mark → IsSeen (one new) mark
seen_on old new mark now before h = by_case old.ended refl where
  by_case : (b : Bool) → old.ended ≡ b → mark ≡ Some marks.End
  by_case true e = before e
  by_case false e = now e h

-- what an answer tells
pub told_by : (result : Result FedRow RowEnd) (new : readers.Reader) (w : List ℕ) (mark : Option EndMark) → IsSeen (one new) mark → (answer_in result ≡ None → NothingWaits w mark)
    → (answer_in result ≡ Some (Ok None) → new.ended ≡ true) → (result ≡ Err ends.ReadFault → IsCutOff w mark) → GotTold (got_of result) w mark
told_by (Ok (FedRow.Row row)) new w mark seen dry ended off = tt
told_by (Ok FedRow.End) new w mark seen dry ended off = seen (ended refl)
told_by (Ok FedRow.NotYet) new w mark seen dry ended off = dry refl
told_by (Err ends.ReadFault) new w mark seen dry ended off = off refl
told_by (Err ends.NoMemory) new w mark seen dry ended off = tt
told_by (Err (ends.Bad n c)) new w mark seen dry ended off = tt

-- a fault is the reader's
pub fault_is : (result : Result FedRow RowEnd) (side : Side) → got_of result ≡ gots.Ended (ReadFault side) → result ≡ Err ends.ReadFault
fault_is (Ok (FedRow.Row row)) side e = cc
fault_is (Ok FedRow.End) side e = cc
fault_is (Ok FedRow.NotYet) side e = cc
fault_is (Err ends.ReadFault) side e = refl
fault_is (Err ends.NoMemory) side e = cc
fault_is (Err (ends.Bad n c)) side e = cc

-- ---- what the whole lines that wait still give

same_bytes : (a b : List ℕ) → ◌≡◌ {A = Option (List ℕ)} (Some a) (Some b) → a ≡ b
same_bytes a b e = cc

over_end : (r : readers.Reader) (z : List ℕ) (e : End) → r.over ≡ Some e → (readers.rest_of true r z).end ≡ e
over_end r z e h = ap (λ o. (readers.rest_by o r.place.accepted (read_by true r.rules (lines_of (r.held ++ z)) r.place)).end) h

module _ (old new : readers.Reader) (w w' : List ℕ) (mark : Option EndMark) (seen : IsSeen (one new) mark) (unmarked : mark ≡ None) where
  still_open : new.ended ≡ true → ⊥
  still_open e = let h : None ≡ Some marks.End = sym unmarked ∙ seen e in cc

  left_of : (out : Read → Read) → Moves out old new (Some w) (Some w') → readers.rest_of true old w ≡ out (readers.rest_of true new w')
  left_of out m = ap (readers.rest_of true old) (same_bytes w (m.taken ++ w') m.left) ∙ m.rest true w' (λ e. absurd (still_open e))

  pub known_step : (result : Result FedRow RowEnd) → Moves (given_in (answer_in result)) old new (Some w) (Some w') → (answer_in result ≡ Some (Ok None) → new.ended ≡ true)
      → IfSome (answer_in result) (λ a. IsKnown a new) → (result ≡ Err ends.ReadFault → mark ≡ Some marks.Cut) → KnownStep (got_of result) (readers.rest_of true old w) (readers.rest_of true new w')
  known_step (Ok (FedRow.Row row)) m ended known off = left_of (before row) m
  known_step (Ok FedRow.NotYet) m ended known off = left_of (λ x. x) m
  known_step (Ok FedRow.End) m ended known off = λ h. absurd (still_open (ended refl))
  known_step (Err ends.ReadFault) m ended known off = λ h. let f : None ≡ Some marks.Cut = sym unmarked ∙ off refl in cc
  known_step (Err ends.NoMemory) m ended known off = λ h. refl
  known_step (Err (ends.Bad n c)) m ended known off = λ h.
      let f : bad new.rules.side n c ≡ cut = sym (over_end new w' (bad new.rules.side n c) known) ∙ sym (ap (λ (x : Read). x.end) (left_of (λ x. x) m)) ∙ h in cc
