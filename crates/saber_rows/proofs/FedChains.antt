-- Turns and calls of a reader over a feed, one after another.
use Rattle.std.proofs.Common.{◌≡◌, ◌≢◌, ◌≤◌, inl, inr, ℕ, List, [], ◌∷◌, ◌++◌, true, Option, Some, None, Result, Ok, Err, IfSome, refl, sym, ◌∙◌, ap, subst, arith}
use Rattle.saber_io.specs.declared.feeds.EndMark.{EndMark}
use Rattle.saber_io.specs.Feeds.{IsCut}
use Rattle.saber_plan.specs.Outputs.{Rose}
use Rattle.saber_plan.specs.declared.rows.Row.{Row}
use Rattle.saber_plan.specs.declared.rows.Side.{Side}
use Rattle.saber_plan.specs.Rows.{Read, bad, cut, before, lines_of, read_by}
use Rattle.saber_rows.specs.declared.ends.FedRow.{FedRow}
use Rattle.saber_rows.specs.declared.ends.RowEnd.{RowEnd}
use Rattle.saber_rows.specs.declared.ends.RowEnd.TheVariants.{ReadFault, NoMemory, Bad}
use Rattle.saber_rows.specs.declared.ends.Stop.{Stop}
use Rattle.saber_rows.specs.declared.ends.Stop.TheVariants.{AllRead, Failed}
use Rattle.saber_rows.specs.declared.lines.Turn.{Turn}
use Rattle.saber_rows.specs.declared.lines.Turn.TheVariants as turns
use Rattle.saber_rows.specs.Reader.{Reader, rest_by, rest_of, rest_over, nothing, HasEnd, EndsRefused, gone_count, answer_of}
use Rattle.saber_rows.specs.Calls.{Moves, IsGiven, EndsBy, IsNext}
use Rattle.saber_rows.specs.Turns.{Steps, HeldTurn, same, IfFault}
use Rattle.saber_rows.specs.FedSteps.{StopsKnown}
use Rattle.saber_rows.specs.FedTurns.{answer_in, given_in, IsKnown, HasNothing, Waits}
use Rattle.saber_rows.specs.FedAnswers.{SeesMark, FedTurned, FedRan, FedAnswered, FedEnds, FedFaults}
use Rattle.saber_rows.proofs.ReadSteps.{true_not_false}
use Rattle.saber_rows.proofs.Chains.{chain, stands, moved, keeping, stopped_moves, stopped_ends, none_given, kept_stop, last_stop, no_row, held_turned, held_calm, faults_stay, faults_rise}
use Rattle.saber_rows.proofs.FedReads.{later_marked}
use Rattle.saber_rows.proofs.ReaderTexts.{is_next}
use Rattle.saber_rows.proofs.TakenRows.{given_since}

-- ---- one turn

-- a turn by what is held
pub held_fed : (t : Turn) (old new : Reader) (had : List ℕ) (mark : Option EndMark) → HeldTurn t old new → FedTurned t old new had had mark
held_fed t old new had mark h = record {
  turned = held_turned t old new (Some had) h;
  known = h.known;
  marked = λ f e. true_not_false new.ended (h.ended ∙ f) e;
  cut = held_calm t (IsCut had had mark) h.calm;
}

-- ---- turns that gave no row, and then one more

-- none so far
pub fed_stands : (r : Reader) (had : List ℕ) (mark : Option EndMark) → FedRan r r had had mark
fed_stands r had mark = record { moves = stands r (Some had); rules = refl; last = refl; stays = omega arith; marked = λ f e. true_not_false r.ended f e }

module _ (a b c : Reader) (h1 h2 h3 : List ℕ) (mark now : Option EndMark) (ran : FedRan a b h1 h2 mark) (stood : now ≡ mark) where
  -- the end is seen in the first or in the last
  both_marked : SeesMark b c now → SeesMark a c mark
  both_marked next f e = later_marked mark (Some EndMark.End) b.ended b.ended refl (ran.marked f) (λ u. sym stood ∙ next u e)

  -- the last gives none either
  pub ran_on : (t : Turn) → t ≡ turns.Again → FedTurned t b c h2 h3 now → FedRan a c h1 h3 mark
  ran_on t is turn =
      let k = subst (λ (x : Turn). FedTurned x b c h2 h3 now) is turn in
      record {
        moves = chain a b c (Some h1) (Some h2) (Some h3) ran.moves same k.turned.gives;
        rules = k.turned.rules ∙ ran.rules;
        last = k.turned.place.0 ∙ ran.last;
        stays = omega (arith, ran.stays, k.turned.place.1);
        marked = both_marked k.marked;
      }

  -- it gives one
  pub ran_row : (t : Turn) (row : Row) → t ≡ turns.Row row → FedTurned t b c h2 h3 now → FedAnswered (Some (Ok (Some row))) a c h1 h3 mark
  ran_row t row is turn =
      let k = subst (λ (x : Turn). FedTurned x b c h2 h3 now) is turn in
      record {
        moves = chain a b c (Some h1) (Some h2) (Some h3) ran.moves (before row) k.turned.gives;
        given = given_since row a b c ran.rules ran.last ran.stays k.turned.place;
        rules = k.turned.rules ∙ ran.rules;
        last = k.turned.place.last;
        stays = omega (arith, ran.stays, k.turned.place.rises);
        marked = both_marked k.marked;
        dry = λ e. cc;
      }

  -- it stops the reader
  pub ran_stop : (t : Turn) (s : Stop) → t ≡ turns.Stop s → FedTurned t b c h2 h3 now → FedAnswered (Some (answer_of s)) a (keeping c (answer_of s)) h1 h3 mark
  ran_stop t s is turn =
      let k = subst (λ (x : Turn). FedTurned x b c h2 h3 now) is turn in
      let gives = k.turned.gives in
      record {
        moves = stopped_moves s a b c (Some h1) (Some h2) (Some h3) ran.moves gives.0 gives.1;
        given = no_row s (λ row. IsGiven row a (keeping c (answer_of s)));
        rules = k.turned.rules ∙ ran.rules;
        last = ap (λ (r : Reader). r.last) gives.0 ∙ ran.last ∙ last_stop s a.last;
        stays = subst (λ n. gone_count a ≤ n) (ap gone_count (sym gives.0)) ran.stays;
        marked = both_marked k.marked;
        dry = λ e. cc;
      }

-- ---- other calls

-- a row at the first look
pub quick_called : (row : Row) (old new : Reader) (had : List ℕ) (mark : Option EndMark) → Steps (before row) old new → IsGiven row old new → new.rules ≡ old.rules → FedAnswered (Some (Ok (Some row))) old new had had mark
quick_called row old new had mark steps given rules = record {
  moves = moved (before row) old new (Some had) steps;
  given = given;
  rules = rules;
  last = given.last;
  stays = omega (arith, given.rises);
  marked = λ f e. true_not_false new.ended (steps.ended ∙ f) e;
  dry = λ e. cc;
}

-- a reader that stopped before
pub kept_called : (s : Stop) (r : Reader) (had : List ℕ) (mark : Option EndMark) → FedAnswered (Some (answer_of s)) r r had had mark
kept_called s r had mark = record {
  moves = none_given s r r (Some had) (Some had) (stands r (Some had));
  given = no_row s (λ row. IsGiven row r r);
  rules = refl;
  last = last_stop s r.last;
  stays = omega arith;
  marked = λ f e. true_not_false r.ended f e;
  dry = λ e. cc;
}

-- ---- why an answer came

pub ends_row : (row : Row) (r : Reader) (has : List ℕ) (mark : Option EndMark) → r.answer ≡ None → FedEnds (Some (Ok (Some row))) r has mark
ends_row row r has mark goes = record { kept = goes; ends = tt; known = tt; cut = λ e. cc }

known_keeping : (s : Stop) (r : Reader) → StopsKnown (turns.Stop s) r → IsKnown (answer_of s) (keeping r (answer_of s))
known_keeping AllRead r k = tt
known_keeping (Failed ReadFault) r k = tt
known_keeping (Failed NoMemory) r k = tt
known_keeping (Failed (Bad n c)) r k = k

cut_stop : (s : Stop) (had has : List ℕ) (mark : Option EndMark) → IfFault (turns.Stop s) (IsCut had has mark) → Some (answer_of s) ≡ Some (Err ReadFault) → (has ≡ []) × (mark ≡ Some EndMark.Cut)
cut_stop AllRead had has mark k e = cc
cut_stop (Failed ReadFault) had has mark k e = (k.0.1, k.1)
cut_stop (Failed NoMemory) had has mark k e = cc
cut_stop (Failed (Bad n c)) had has mark k e = cc

pub ends_stop : (t : Turn) (s : Stop) (old new : Reader) (had has : List ℕ) (mark now : Option EndMark) → now ≡ mark → t ≡ turns.Stop s → FedTurned t old new had has now → FedEnds (Some (answer_of s)) (keeping new (answer_of s)) has mark
ends_stop t s old new had has mark now stood is turn =
    let k = subst (λ (x : Turn). FedTurned x old new had has now) is turn in
    record {
      kept = kept_stop s;
      ends = stopped_ends s old new k.turned.gives.0 k.turned.gives.2;
      known = known_keeping s new k.known;
      cut = cut_stop s had has mark (subst (λ m. IfFault (turns.Stop s) (IsCut had has m)) stood k.cut);
    }

-- ---- the count of faults

pub fed_rose : (a : Option (Result (Option Row) RowEnd)) (was is : ℕ) → FedFaults a was is → a ≡ Some (Err ReadFault) → Rose was is
fed_rose a was is h e = (subst (λ x. FedFaults x was is) e h).0

pub fed_stay : (a : Option (Result (Option Row) RowEnd)) (was is : ℕ) → FedFaults a was is → a ≢ Some (Err ReadFault) → is ≡ was
fed_stay None was is h good = h
fed_stay (Some a) was is h good = faults_stay a was is h (λ e. good (ap Some e))

pub fed_rise : (a : Option (Result (Option Row) RowEnd)) (was is : ℕ) → FedFaults a was is → was ≤ is
fed_rise None was is h = omega (arith, h)
fed_rise (Some a) was is h = faults_rise a was is h

-- an answer in which a read failed is one over a feed too
pub fed_fault : (r : Result FedRow RowEnd) → answer_in r ≡ Some (Err ReadFault) → r ≡ Err ReadFault
fed_fault (Ok (FedRow.Row row)) e = cc
fed_fault (Ok FedRow.End) e = cc
fed_fault (Ok FedRow.NotYet) e = cc
fed_fault (Err x) e = let same : x ≡ ReadFault = cc in ap Err same

-- ---- what an answer says of the rest

pub fed_next : (a : Option (Result (Option Row) RowEnd)) (old new : Reader) (had has : List ℕ) → Moves (given_in a) old new (Some had) (Some has) → IfSome a (λ x. EndsBy x new) → IfSome a (λ x. IfSome (rest_over old (Some had)) (IsNext x))
fed_next None old new had has m ends = tt
fed_next (Some a) old new had has m ends = is_next a old new (Some had) (Some has) m ends

pub fed_refused : (a : Option (Result (Option Row) RowEnd)) (r : Result FedRow RowEnd) (side : Side) (new : Reader) → answer_in r ≡ a → new.rules.side ≡ side → IfSome a (λ x. EndsBy x new) → EndsRefused r side new
fed_refused a r side new told e ends line cause is =
    subst (λ s. HasEnd (bad s line cause) new) e (subst (λ x. IfSome x (λ y. EndsBy y new)) (sym told ∙ ap answer_in is) ends)

-- ---- where nothing is there

module _ (old new : Reader) (had has : List ℕ) (mark : Option EndMark) (h : HasNothing old had mark) where
  -- no end is seen
  unseen : {P : Type 0} → SeesMark old new mark → new.ended ≡ true → P
  unseen marked e = let both : None ≡ Some EndMark.End = sym h.unmarked ∙ marked h.unended e in cc

  -- so all that the reader has left is cut
  left_cut : (out : Read → Read) → Moves out old new (Some had) (Some has) → SeesMark old new mark → out (rest_of true new has) ≡ nothing cut
  left_cut out m marked =
      let one : Some had ≡ Some (m.taken ++ has) = m.left in
      let same : had ≡ m.taken ++ has = cc in
      sym (m.rest true has (λ e. unseen marked e)) ∙ ap (rest_of true old) (sym same) ∙ h.none

  -- and an answer is none but for want of memory
  pub fed_waits : (a : Option (Result (Option Row) RowEnd)) → FedAnswered a old new had has mark → FedEnds a new has mark → Waits a
  fed_waits None k e = inl refl
  fed_waits (Some (Err NoMemory)) k e = inr refl
  fed_waits (Some (Ok (Some row))) k e =
      let none : row ∷ (rest_of true new has).rows ≡ [] = ap (λ (x : Read). x.rows) (left_cut (before row) k.moves k.marked) in cc
  fed_waits (Some (Ok None)) k e = unseen k.marked e.ends.1
  fed_waits (Some (Err ReadFault)) k e = let both : None ≡ Some EndMark.Cut = sym h.unmarked ∙ (e.cut refl).1 in cc
  fed_waits (Some (Err (Bad n c))) k e =
      let over : new.over ≡ Some (bad new.rules.side n c) = e.known in
      let rest : rest_of true new has ≡ record { rows = new.place.accepted; end = bad new.rules.side n c } =
      ap (λ o. rest_by o new.place.accepted (read_by true new.rules (lines_of (new.held ++ has)) new.place)) over in
      let end : bad new.rules.side n c ≡ cut = ap (λ (x : Read). x.end) (sym rest ∙ left_cut same k.moves k.marked) in cc
