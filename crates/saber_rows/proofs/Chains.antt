-- Turns of a reader, one after another.
use Rattle.std.proofs.Common.{◌≡◌, ◌≢◌, ◌≤◌, ◌<◌, ◌⊎◌, inl, inr, ℕ, List, [], ◌++◌, length, Bool, true, false, Option, Some, None, MatchOption, Result, Ok, Err, IfOk, IfSome, refl, sym, ◌∙◌, ap, subst, append_assoc, arith, length-append}
use Rattle.saber_io.specs.Outside.{left_before, EndsEmpty}
use Rattle.saber_plan.specs.Rows.{Read, End, before, due, lines_of, read_by}
use Rattle.saber_plan.specs.Outputs.{Rose}
use Rattle.saber_plan.specs.declared.rows.Row.{Row}
use Rattle.saber_rows.specs.declared.lines.Turn.{Turn}
use Rattle.saber_rows.specs.declared.lines.Turn.TheVariants as turns
use Rattle.saber_rows.specs.declared.ends.RowEnd.{RowEnd}
use Rattle.saber_rows.specs.declared.ends.RowEnd.TheVariants.{ReadFault, NoMemory, Bad}
use Rattle.saber_rows.specs.declared.ends.Stop.{Stop}
use Rattle.saber_rows.specs.declared.ends.Stop.TheVariants.{AllRead, Failed}
use Rattle.saber_rows.specs.declared.ends.Behind.{Behind}
use Rattle.saber_rows.specs.declared.ends.Behind.TheVariants as behinds
use Rattle.saber_rows.specs.Reader.{Reader, rest_by, rest_of, nothing, CanFollow, NeedsMore, answer_of, stop_behind, end_behind, gone_count}
use Rattle.saber_rows.specs.Calls.{Moves, EndsBy, given_by, kept_by, last_after, LastRead, ReadsNoMore, AnswerFaults}
use Rattle.saber_rows.specs.FedSteps.{StopsKnown}
use Rattle.saber_rows.specs.Laws.{MovesGoOn, ReadersStand}
use Rattle.saber_rows.specs.Turns.{Steps, LineGives, TurnGives, NoneReady, same, HeldTurn, Turned, Asked, TurnFaults, IsDrained, HasEnough, IfAgain, IfFault, PlaceMoves, work_left}
use Rattle.saber_rows.proofs.ReadSteps.{given_none, needs_more, true_not_false}

-- ---- a turn without the source

-- a step without the source is a move that takes nothing
pub moved : (out : Read → Read) (old new : Reader) (had : Option (List ℕ)) → Steps out old new → Moves out old new had had
moved out old new had steps = record {
  taken = [];
  left = given_none had;
  done = steps.done;
  count = steps.count;
  lines = λ z follow. steps.lines z follow;
  rest = λ partial z follow. steps.rest partial z follow;
  still = λ e. (refl, steps.ended ∙ e);
  seen = λ unended e. cc;
}

-- a turn without the source is a turn
pub line_turn : (t : Turn) (old new : Reader) (had : Option (List ℕ)) → LineGives t old new → TurnGives t old new had had
line_turn (turns.Row r) old new had g = moved (before r) old new had g
line_turn turns.Again old new had g = moved same old new had g
line_turn (turns.Stop AllRead) old new had g = (g.0, refl, g.1)
line_turn (turns.Stop (Failed ReadFault)) old new had g = absurd g.1
line_turn (turns.Stop (Failed NoMemory)) old new had g = (g.0, refl, g.1)
line_turn (turns.Stop (Failed (Bad n c))) old new had g = absurd g.1

line_calm : (t : Turn) (old new : Reader) → LineGives t old new → IfFault t ⊥
line_calm (turns.Row r) old new g = tt
line_calm turns.Again old new g = tt
line_calm (turns.Stop AllRead) old new g = tt
line_calm (turns.Stop (Failed ReadFault)) old new g = g.1
line_calm (turns.Stop (Failed NoMemory)) old new g = tt
line_calm (turns.Stop (Failed (Bad n c))) old new g = tt

line_known : (t : Turn) (old new : Reader) → LineGives t old new → StopsKnown t new
line_known (turns.Row r) old new g = tt
line_known turns.Again old new g = tt
line_known (turns.Stop AllRead) old new g = tt
line_known (turns.Stop (Failed ReadFault)) old new g = tt
line_known (turns.Stop (Failed NoMemory)) old new g = tt
line_known (turns.Stop (Failed (Bad n c))) old new g = absurd g.1

line_ended : (t : Turn) (old new : Reader) → LineGives t old new → new.ended ≡ old.ended
line_ended (turns.Row r) old new g = g.ended
line_ended turns.Again old new g = g.ended
line_ended (turns.Stop s) old new g = ap (λ r. r.ended) g.0

-- what decides an answer still does behind a line that gave none
line_enough : (t : Turn) (old new : Reader) → LineGives t old new → HasEnough old → IfAgain t (HasEnough new)
line_enough (turns.Row r) old new g h = tt
line_enough turns.Again old new g h = λ needs. h (record {
  unended = sym g.ended ∙ needs.unended;
  none = g.rest true [] (λ e. true_not_false new.ended needs.unended e) ∙ needs.none;
})
line_enough (turns.Stop s) old new g h = tt

-- a turn that takes a line is one by what is held
pub held_line : (t : Turn) (old new : Reader) → LineGives t old new → IfAgain t (work_left new < work_left old) → PlaceMoves t old new → new.rules ≡ old.rules → HeldTurn t old new
held_line t old new g falls place rules = record {
  gives = λ had. line_turn t old new had g;
  falls = falls;
  place = place;
  rules = rules;
  ended = line_ended t old new g;
  known = line_known t old new g;
  calm = line_calm t old new g;
  enough = line_enough t old new g;
}

-- and so is one that gives a row that waits
pub held_row : (row : Row) (old new : Reader) → Steps (before row) old new → PlaceMoves (turns.Row row) old new → new.rules ≡ old.rules → HeldTurn (turns.Row row) old new
held_row row old new steps place rules = held_line (turns.Row row) old new steps tt place rules

-- ---- the end that is known

ended_rest : (r : Reader) (end : End) → r.over ≡ Some end → r.place.accepted ≡ [] → (z : List ℕ) → rest_of false r z ≡ nothing end
ended_rest r end e none z = ap (λ o. rest_by o r.place.accepted (read_by false r.rules (lines_of (r.held ++ z)) r.place)) e ∙ ap (λ xs. record { rows = xs; end = end }) none

over_ends : (r : Reader) (o : Behind) → r.over ≡ Some (end_behind r.rules.side o) → r.place.accepted ≡ [] → (o ≡ behinds.AllRead → r.ended ≡ true) → EndsBy (answer_of (stop_behind o)) r
over_ends r behinds.AllRead e none seen = (λ z follow. ended_rest r _ e none z, seen refl)
over_ends r (behinds.Refused n c) e none seen = λ z follow. ended_rest r _ e none z

over_known : (r : Reader) (o : Behind) → r.over ≡ Some (end_behind r.rules.side o) → StopsKnown (turns.Stop (stop_behind o)) r
over_known r behinds.AllRead e = tt
over_known r (behinds.Refused n c) e = e

over_calm : (o : Behind) → IfFault (turns.Stop (stop_behind o)) ⊥
over_calm behinds.AllRead = tt
over_calm (behinds.Refused n c) = tt

none_behind : (o : Option End) (P : Type 0) (Q : End → Type 0) (end : End) → MatchOption o P Q → o ≡ Some end → Q end
none_behind o P Q end h e = subst (λ x. MatchOption x P Q) e h

-- a reader that knows its end and holds no row stops
pub held_end : (r : Reader) (o : Behind) → NoneReady r → r.over ≡ Some (end_behind r.rules.side o) → (o ≡ behinds.AllRead → r.ended ≡ true) → HeldTurn (turns.Stop (stop_behind o)) r r
held_end r o ready e seen = record {
  gives = λ had. (refl, refl, over_ends r o e (none_behind r.over (due r.rules r.place ≡ []) (λ end. r.place.accepted ≡ []) (end_behind r.rules.side o) ready e) seen);
  falls = tt;
  place = tt;
  rules = refl;
  ended = refl;
  known = over_known r o e;
  calm = over_calm o;
  enough = λ h. tt;
}

-- ---- turns with the source

pub drained_needs : (r : Reader) → IsDrained r → NeedsMore r
drained_needs r d = needs_more r d.unended d.over d.none d.few d.feed

-- a read of a reader that needs it
pub wanted_read : (r : Reader) (had has : Option (List ℕ)) (bytes : List ℕ) → NeedsMore r → had ≡ left_before bytes has → length bytes ≤ 4096 → LastRead r had has
wanted_read r had has bytes needs left few = record { before = []; last = bytes; left = left; few = few; unended = needs.unended; none = needs.none }

pub held_turned : (t : Turn) (old new : Reader) (had : Option (List ℕ)) → HeldTurn t old new → Turned t old new had had
held_turned t old new had h = record { gives = h.gives had; falls = h.falls; place = h.place; rules = h.rules }

pub held_asked : {A : Type 0} (left : A → Option (List ℕ)) (t : Turn) (was : A) (old new : Reader) → HeldTurn t old new → Asked left t was was old new
held_asked left t was old new h = record { once = inl refl; enough = λ e. (refl, h.enough e) }

pub held_faults : (t : Turn) (old new : Reader) (n : ℕ) → HeldTurn t old new → TurnFaults t n n
held_faults t old new n h = by_calm t h.calm where
  by_calm : (t : Turn) → IfFault t ⊥ → TurnFaults t n n
  by_calm (turns.Row r) c = refl
  by_calm turns.Again c = refl
  by_calm (turns.Stop AllRead) c = refl
  by_calm (turns.Stop (Failed ReadFault)) c = absurd c
  by_calm (turns.Stop (Failed NoMemory)) c = refl
  by_calm (turns.Stop (Failed (Bad n c'))) c = refl

-- no read failed
pub held_calm : (t : Turn) (P : Type 0) → IfFault t ⊥ → IfFault t P
held_calm (turns.Row r) P c = tt
held_calm turns.Again P c = tt
held_calm (turns.Stop AllRead) P c = tt
held_calm (turns.Stop (Failed ReadFault)) P c = absurd c
held_calm (turns.Stop (Failed NoMemory)) P c = tt
held_calm (turns.Stop (Failed (Bad n c'))) P c = tt

pub read_asked : {A : Type 0} (left : A → Option (List ℕ)) (t : Turn) (was is : A) (old new : Reader) → NeedsMore old → LastRead old (left was) (left is) → Asked left t was is old new
read_asked left t was is old new needs last = record { once = inr last; enough = λ h. absurd (h needs) }

-- ---- two moves are one

given_append : (xs ys : List ℕ) (o : Option (List ℕ)) → left_before xs (left_before ys o) ≡ left_before (xs ++ ys) o
given_append xs ys None = refl
given_append xs ys (Some zs) = ap Some (sym (append_assoc xs ys zs))

module _ {f : Read → Read} (a b c : Reader) (h1 h2 h3 : Option (List ℕ)) (first : Moves f a b h1 h2) where
  -- what follows the second can follow the first
  followed : (partial : Bool) (taken z : List ℕ) → (b.ended ≡ true → (taken ≡ []) × (c.ended ≡ true)) → CanFollow partial c z → CanFollow partial b (taken ++ z)
  followed partial taken z still follow e = ((follow (still e).1).0, rw ((still e).0) (follow (still e).1).1)

  -- the end is seen in the first or in the second
  seen_in : (out : Read → Read) → Moves out b c h2 h3 → (e : Bool) → b.ended ≡ e → a.ended ≡ false → c.ended ≡ true → EndsEmpty h3
  seen_in out next true e unended ended =
      let back : h2 ≡ h3 = next.left ∙ ap (λ t. left_before t h3) (next.still e).0 ∙ sym (given_none h3) in
      subst EndsEmpty back (first.seen unended e)
  seen_in out next false e unended ended = next.seen e ended

  pub chain : (out : Read → Read) → Moves out b c h2 h3 → Moves (λ read. f (out read)) a c h1 h3
  chain out next = record {
    taken = first.taken ++ next.taken;
    left = first.left ∙ ap (left_before first.taken) next.left ∙ given_append first.taken next.taken h3;
    done = first.done ++ next.done;
    count = omega (arith, first.count, next.count, length-append first.done next.done);
    lines = λ z follow. ap (λ t. lines_of (a.held ++ t)) (append_assoc first.taken next.taken z) ∙ first.lines (next.taken ++ z) (followed false next.taken z next.still follow)
        ∙ ap (λ ls. first.done ++ ls) (next.lines z follow) ∙ sym (append_assoc first.done next.done (lines_of (c.held ++ z)));
    rest = λ partial z follow. ap (rest_of partial a) (append_assoc first.taken next.taken z) ∙ first.rest partial (next.taken ++ z) (followed partial next.taken z next.still follow) ∙ ap f (next.rest partial z follow);
    still = λ e. (rw ((first.still e).0, (next.still (first.still e).1).0) refl, (next.still (first.still e).1).1);
    seen = λ unended ended. seen_in out next b.ended refl unended ended;
  }

-- no more is read in two moves than in each
module _ {A : Type 0} (left : A → Option (List ℕ)) (a b : Reader) (s0 s1 s2 : A) (first : Moves same a b (left s0) (left s1)) where
  not_ended : (e : Bool) → a.ended ≡ e → b.ended ≡ false → a.ended ≡ false
  not_ended true e unended = true_not_false b.ended unended (first.still e).1
  not_ended false e unended = e

  pub reads_no_more : ReadsNoMore left s0 s1 a → ReadsNoMore left s1 s2 b → ReadsNoMore left s0 s2 a
  reads_no_more before (inl e) = subst (λ s. ReadsNoMore left s0 s a) (sym e) before
  reads_no_more before (inr l) = inr (record {
    before = first.taken ++ l.before;
    last = l.last;
    left = first.left ∙ ap (left_before first.taken) l.left ∙ given_append first.taken (l.before ++ l.last) (left s2) ∙ ap (λ t. left_before t (left s2)) (sym (append_assoc first.taken l.before l.last));
    few = l.few;
    unended = not_ended a.ended refl l.unended;
    none = first.rest true l.before (λ e. true_not_false b.ended l.unended e) ∙ l.none;
  })

-- ---- a reader that stops

-- a reader that keeps an answer
abbrev pub keeping : Reader → Result (Option Row) RowEnd → Reader
keeping r answer = record { rules = r.rules; place = r.place; last = r.last; held = r.held; ended = r.ended; over = r.over; answer = Some answer }

kept_same : (a b : Reader) (answer : Result (Option Row) RowEnd) (h1 h2 : Option (List ℕ)) → Moves same a b h1 h2 → Moves same a (keeping b answer) h1 h2
kept_same a b answer h1 h2 m = record { taken = m.taken; left = m.left; done = m.done; count = m.count; lines = m.lines; rest = m.rest; still = m.still; seen = m.seen }

-- an answer that ends a reader gives no row
pub none_given : (s : Stop) (a b : Reader) (h1 h2 : Option (List ℕ)) → Moves same a b h1 h2 → Moves (given_by (answer_of s)) a b h1 h2
none_given AllRead a b h1 h2 m = m
none_given (Failed e) a b h1 h2 m = m

pub stopped_moves : (s : Stop) (a b new : Reader) (h1 h2 h3 : Option (List ℕ)) → Moves same a b h1 h2 → new ≡ b → h3 ≡ h2 → Moves (given_by (answer_of s)) a (keeping new (answer_of s)) h1 h3
stopped_moves s a b new h1 h2 h3 m e eh =
    none_given s a (keeping new (answer_of s)) h1 h3 (kept_same a new (answer_of s) h1 h3 (subst (λ r. Moves same a r h1 h3) (sym e) (subst (λ h. Moves same a b h1 h) (sym eh) m)))

ends_keeping : (s : Stop) (r : Reader) → EndsBy (answer_of s) r → EndsBy (answer_of s) (keeping r (answer_of s))
ends_keeping AllRead r h = h
ends_keeping (Failed ReadFault) r h = record { unended = h.unended; none = h.none }
ends_keeping (Failed NoMemory) r h = h
ends_keeping (Failed (Bad n c)) r h = h

pub stopped_ends : (s : Stop) (b new : Reader) → new ≡ b → EndsBy (answer_of s) b → EndsBy (answer_of s) (keeping new (answer_of s))
stopped_ends s b new e h = ends_keeping s new (subst (EndsBy (answer_of s)) (sym e) h)

-- it is kept
pub kept_stop : (s : Stop) → Some (answer_of s) ≡ kept_by (answer_of s)
kept_stop AllRead = refl
kept_stop (Failed e) = refl

-- and leaves the last timestamp
pub last_stop : (s : Stop) (last : Option ℕ) → last ≡ last_after last (answer_of s)
last_stop AllRead last = refl
last_stop (Failed e) last = refl

-- and is no row
pub no_row : (s : Stop) (P : Row → Type 0) → IfOk (answer_of s) (λ o. IfSome o P)
no_row AllRead P = tt
no_row (Failed e) P = tt

-- ---- the count of faults

pub fault_rose : (a : Result (Option Row) RowEnd) (was is : ℕ) → AnswerFaults a was is → a ≡ Err ReadFault → Rose was is
fault_rose a was is h e = (subst (λ x. AnswerFaults x was is) e h).0

pub faults_stay : (a : Result (Option Row) RowEnd) (was is : ℕ) → AnswerFaults a was is → a ≢ Err ReadFault → is ≡ was
faults_stay (Ok o) was is h good = h
faults_stay (Err ReadFault) was is h good = absurd (good refl)
faults_stay (Err NoMemory) was is h good = h
faults_stay (Err (Bad n c)) was is h good = h

pub faults_rise : (a : Result (Option Row) RowEnd) (was is : ℕ) → AnswerFaults a was is → was ≤ is
faults_rise (Ok o) was is h = omega (arith, h)
faults_rise (Err ReadFault) was is h = h.1
faults_rise (Err NoMemory) was is h = omega (arith, h)
faults_rise (Err (Bad n c)) was is h = omega (arith, h)

-- a reader that does nothing
pub stands : (r : Reader) (had : Option (List ℕ)) → Moves same r r had had
stands r had = record {
  taken = [];
  left = given_none had;
  done = [];
  count = omega arith;
  lines = λ z follow. refl;
  rest = λ partial z follow. refl;
  still = λ e. (refl, e);
  seen = λ unended e. cc;
}

-- ---- the laws of moves

pub moves_go_on : MovesGoOn
moves_go_on f g a b c h1 h2 h3 first next = chain a b c h1 h2 h3 first g next

pub readers_stand : ReadersStand
readers_stand r had = stands r had

-- ---- a reader that can give no row

none_by : (o : Option End) (P : Type 0) (Q : End → Type 0) → MatchOption o P Q → o ≡ None → P
none_by None P Q h e = h
none_by (Some end) P Q h e = cc

pub not_ready : (r : Reader) → NoneReady r → r.over ≡ None → due r.rules r.place ≡ []
not_ready r h e = none_by r.over (due r.rules r.place ≡ []) (λ end. r.place.accepted ≡ []) h e
