-- A reader takes a line, or gives a row.
use Rattle.std.proofs.Common.{◌≡◌, ℕ, ◌+◌, ◌-◌, ◌*◌, ◌≤◌, ◌<◌, List, [], ◌∷◌, ◌++◌, drop, take, length, Bool, true, false, not, ◌&&◌, ◌||◌, cond, nat_lt, nat_le, Option, Some, None, ℤ, refl, sym, ◌∙◌, ap, arith}
use Rattle.std.proofs.lemmas.Bool.Decides.{nat_tests}
use Rattle.saber_plan.specs.declared.rows.Row.{Row}
use Rattle.saber_plan.specs.declared.rows.RowCause.{RowCause}
use Rattle.saber_plan.specs.declared.rows.RowCause.TheVariants.{TimeOrder, TooManyHeld}
use Rattle.saber_plan.specs.Rows.{Line, SideRules, Place, End, Judged, skipped, taken, refused, judge_at, timed_line, late, crowds, raised_time, waiting_rows, stamp, is_due, is_known, no_more, accept, in_time, after_line, read_by, lines_of, without_cr, before, bad}
use Rattle.saber_rows.specs.Reader.{Reader, rest_by, rest_of, CanFollow}
use Rattle.saber_rows.specs.Turns.{first_judged, Fronts, IsLastIf, IsFirstReady, Steps, same}
use Rattle.saber_rows.specs.QuickRows.{IsRowAt}
use Rattle.saber_rows.proofs.HeldRows.{is_not_above}
use Rattle.saber_rows.proofs.Ahead.{front, read_front}
use Rattle.saber_rows.proofs.ReadSteps.{rest_unknown}
use Rattle.saber_rows.proofs.TakenRows.{judged_row}

known_line : (partial : Bool) (l : Line) → (l.whole ≡ false → partial ≡ false) → (partial && not (is_known l)) ≡ false
known_line partial l h = by_whole partial l.whole h where
  by_whole : (partial whole : Bool) → (whole ≡ false → partial ≡ false) → (partial && not (whole || nat_lt 4097 (length l.content))) ≡ false
  by_whole true true h = refl
  by_whole true false h = absurd (let e = h refl in cc)
  by_whole false whole h = refl

-- the rows of lines whose first is known
pub read_cons : (partial : Bool) (s : SideRules) (l : Line) (ls : List Line) (p : Place) → (partial && not (is_known l)) ≡ false → read_by partial s (l ∷ ls) p ≡ after_line s p (judge_at s p (without_cr l.content)) (read_by partial s ls)
unfolding read_by
read_cons partial s l ls p e = ap (λ b. cond b (no_more partial s p) (after_line s p (judge_at s p (without_cr l.content)) (read_by partial s ls))) e

-- ---- an end that is known

abbrev pub with_over : Reader → End → Reader
with_over r end = record { rules = r.rules; place = r.place; last = r.last; held = r.held; ended = r.ended; over = Some end; answer = r.answer }

pub knows : (r : Reader) (end : End) → ((partial : Bool) (z : List ℕ) → CanFollow partial r z → rest_of partial r z ≡ record { rows = r.place.accepted; end = end }) → Steps same r (with_over r end)
knows r end h = record {
  ended = refl;
  done = [];
  count = omega arith;
  lines = λ z follow. refl;
  rest = λ partial z follow. h partial z follow;
}

-- ---- a line

module _ (old : Reader) (over : old.over ≡ None) (whole : Bool) (n with_end : ℕ) (fronts : Fronts whole old.held n with_end) (last : IsLastIf whole old) where
  line : Line
  line = record { content = take n old.held; whole = whole }

  line_lines : (held : List ℕ) → held ≡ drop with_end old.held → (z : List ℕ) → CanFollow false old z → lines_of (old.held ++ z) ≡ line ∷ lines_of (held ++ z)
  unfolding line
  line_lines held eh z follow = fronts z (λ e. (follow (last e)).1) ∙ ap (λ h. line ∷ lines_of (h ++ z)) (sym eh)

  line_rest : (partial : Bool) (z : List ℕ) → CanFollow partial old z → rest_of partial old z ≡ after_line old.rules old.place (first_judged old n) (read_by partial old.rules (lines_of (drop with_end old.held ++ z)))
  line_rest partial z follow =
      rest_unknown old over partial z
      ∙ ap (λ ls. read_by partial old.rules ls old.place) (fronts z (λ e. (follow (last e)).1))
      ∙ read_cons partial old.rules (record { content = take n old.held; whole = whole }) _ old.place (known_line partial (record { content = take n old.held; whole = whole }) (λ e. (follow (last e)).0))

  -- the reader behind the line
  abbrev pub behind : Place → Option ℕ → List ℕ → Reader
  behind place last held = record { rules = old.rules; place = place; last = last; held = held; ended = old.ended; over = old.over; answer = old.answer }

  judged_rest : (held : List ℕ) (j : Judged) → held ≡ drop with_end old.held → j ≡ first_judged old n → (partial : Bool) (z : List ℕ) → CanFollow partial old z → rest_of partial old z ≡ after_line old.rules old.place j (read_by partial old.rules (lines_of (held ++ z)))
  judged_rest held j eh ej partial z follow =
      line_rest partial z follow
      ∙ ap (λ i. after_line old.rules old.place i (read_by partial old.rules (lines_of (drop with_end old.held ++ z)))) (sym ej)
      ∙ ap (λ h. after_line old.rules old.place j (read_by partial old.rules (lines_of (h ++ z)))) (sym eh)

  -- an empty line
  pub skips : (held : List ℕ) → held ≡ drop with_end old.held → skipped ≡ first_judged old n →
      Steps same old (behind (record { lines = old.place.lines + 1; high = old.place.high; accepted = old.place.accepted }) old.last held)
  skips held eh ej = record {
    ended = refl;
    done = line ∷ [];
    count = refl;
    lines = λ z follow. line_lines held eh z follow;
    rest = λ partial z follow. judged_rest held skipped eh ej partial z follow
        ∙ sym (rest_unknown (behind (record { lines = old.place.lines + 1; high = old.place.high; accepted = old.place.accepted }) old.last held) over partial z);
  }

  -- a row that is held
  pub holds : (held : List ℕ) (zs : List ℤ) (place : Place) → held ≡ drop with_end old.held → taken zs ≡ first_judged old n → place ≡ accept old.rules old.place zs → Steps same old (behind place old.last held)
  holds held zs place eh ej ep = record {
    ended = refl;
    done = line ∷ [];
    count = ap (λ p. p.lines) ep;
    lines = λ z follow. line_lines held eh z follow;
    rest = λ partial z follow. judged_rest held (taken zs) eh ej partial z follow
        ∙ ap (read_by partial old.rules (lines_of (held ++ z))) (sym ep)
        ∙ sym (rest_unknown (behind place old.last held) over partial z);
  }

  -- a row that is given at once
  pub takes : (held : List ℕ) (zs : List ℤ) (place : Place) (given : Option ℕ) → held ≡ drop with_end old.held → taken zs ≡ first_judged old n → place.lines ≡ old.place.lines + 1
      → accept old.rules old.place zs ≡ front (record { side = old.rules.side; values = zs }) place → is_due old.rules.slack place.high (record { side = old.rules.side; values = zs }) ≡ true
      → Steps (before (record { side = old.rules.side; values = zs })) old (behind place given held)
  takes held zs place given eh ej el ep due = record {
    ended = refl;
    done = line ∷ [];
    count = el;
    lines = λ z follow. line_lines held eh z follow;
    rest = λ partial z follow. judged_rest held (taken zs) eh ej partial z follow
        ∙ ap (read_by partial old.rules (lines_of (held ++ z))) ep
        ∙ read_front old.rules (record { side = old.rules.side; values = zs }) partial (lines_of (held ++ z)) place due
        ∙ ap (before (record { side = old.rules.side; values = zs })) (sym (rest_unknown (behind place given held) over partial z));
  }

  -- a line that is refused
  pub refuses : (c : RowCause) → refused c ≡ first_judged old n → Steps same old (with_over old (bad old.rules.side (old.place.lines + 1) c))
  refuses c ej = knows old (bad old.rules.side (old.place.lines + 1) c) (λ partial z follow. line_rest partial z follow
      ∙ ap (λ j. after_line old.rules old.place j (read_by partial old.rules (lines_of (drop with_end old.held ++ z)))) (sym ej))

-- ---- without slack a row is due as soon as it is there

due_at_once : (slack : ℕ) (high : Option ℕ) (t : ℕ) → slack ≡ 0 → nat_le (t + slack) (raised_time high t) ≡ true
due_at_once slack None t e = grind (arith, nat_tests)
due_at_once slack (Some h) t e = grind (arith, nat_tests)

none_crowds : (s : SideRules) (p : Place) (zs : List ℤ) → s.slack ≡ 0 → p.accepted ≡ [] → crowds s p zs ≡ false
none_crowds s p zs e none =
    ap (λ xs. nat_lt s.room (length (waiting_rows s (record { lines = p.lines + 1; high = Some (raised_time p.high (stamp zs)); accepted = in_time (record { side = s.side; values = zs }) xs })))) none
    ∙ ap (λ b. nat_lt s.room (length (cond {A = List Row} (not b) (record { side = s.side; values = zs } ∷ []) []))) (due_at_once s.slack p.high (stamp zs) e)
    ∙ is_not_above s.room 0 (omega arith)

-- the place behind a row that was given at once
abbrev pub passed_by : Place → List ℤ → Place
passed_by p zs = record { lines = p.lines + 1; high = Some (raised_time p.high (stamp zs)); accepted = p.accepted }

module _ (old : Reader) (over : old.over ≡ None) (slack : old.rules.slack ≡ 0) (none : old.place.accepted ≡ []) where
  pub takes_at_once : (whole : Bool) (n with_end : ℕ) (fronts : Fronts whole old.held n with_end) (last : IsLastIf whole old) (held : List ℕ) (zs : List ℤ) (given : Option ℕ) → held ≡ drop with_end old.held → taken zs ≡ first_judged old n
      → Steps (before (record { side = old.rules.side; values = zs })) old (record { rules = old.rules; place = passed_by old.place zs; last = given; held = held; ended = old.ended; over = old.over; answer = old.answer })
  takes_at_once whole n with_end fronts last held zs given eh ej =
      let row : Row = record { side = old.rules.side; values = zs } in
      takes old over whole n with_end fronts last held zs (passed_by old.place zs) given eh ej refl
      (ap (λ xs. record { lines = old.place.lines + 1; high = Some (raised_time old.place.high (stamp zs)); accepted = in_time row xs }) none ∙ ap (λ xs. record { lines = old.place.lines + 1; high = Some (raised_time old.place.high (stamp zs)); accepted = row ∷ xs }) (sym none))
      (due_at_once old.rules.slack old.place.high (stamp zs) slack)

  -- a line of numbers in their ranges that is not late is taken
  pub row_judged : (n : ℕ) (vs : List ℤ) → IsRowAt old.rules.columns old.held vs n → old.place.lines + 1 ≤ old.rules.most → late old.rules.slack old.place.high vs ≡ false → taken vs ≡ first_judged old n
  row_judged n vs row most in_time =
      sym (ap (timed_line old.rules old.place) (judged_row old.rules.columns old.rules.most (old.place.lines + 1) (without_cr (take n old.held)) vs most row.row)
      ∙ ap (λ b. cond b (refused TimeOrder) (cond (crowds old.rules old.place vs) (refused TooManyHeld) (taken vs))) in_time
      ∙ ap (λ b. cond b (refused TooManyHeld) (taken vs)) (none_crowds old.rules old.place vs slack none))

  -- a row in one pass
  pub row_steps : (n : ℕ) (vs : List ℤ) (held : List ℕ) (given : Option ℕ) → IsRowAt old.rules.columns old.held vs n → old.place.lines + 1 ≤ old.rules.most → late old.rules.slack old.place.high vs ≡ false → held ≡ drop (n + 1) old.held →
      Steps (before (record { side = old.rules.side; values = vs })) old (record { rules = old.rules; place = passed_by old.place vs; last = given; held = held; ended = old.ended; over = old.over; answer = old.answer })
  row_steps n vs held given row most in_time eh =
      takes_at_once true n (n + 1) (λ z _. row.line z) (λ e. cc) held vs given eh (row_judged n vs row most in_time)

-- ---- a row that is held is given

give_by : (partial : Bool) (s : SideRules) (ls : List Line) (p : Place) (row : Row) (rest : List Row) (o : Option End) → p.accepted ≡ row ∷ rest → IsFirstReady o s p (row ∷ rest)
    → rest_by o p.accepted (read_by partial s ls p) ≡ before row (rest_by o rest (read_by partial s ls (record { lines = p.lines; high = p.high; accepted = rest })))
give_by partial s ls p row rest None e ready = ap (λ xs. read_by partial s ls (record { lines = p.lines; high = p.high; accepted = xs })) e ∙ read_front s row partial ls (record { lines = p.lines; high = p.high; accepted = rest }) ready
give_by partial s ls p row rest (Some end) e ready = ap (λ xs. record { rows = xs; end = end }) e

pub gives : (old : Reader) (row : Row) (rest : List Row) (given : Option ℕ) → old.place.accepted ≡ row ∷ rest → IsFirstReady old.over old.rules old.place (row ∷ rest)
    → Steps (before row) old (record { rules = old.rules; place = record { lines = old.place.lines; high = old.place.high; accepted = rest }; last = given; held = old.held; ended = old.ended; over = old.over; answer = old.answer })
gives old row rest given e ready = record {
  ended = refl;
  done = [];
  count = omega arith;
  lines = λ z follow. refl;
  rest = λ partial z follow. give_by partial old.rules (lines_of (old.held ++ z)) old.place row rest old.over e ready;
}

-- ---- a line more leaves less to do, however many bytes are held

pub less_left : (most lines a b ended over : ℕ) → lines + 1 ≤ most → (most - (lines + 1)) * 16384 + (8193 - a) + ended + over < (most - lines) * 16384 + (8193 - b) + ended + over
less_left most lines a b ended over h = omega (arith, h)
