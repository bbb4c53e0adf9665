-- A row in one pass is the next one that the reader gives, and so are rows one after another.
use Rattle.std.proofs.Common.{◌≡◌, ℕ, suc, ◌+◌, ◌≤◌, List, [], take, drop, drop-drop, length-drop, false, Option, Some, None, Ok, ℤ, refl, sym, ◌∙◌, ap, subst, arith}
use Rattle.saber_plan.specs.declared.rows.Row.{Row}
use Rattle.saber_plan.specs.Rows.{before, stamp, late, raised_time, without_cr}
use Rattle.saber_rows.specs.declared.ends.Behind.{Behind}
use Rattle.saber_rows.specs.declared.lines.Run.{Run}
use Rattle.saber_rows.specs.QuickRows.{IsRowAt, IsPut}
use Rattle.saber_rows.specs.Reader.{Reader}
use Rattle.saber_rows.specs.Calls.{HoldsNext, IsGiven, TakesOne, TakesRows}
use Rattle.saber_rows.specs.Sound.{Sound}
use Rattle.saber_rows.specs.Turns.{Steps, Runs, behind_run}
use Rattle.saber_rows.proofs.Chains.{moved}
use Rattle.saber_rows.proofs.LineSteps.{row_steps, row_judged}
use Rattle.saber_rows.proofs.SoundRows.{none_held, given_at_once, sound_at_once}
use Rattle.saber_rows.proofs.TakenRows.{accepted}
use Rattle.saber_rows.proofs.ReaderTexts.{is_next}

-- without slack, where no end is known
module _ (r : Reader) (over : Option Behind) (sound : Sound r.rules r.place r.last over) (none : over ≡ None) (unknown : r.over ≡ None) (slack : r.rules.slack ≡ 0)
    (n : ℕ) (vs : List ℤ) (row : IsRowAt r.rules.columns r.held vs n) (most : r.place.lines + 1 ≤ r.rules.most) (in_time : late r.rules.slack r.place.high vs ≡ false)
    (t h : ℕ) (own : t ≡ stamp vs) (high : h ≡ raised_time r.place.high (stamp vs)) (held : List ℕ) (rest : held ≡ drop (n + 1) r.held) where
  abbrev pub its_row : Row
  its_row = record { side = r.rules.side; values = vs }

  -- the reader with this greatest timestamp behind it
  abbrev pub behind : ℕ → Reader
  behind k = record { rules = r.rules; place = record { lines = r.place.lines + 1; high = Some k; accepted = r.place.accepted }; last = Some t; held = held; ended = r.ended; over = r.over; answer = r.answer }

  none_waits : r.place.accepted ≡ []
  none_waits = none_held r.place.accepted (sound.none slack)

  pub quick_steps : Steps (before its_row) r (behind h)
  quick_steps = subst (λ k. Steps (before its_row) r (behind k)) (sym high) (row_steps r unknown slack none_waits n vs held (Some t) row most in_time rest)

  pub quick_given : IsGiven its_row r (behind h)
  quick_given = given_at_once r.rules r.place r.last over sound vs t r (behind h) own none
      (accepted r.rules r.place (without_cr (take n r.held)) vs (row_judged r unknown slack none_waits n vs row most in_time)) refl refl refl
      (ap (λ k. record { lines = r.place.lines + 1; high = Some k; accepted = r.place.accepted }) high) refl

  pub quick_takes : r.answer ≡ None → HoldsNext its_row r (behind h)
  quick_takes goes = record {
    goes = goes;
    moves = λ left. moved (before its_row) r (behind h) left quick_steps;
    next = λ left. is_next (Ok (Some its_row)) r (behind h) left left (moved (before its_row) r (behind h) left quick_steps) tt;
    given = quick_given;
    counted = omega (arith, most);
    rules = refl;
    answer = goes;
  }

-- a row more behind those that were taken
module _ (r : Reader) (over : Option Behind) (none : over ≡ None) (unknown : r.over ≡ None) (slack : r.rules.slack ≡ 0) (goes : r.answer ≡ None)
    (run : Run) (had there has : List Row) (h : Runs r over run had there)
    (n t : ℕ) (p : IsPut r.rules.side r.rules.columns (drop run.at r.held) run.high there has n t) (most : r.place.lines + run.taken + 1 ≤ r.rules.most) where
  abbrev mid : Reader
  mid = behind_run r run

  abbrev longer : Run
  longer = record { taken = run.taken + 1; at = run.at + (n + 1); high = Some t; last = Some t }

  counted : r.place.lines + run.taken + 1 ≡ r.place.lines + (run.taken + 1)
  counted = omega arith

  one_more : TakesOne mid (behind_run r longer) there has
  one_more = record {
    row = record { side = r.rules.side; values = p.values };
    put = p.put;
    holds = subst (λ l. HoldsNext (record { side = r.rules.side; values = p.values }) mid (record {
      rules = r.rules;
      place = record { lines = l; high = Some t; accepted = r.place.accepted };
      last = Some t;
      held = drop (run.at + (n + 1)) r.held;
      ended = r.ended;
      over = r.over;
      answer = r.answer;
    })) counted
        (quick_takes mid over h.sound none unknown slack n p.values p.row most (ap (λ k. late k run.high p.values) slack ∙ p.in_time)
        t t p.own p.highest (drop (run.at + (n + 1)) r.held) (sym (drop-drop (n + 1) run.at r.held)) goes);
  }

  still_sound : Sound r.rules (behind_run r longer).place (Some t) over
  still_sound =
      subst (λ l. Sound r.rules (record { lines = l; high = Some t; accepted = r.place.accepted }) (Some t) over) counted
      (subst (λ k. Sound r.rules (record { lines = r.place.lines + run.taken + 1; high = Some k; accepted = r.place.accepted }) (Some t) over) (sym p.highest)
      (sound_at_once r.rules mid.place run.last over h.sound p.values t p.own slack))

  next : suc run.taken ≡ run.taken + 1
  next = omega arith

  pub run_on : Runs r over longer had has
  run_on = record {
    within = omega (arith, h.within, p.row.inside, length-drop run.at r.held);
    counted = omega (arith, most);
    rows = subst (λ k. TakesRows k r (behind_run r longer) had has) next (mid, there, h.rows, one_more);
    sound = still_sound;
  }
