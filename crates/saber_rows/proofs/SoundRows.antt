-- What is true of the rows that a reader holds stays true.
use Rattle.std.proofs.Common.{◌≡◌, ℕ, ◌+◌, ◌<◌, ◌≤◌, filter, length, List, [], ◌∷◌, true, false, not, cond, nat_lt, nat_le, Option, Some, None, option_map, ℤ, refl, sym, ◌∙◌, ap, subst, arith}
use Rattle.std.proofs.lemmas.Bool.Decides.{nat_tests}
use Rattle.saber_plan.specs.declared.rows.Row.{Row}
use Rattle.saber_plan.specs.Rows.{SideRules, Place, End, stamp, falls, late, is_due, waiting_rows, raised_time, accept, RowFits}
use Rattle.saber_rows.specs.Reader.{Reader, end_behind}
use Rattle.saber_rows.specs.Calls.{IsGiven}
use Rattle.saber_rows.specs.Sound.{Sound, WasDue}
use Rattle.saber_rows.specs.Turns.{IsFirstReady}
use Rattle.saber_rows.specs.declared.ends.Behind.{Behind}
use Rattle.saber_rows.proofs.HeldRows.{length-in_time, all-in_time, in_time_stays, due_stays, not_before_due, due_is_ready}
use Rattle.saber_rows.proofs.LineSteps.{passed_by}
use Rattle.saber_rows.proofs.TakenRows.{IsAccepted}

pub none_held : (xs : List Row) → length xs ≡ 0 → xs ≡ []
none_held [] e = refl
none_held (x ∷ xs) e = absurd (omega arith)

pub no_end : (o : Option Behind) (f : Behind → End) → o ≡ None → option_map f o ≡ None
no_end o f e = ap (option_map f) e

module _ (s : SideRules) (p : Place) (last : Option ℕ) (over : Option Behind) (h : Sound s p last over) where
  not_falling : (o : Option ℕ) (zs : List ℤ) → WasDue s.slack p.high o → late s.slack p.high zs ≡ false → falls o zs ≡ false
  not_falling None zs w l = refl
  not_falling (Some t) zs w l = not_before_due s.slack p.high zs t l w

  pub follows_last : (zs : List ℤ) → over ≡ None → late s.slack p.high zs ≡ false → falls last zs ≡ false
  follows_last zs e l = not_falling last zs (h.was_due e) l

  still_due : (o : Option ℕ) (t : ℕ) → WasDue s.slack p.high o → WasDue s.slack (Some (raised_time p.high t)) o
  still_due None t w = tt
  still_due (Some u) t w = due_stays s.slack p.high t u w

  has_room : (room n : ℕ) → nat_lt room n ≡ false → n ≤ room
  has_room room n e = grind (arith, nat_tests)

  -- a row is held
  pub sound_held : (zs : List ℤ) → 0 < s.slack → over ≡ None → IsAccepted s p zs → Sound s (accept s p zs) last over
  sound_held zs slack e a = let row : Row = record { side = s.side; values = zs } in record {
    fit = all-in_time (RowFits s.side s.columns) row p.accepted a.fits h.fit;
    in_time = in_time_stays last row p.accepted (follows_last zs e a.in_time) h.in_time;
    few = has_room s.room (length (waiting_rows s (accept s p zs))) a.has_room;
    lined = omega (arith, h.lined, length-in_time row p.accepted);
    none = λ z. absurd (omega (arith, z, slack));
    was_due = λ n. still_due last (stamp zs) (h.was_due n);
  }

  at_once : (slack t : ℕ) (high : Option ℕ) → slack ≡ 0 → nat_le (t + slack) (raised_time high t) ≡ true
  at_once slack t None e = grind (arith, nat_tests)
  at_once slack t (Some g) e = grind (arith, nat_tests)

  -- a row is given at once
  pub sound_at_once : (zs : List ℤ) (t : ℕ) → t ≡ stamp zs → s.slack ≡ 0 → Sound s (passed_by p zs) (Some t) over
  sound_at_once zs t own slack =
      let none : p.accepted ≡ [] = none_held p.accepted (h.none slack) in
      subst (λ u. Sound s (passed_by p zs) (Some u) over) (sym own)
      (subst (λ xs. Sound s (record { lines = p.lines + 1; high = Some (raised_time p.high (stamp zs)); accepted = xs }) (Some (stamp zs)) over) (sym none) (record {
        fit = tt;
        in_time = tt;
        few = omega arith;
        lined = omega arith;
        none = λ _. refl;
        was_due = λ _. at_once s.slack (stamp zs) p.high slack;
      }))

  pub given_at_once : (zs : List ℤ) (t : ℕ) (a b : Reader) → t ≡ stamp zs → over ≡ None → IsAccepted s p zs → a.rules ≡ s → a.place ≡ p → a.last ≡ last → b.place ≡ passed_by p zs → b.last ≡ Some t → IsGiven (record { side = s.side; values = zs }) a b
  given_at_once zs t a b own e acc rs pl la pb lb = record {
    fits = subst (λ r. RowFits r.side r.columns (record { side = s.side; values = zs })) (sym rs) acc.fits;
    ordered = ap (λ l. falls l zs) la ∙ follows_last zs e acc.in_time;
    last = lb ∙ ap Some own;
    rises = rw (pl, pb) (omega (arith, h.lined));
  }

  -- the first is given
  few_behind : (x : Row) (xs : List Row) → length (filter (λ r. not (is_due s.slack p.high r)) xs) ≤ length (filter (λ r. not (is_due s.slack p.high r)) (x ∷ xs))
  few_behind x xs = elim (is_due s.slack p.high x) as (λ b. length (filter (λ r. not (is_due s.slack p.high r)) xs) ≤ length (cond (not b) (x ∷ filter (λ r. not (is_due s.slack p.high r)) xs) (filter (λ r. not (is_due s.slack p.high r)) xs))) [
    | true ↦ omega arith
    | false ↦ omega arith
  ]

  due_by : (row : Row) (rest : List Row) (o : Option Behind) → IsFirstReady (option_map (end_behind s.side) o) s p (row ∷ rest) → o ≡ None → is_due s.slack p.high row ≡ true
  due_by row rest None r e = r
  due_by row rest (Some b) r e = cc

  whole : (row : Row) (rest : List Row) → p.accepted ≡ row ∷ rest → Sound s (record { lines = p.lines; high = p.high; accepted = row ∷ rest }) last over
  whole row rest e = subst (λ xs. Sound s (record { lines = p.lines; high = p.high; accepted = xs }) last over) e h

  pub sound_give : (row : Row) (rest : List Row) (t : ℕ) → p.accepted ≡ row ∷ rest → t ≡ stamp row.values → IsFirstReady (option_map (end_behind s.side) over) s p (row ∷ rest) → Sound s (record { lines = p.lines; high = p.high; accepted = rest }) (Some t) over
  sound_give row rest t e own r =
      let g = whole row rest e in
      subst (λ u. Sound s (record { lines = p.lines; high = p.high; accepted = rest }) (Some u) over) (sym own) (record {
        fit = g.fit.1;
        in_time = g.in_time.1;
        few = omega (arith, few_behind row rest, g.few);
        lined = omega (arith, g.lined);
        none = λ z. absurd (omega (arith, g.none z));
        was_due = λ n. sym (due_is_ready s.slack p.high row) ∙ due_by row rest over r n;
      })
