-- The rows that are due come first, whatever lines follow.
use Rattle.std.proofs.Common.{◌≡◌, ℕ, ◌+◌, List, [], ◌∷◌, ◌++◌, Bool, true, false, cond, not, ◌&&◌, nat_lt, nat_le, filter, Option, Some, None, ℤ, refl, sym, ◌∙◌, ap, append-nil, append_assoc, arith}
use Rattle.std.proofs.lemmas.Bool.Decides.{nat_tests}
use Rattle.saber_plan.specs.declared.rows.Row.{Row}
use Rattle.saber_plan.specs.declared.rows.RowCause.TheVariants.{TimeOrder, TooManyHeld}
use Rattle.saber_plan.specs.Rows.{stamp, Line, Read, SideRules, Place, Judged, skipped, taken, refused, judge, judge_at, timed_line, late, crowds, is_due, due, raised_time, in_time, accept, without_cr, is_known, no_more, after_line, read_by}
use Rattle.saber_laws.proofs.FileLaws.{From, from_in_time, not_negative, due_stays, not_before}
use Rattle.saber_laws.specs.Inputs.{Begins}

later_waits : (slack : ℕ) (high : Option ℕ) (x y : Row) → is_due slack high x ≡ false → nat_le (stamp x.values) (stamp y.values) ≡ true → is_due slack high y ≡ false
later_waits slack None x y e h = refl
later_waits slack (Some t) x y e h = grind (arith, nat_tests)

-- behind a row that waits all wait
none_due : (slack : ℕ) (high : Option ℕ) (x : Row) (xs : List Row) → is_due slack high x ≡ false → From (stamp x.values) xs → filter (is_due slack high) xs ≡ []
none_due slack high x [] e f = refl
none_due slack high x (y ∷ ys) e f =
    let w = later_waits slack high x y e f.0 in
    ap (λ b. cond b (y ∷ filter (is_due slack high) ys) (filter (is_due slack high) ys)) w ∙ none_due slack high y ys w f.1

empty_begins : (us xs : List Row) → us ≡ [] → Begins us xs
empty_begins us xs e = (xs, ap (λ l. l ++ xs) e)

begins_through : (us vs xs : List Row) → Begins us vs → Begins vs xs → Begins us xs
begins_through us vs xs f g = (f.0 ++ g.0, sym (append_assoc us f.0 g.0) ∙ ap (λ l. l ++ g.0) f.1 ∙ g.1)

due_by : (slack : ℕ) (high : Option ℕ) (x : Row) (xs : List Row) → Begins (filter (is_due slack high) xs) xs → From (stamp x.values) xs → (b : Bool) → is_due slack high x ≡ b
    → Begins (cond b (x ∷ filter (is_due slack high) xs) (filter (is_due slack high) xs)) (x ∷ xs)
due_by slack high x xs h f true e = (h.0, ap (λ l. x ∷ l) h.1)
due_by slack high x xs h f false e = empty_begins (filter (is_due slack high) xs) (x ∷ xs) (none_due slack high x xs e f)

-- of rows in order of time those that are due are the first
due_begin : (slack : ℕ) (high : Option ℕ) (t : ℕ) (xs : List Row) → From t xs → Begins (filter (is_due slack high) xs) xs
due_begin slack high t [] f = ([], refl)
due_begin slack high t (x ∷ xs) f = due_by slack high x xs (due_begin slack high (stamp x.values) xs f.1) f.1 (is_due slack high x) refl

module _ (slack : ℕ) (high : Option ℕ) (r : Row) (timely : late slack high r.values ≡ false) where
  abbrev now : Row → Bool
  now = is_due slack high

  abbrev then : Row → Bool
  then = is_due slack (Some (raised_time high (stamp r.values)))

  more_by : (x : Row) (xs : List Row) → Begins (filter now xs) (filter then (in_time r xs)) → From (stamp x.values) xs → (b : Bool) → now x ≡ b
      → Begins (cond b (x ∷ filter now xs) (filter now xs)) (filter then (cond (nat_lt (stamp r.values) (stamp x.values)) (r ∷ x ∷ xs) (x ∷ in_time r xs)))
  more_by x xs h f true e =
      let behind = ap (λ b. filter then (cond b (r ∷ x ∷ xs) (x ∷ in_time r xs))) (not_before slack high r.values x timely e) in
      let stays = ap (λ b. cond b (x ∷ filter then (in_time r xs)) (filter then (in_time r xs))) (due_stays slack high (stamp r.values) x e) in
      (h.0, ap (λ l. x ∷ l) h.1 ∙ sym (behind ∙ stays))
  more_by x xs h f false e = empty_begins (filter now xs) _ (none_due slack high x xs e f)

  -- a row that is not late comes behind those that are due, and these stay due
  due_more : (t : ℕ) (xs : List Row) → From t xs → Begins (filter now xs) (filter then (in_time r xs))
  due_more t [] f = empty_begins [] _ refl
  due_more t (x ∷ xs) f = more_by x xs (due_more (stamp x.values) xs f.1) f.1 (now x) refl

module _ (s : SideRules) where
  end_first : (partial : Bool) (p : Place) → From 0 p.accepted → Begins (due s p) (no_more partial s p).rows
  end_first true p f = ([], append-nil (due s p))
  end_first false p f = due_begin s.slack p.high 0 p.accepted f

  abbrev GoesOn : (Place → Read) → Type 0
  GoesOn rest = (q : Place) → From 0 q.accepted → Begins (due s q) (rest q).rows

  pub accepted_from : (p : Place) (zs : List ℤ) → From 0 p.accepted → From 0 (accept s p zs).accepted
  accepted_from p zs f = from_in_time 0 (record { side = s.side; values = zs }) p.accepted (not_negative (stamp zs)) f

  taken_first : (p : Place) (zs : List ℤ) (rest : Place → Read) → GoesOn rest → From 0 p.accepted → (b : Bool) → late s.slack p.high zs ≡ b
      → Begins (due s p) (after_line s p (cond b (refused TimeOrder) (cond (crowds s p zs) (refused TooManyHeld) (taken zs))) rest).rows
  taken_first p zs rest go f true l = due_begin s.slack p.high 0 p.accepted f
  taken_first p zs rest go f false l = elim (crowds s p zs) as (λ b. Begins (due s p) (after_line s p (cond b (refused TooManyHeld) (taken zs)) rest).rows) [
    | true ↦ due_begin s.slack p.high 0 p.accepted f
    | false ↦ begins_through (due s p) (due s (accept s p zs)) (rest (accept s p zs)).rows (due_more s.slack p.high (record { side = s.side; values = zs }) l 0 p.accepted f) (go (accept s p zs) (accepted_from p zs f))
  ]

  after_first : (p : Place) (j : Judged) (rest : Place → Read) → GoesOn rest → From 0 p.accepted → Begins (due s p) (after_line s p (timed_line s p j) rest).rows
  after_first p skipped rest go f = go (record { lines = p.lines + 1; high = p.high; accepted = p.accepted }) f
  after_first p (taken zs) rest go f = taken_first p zs rest go f (late s.slack p.high zs) refl
  after_first p (refused c) rest go f = due_begin s.slack p.high 0 p.accepted f

  -- whatever lines follow
  pub due_first : (partial : Bool) (ls : List Line) (p : Place) → From 0 p.accepted → Begins (due s p) (read_by partial s ls p).rows
  unfolding read_by
  due_first partial [] p f = end_first partial p f
  due_first partial (l ∷ ls) p f =
      elim (partial && not (is_known l)) as (λ b. Begins (due s p) (cond {A = Read} b (no_more partial s p) (after_line s p (judge_at s p (without_cr l.content)) (read_by partial s ls))).rows) [
        | true ↦ end_first partial p f
        | false ↦ after_first p (judge s.columns s.most (p.lines + 1) (without_cr l.content)) (read_by partial s ls) (λ q g. due_first partial ls q g) f
      ]
