-- A row that is due can be given before what follows is known.
use Rattle.std.proofs.Common.{◌≡◌, ℕ, ◌+◌, length, List, [], ◌∷◌, Bool, true, false, not, ◌&&◌, cond, nat_lt, Some, ℤ, refl, sym, ◌∙◌, ap}
use Rattle.saber_plan.specs.declared.rows.Row.{Row}
use Rattle.saber_plan.specs.declared.rows.RowCause.TheVariants.{TimeOrder, TooManyHeld}
use Rattle.saber_plan.specs.Rows.{SideRules, Place, Line, Read, before, cut, stamp, Judged, skipped, taken, refused, judge, late, is_due, due, waiting_rows, raised_time, in_time, accept, crowds, timed_line, judge_at, after_line, is_known, no_more, read_by, without_cr}
use Rattle.saber_rows.proofs.HeldRows.{due_stays, not_before_due, due_is_ready}

-- the place with a row in front of those that are held
abbrev pub front : Row → Place → Place
front x p = record { lines = p.lines; high = p.high; accepted = x ∷ p.accepted }

pub in_time_behind : (r x : Row) (xs : List Row) → nat_lt (stamp r.values) (stamp x.values) ≡ false → in_time r (x ∷ xs) ≡ x ∷ in_time r xs
in_time_behind r x xs e = ap (λ b. cond b (r ∷ x ∷ xs) (x ∷ in_time r xs)) e

module _ (s : SideRules) (x : Row) where
  still_due : (p : Place) (t : ℕ) → is_due s.slack p.high x ≡ true → is_due s.slack (Some (raised_time p.high t)) x ≡ true
  still_due p t d = due_stays s.slack p.high t (stamp x.values) (sym (due_is_ready s.slack p.high x) ∙ d)

  accept_front : (p : Place) (zs : List ℤ) → is_due s.slack p.high x ≡ true → late s.slack p.high zs ≡ false → accept s (front x p) zs ≡ front x (accept s p zs)
  accept_front p zs d l =
      ap (λ xs. record { lines = p.lines + 1; high = Some (raised_time p.high (stamp zs)); accepted = xs })
      (in_time_behind (record { side = s.side; values = zs }) x p.accepted (not_before_due s.slack p.high zs (stamp x.values) l (sym (due_is_ready s.slack p.high x) ∙ d)))

  waiting_front : (p : Place) → is_due s.slack p.high x ≡ true → waiting_rows s (front x p) ≡ waiting_rows s p
  waiting_front p d = ap (λ b. cond (not b) (x ∷ waiting_rows s p) (waiting_rows s p)) d

  crowds_front : (p : Place) (zs : List ℤ) → is_due s.slack p.high x ≡ true → late s.slack p.high zs ≡ false → crowds s (front x p) zs ≡ crowds s p zs
  crowds_front p zs d l =
      ap (λ q. nat_lt s.room (length (waiting_rows s q))) (accept_front p zs d l)
      ∙ ap (λ ws. nat_lt s.room (length ws)) (waiting_front (accept s p zs) (still_due p (stamp zs) d))

  abbrev Goes : (Place → Read) → Type 0
  Goes rest = (q : Place) → is_due s.slack q.high x ≡ true → rest (front x q) ≡ before x (rest q)

  taken_front : (p : Place) (zs : List ℤ) (rest : Place → Read) → Goes rest → is_due s.slack p.high x ≡ true → (b : Bool) → late s.slack p.high zs ≡ b
      → after_line s (front x p) (cond b (refused TimeOrder) (cond (crowds s (front x p) zs) (refused TooManyHeld) (taken zs))) rest ≡ before x (after_line s p (cond b (refused TimeOrder) (cond (crowds s p zs) (refused TooManyHeld) (taken zs))) rest)
  taken_front p zs rest go d true l = refl
  taken_front p zs rest go d false l =
      ap (λ c. after_line s (front x p) (cond c (refused TooManyHeld) (taken zs)) rest) (crowds_front p zs d l)
      ∙ elim (crowds s p zs) as (λ c. after_line s (front x p) (cond c (refused TooManyHeld) (taken zs)) rest ≡ before x (after_line s p (cond c (refused TooManyHeld) (taken zs)) rest)) [
        | true ↦ refl
        | false ↦ ap rest (accept_front p zs d l) ∙ go (accept s p zs) (still_due p (stamp zs) d)
      ]

  after_front : (p : Place) (j : Judged) (rest : Place → Read) → Goes rest → is_due s.slack p.high x ≡ true → after_line s (front x p) (timed_line s (front x p) j) rest ≡ before x (after_line s p (timed_line s p j) rest)
  after_front p skipped rest go d = go (record { lines = p.lines + 1; high = p.high; accepted = p.accepted }) d
  after_front p (taken zs) rest go d = taken_front p zs rest go d (late s.slack p.high zs) refl
  after_front p (refused c) rest go d = refl

  no_more_front : (partial : Bool) (p : Place) → is_due s.slack p.high x ≡ true → no_more partial s (front x p) ≡ before x (no_more partial s p)
  no_more_front true p d = ap (λ b. record { rows = cond b (x ∷ due s p) (due s p); end = cut }) d
  no_more_front false p d = refl

  pub read_front : (partial : Bool) (ls : List Line) (p : Place) → is_due s.slack p.high x ≡ true → read_by partial s ls (front x p) ≡ before x (read_by partial s ls p)
  unfolding read_by
  read_front partial [] p d = no_more_front partial p d
  read_front partial (l ∷ ls) p d =
      elim (partial && not (is_known l)) as (λ b. cond b (no_more partial s (front x p)) (after_line s (front x p) (judge_at s (front x p) (without_cr l.content)) (read_by partial s ls))
      ≡ before x (cond b (no_more partial s p) (after_line s p (judge_at s p (without_cr l.content)) (read_by partial s ls)))) [
        | true ↦ no_more_front partial p d
        | false ↦ after_front p (judge s.columns s.most (p.lines + 1) (without_cr l.content)) (read_by partial s ls) (λ q e. read_front partial ls q e) d
      ]
