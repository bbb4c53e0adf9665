-- The last line of a source, and lines that are too long to be held.
use Rattle.std.proofs.Common.{◌≡◌, ℕ, ◌+◌, ◌<◌, ◌≤◌, length, arith, List, [], ◌∷◌, ◌++◌, Bool, true, false, None, refl, ◌∙◌, ap}
use Rattle.std.proofs.lemmas.List.{take_all, drop_all}
use Rattle.saber_plan.specs.declared.rows.RowCause.{RowCause}
use Rattle.saber_plan.specs.Rows.{Line, all_read, refused, judge, timed_line, after_line, read_by, lines_of, onto_line, without_cr, bad}
use Rattle.saber_plan.specs.Facts.Lines.{length-without_cr, long_known}
use Rattle.saber_rows.specs.LineFeeds.{onto_lines, HasNoFeed}
use Rattle.saber_rows.specs.Reader.{Reader}
use Rattle.saber_rows.specs.Turns.{Fronts, Steps, same}
use Rattle.saber_rows.proofs.LineSteps.{read_cons, with_over, knows}
use Rattle.saber_rows.proofs.ReadSteps.{onto_none, rest_unknown}

-- ---- the end

-- a reader that saw the end and holds no byte knows the end
pub empty_done : (r : Reader) → r.over ≡ None → r.ended ≡ true → r.held ≡ [] → Steps same r (with_over r all_read)
unfolding read_by lines_of
empty_done r over ended e = knows r all_read (λ partial z follow. rest_unknown r over partial z
    ∙ ap (λ h. read_by partial r.rules (lines_of (h ++ z)) r.place) e
    ∙ ap (λ w. read_by partial r.rules (lines_of w) r.place) (follow ended).1
    ∙ ap (λ b. read_by b r.rules [] r.place) (follow ended).0)

last_alone : (held : List ℕ) → 0 < length held → onto_lines held [] ≡ record { content = held; whole = false } ∷ []
last_alone [] h = absurd (omega arith)
last_alone (b ∷ bs) h = onto_none b bs

-- bytes with no line feed at the end are a last line
pub last_line : (held : List ℕ) (n : ℕ) → HasNoFeed held → 0 < length held → n ≡ length held → Fronts false held n n
unfolding lines_of
last_line held n feed h e z empty = rw (empty refl) (feed [] ∙ last_alone held h ∙ rw (take_all n held (omega arith), drop_all n held (omega arith)) refl)

-- ---- lines that are too long

onto_first : (b : ℕ) (bs : List ℕ) (ls : List Line) → (l : Line) × (rest : List Line) × (onto_lines (b ∷ bs) ls ≡ l ∷ rest) × (length (b ∷ bs) ≤ length l.content)
onto_first b [] [] = (_, _, refl, omega arith)
onto_first b [] (l ∷ ls) = (record { content = b ∷ l.content; whole = l.whole }, ls, refl, omega arith)
onto_first b (c ∷ cs) ls =
    let (l, rest, e, h) = onto_first c cs ls in
    (record { content = b ∷ l.content; whole = l.whole }, rest, ap (onto_line b) e, omega (arith, h))

-- what a long line comes to, by its judgement
pub long_done : (r : Reader) (c : RowCause) → r.over ≡ None → 4097 < length r.held → HasNoFeed r.held → ((content : List ℕ) → 4096 < length content → judge r.rules.columns r.rules.most (r.place.lines + 1) content ≡ refused c)
    → Steps same r (with_over r (bad r.rules.side (r.place.lines + 1) c))
long_done r c over long feed judged = knows r (bad r.rules.side (r.place.lines + 1) c) (λ partial z follow. rest_unknown r over partial z ∙ ap (λ ls. read_by partial r.rules ls r.place) (feed z) ∙ by_held partial z r.held long) where
  by_held : (partial : Bool) (z : List ℕ) (held : List ℕ) → 4097 < length held → read_by partial r.rules (onto_lines held (lines_of z)) r.place ≡ record { rows = r.place.accepted; end = bad r.rules.side (r.place.lines + 1) c }
  by_held partial z [] h = absurd (omega arith)
  by_held partial z (b ∷ bs) h =
      let (l, rest, e, k) = onto_first b bs (lines_of z) in
      ap (λ ls. read_by partial r.rules ls r.place) e ∙ read_cons partial r.rules l rest r.place (long_known partial l (omega (arith, k)))
      ∙ ap (λ j. after_line r.rules r.place (timed_line r.rules r.place j) (read_by partial r.rules rest)) (judged (without_cr l.content) (omega (arith, length-without_cr l.content, k)))
