-- What was read so far is the front of all that is read.
use Rattle.std.proofs.Common.{◌≡◌, ℕ, ◌+◌, ◌<◌, ◌≤◌, List, [], ◌∷◌, ◌++◌, length, Bool, true, false, cond, not, ◌&&◌, ◌==◌, nat_lt, nat_le, ◌⊎◌, inl, inr, ⊎_elim, refl, sym, ◌∙◌, ap, subst, append-nil, arith}
use Rattle.saber_plan.specs.declared.rows.Row.{Row}
use Rattle.saber_plan.specs.declared.rows.RowCause.TheVariants.{TooManyLines, TooLong}
use Rattle.saber_plan.specs.Rows.{Line, onto_line, lines_of, End, cut, bad, Read, before, stamp, SideRules, Place, start, Judged, skipped, taken, refused, judge_at, timed_line, accept, without_cr, is_known, no_more, after_line, read_by}
use Rattle.saber_plan.specs.Facts.Lines.{length-without_cr, judged_long, long_known, long_open}
use Rattle.saber_plan.specs.Inputs.{holds_up, alone, merged_rows}
use Rattle.saber_laws.specs.Fronts.{IsFirstOf, AllAreFirst, WholeLinesAreFirst, MergesKeepFirst}
use Rattle.saber_laws.proofs.FileLaws.{From}
use Rattle.saber_laws.proofs.DueLaws.{accepted_from, due_first}
use Rattle.saber_laws.specs.Inputs.{Begins}
use Rattle.saber_laws.proofs.InputLaws.{both_sides}

-- cut short, or all
abbrev SoFar : Read → Read → Type 0
SoFar a b = ((a.end ≡ cut) × Begins a.rows b.rows) ⊎ (a ≡ b)

so_far : (a b : Read) → IsFirstOf a b → SoFar a b
so_far a b f = ⊎_elim (λ e. inl (e, (f.rest, f.first))) (λ e. inr e) f.ends

first_of : (a b : Read) → SoFar a b → IsFirstOf a b
first_of a b = ⊎_elim
    (λ c. record { rest = c.1.0; first = c.1.1; ends = inl c.0 })
    (λ e. record { rest = []; first = append-nil a.rows ∙ ap (λ (r : Read). r.rows) e; ends = inr e })

pub all_are_first : AllAreFirst
all_are_first a = first_of a a (inr refl)

-- where nothing is known yet
nothing_yet : (b : Read) → SoFar (record { rows = []; end = cut }) b
nothing_yet b = inl (refl, (b.rows, refl))

so_before : (x : Row) (a b : Read) → SoFar a b → SoFar (before x a) (before x b)
so_before x a b = ⊎_elim (λ c. inl (c.0, (c.1.0, ap (λ l. x ∷ l) c.1.1))) (λ e. inr (ap (before x) e))

-- ---- lines

-- a line that lacks its LF, and lines of which the first begins with it
record GoesOn (l : Line) (ms : List Line) : Type 0 where
  first : Line
  rest : List Line
  are : ms ≡ first ∷ rest
  part : l.whole ≡ false
  longer : length l.content ≤ length first.content

-- lines, of which the first that lacks its LF may go on
abbrev LinesGo : List Line → List Line → Type 0
LinesGo [] ms = Unit {0}
LinesGo (l ∷ ls) ms = GoesOn l ms ⊎ ((rest : List Line) × (ms ≡ l ∷ rest) × LinesGo ls rest)

one_goes : (b : ℕ) (ms : List Line) → GoesOn (record { content = b ∷ []; whole = false }) (onto_line b ms)
one_goes b [] = record { first = record { content = b ∷ []; whole = false }; rest = []; are = refl; part = refl; longer = omega arith }
one_goes b (m ∷ ms) = record { first = record { content = b ∷ m.content; whole = m.whole }; rest = ms; are = refl; part = refl; longer = omega arith }

onto_go : (b : ℕ) (ls ms : List Line) → LinesGo ls ms → LinesGo (onto_line b ls) (onto_line b ms)
onto_go b [] ms h = inl (one_goes b ms)
onto_go b (l ∷ ls) ms h = ⊎_elim
    (λ g. inl (record { first = record { content = b ∷ g.first.content; whole = g.first.whole }; rest = g.rest; are = ap (onto_line b) g.are; part = g.part; longer = omega (arith, g.longer) }))
    (λ g. inr (g.0, ap (onto_line b) g.1, g.2))
    h

lines_go : (bytes more : List ℕ) → LinesGo (lines_of bytes) (lines_of (bytes ++ more))
unfolding lines_of
lines_go [] more = tt
lines_go (b ∷ bs) more =
    let rest = lines_go bs more in
    elim (b == 10) as (λ c. LinesGo (cond c (record { content = []; whole = true } ∷ lines_of bs) (onto_line b (lines_of bs))) (cond c (record { content = []; whole = true } ∷ lines_of (bs ++ more)) (onto_line b (lines_of (bs ++ more))))) [
      | true ↦ inr (lines_of (bs ++ more), refl, rest)
      | false ↦ onto_go b (lines_of bs) (lines_of (bs ++ more)) rest
    ]

module _ (partial : Bool) (s : SideRules) where
  abbrev Goes : (Place → Read) → (Place → Read) → Type 0
  Goes f g = (q : Place) → From 0 q.accepted → SoFar (f q) (g q)

  after_go : (p : Place) (j : Judged) (f g : Place → Read) → Goes f g → From 0 p.accepted → SoFar (after_line s p j f) (after_line s p j g)
  after_go p skipped f g h k = h (record { lines = p.lines + 1; high = p.high; accepted = p.accepted }) k
  after_go p (taken zs) f g h k = h (accept s p zs) (accepted_from s p zs k)
  after_go p (refused c) f g h k = inr refl

  -- where the lines are cut the due rows were given, which are the first
  cut_here : (ls ms : List Line) (p : Place) → read_by true s ls p ≡ no_more true s p → From 0 p.accepted → SoFar (read_by true s ls p) (read_by partial s ms p)
  cut_here ls ms p e k = subst (λ a. SoFar a (read_by partial s ms p)) (sym e) (inl (refl, due_first s partial ms p k))

  unknown : (l : Line) (ls : List Line) (p : Place) → is_known l ≡ false → read_by true s (l ∷ ls) p ≡ no_more true s p
  unfolding read_by
  unknown l ls p e = ap (λ c. cond {A = Read} (not c) (no_more true s p) (after_line s p (judge_at s p (without_cr l.content)) (read_by true s ls))) e

  known : (partly : Bool) (l : Line) (ls : List Line) (p : Place) → (partly && not (is_known l)) ≡ false → read_by partly s (l ∷ ls) p ≡ after_line s p (judge_at s p (without_cr l.content)) (read_by partly s ls)
  unfolding read_by
  known partly l ls p e = ap (λ c. cond {A = Read} c (no_more partly s p) (after_line s p (judge_at s p (without_cr l.content)) (read_by partly s ls))) e

  known_alike : (partly : Bool) (l : Line) → is_known l ≡ true → (partly && not (is_known l)) ≡ false
  known_alike partly l e = ap (λ b. partly && not b) e ∙ by_bool partly where
    by_bool : (b : Bool) → (b && false) ≡ false
    by_bool true = refl
    by_bool false = refl

  same_line : (l : Line) (ls ms : List Line) (p : Place) → Goes (read_by true s ls) (read_by partial s ms) → From 0 p.accepted → (c : Bool) → is_known l ≡ c → SoFar (read_by true s (l ∷ ls) p) (read_by partial s (l ∷ ms) p)
  same_line l ls ms p h k false e = cut_here (l ∷ ls) (l ∷ ms) p (unknown l ls p e) k
  same_line l ls ms p h k true e =
      let now = known true l ls p (known_alike true l e) in
      let then = known partial l ms p (known_alike partial l e) in
      subst (λ a. SoFar a (read_by partial s (l ∷ ms) p)) (sym now) (subst (SoFar (after_line s p (judge_at s p (without_cr l.content)) (read_by true s ls))) (sym then) (after_go p (judge_at s p (without_cr l.content)) (read_by true s ls) (read_by partial s ms) h k))

  -- of a line that is too long nothing changes with what follows
  long_read : (partly : Bool) (l : Line) (ls : List Line) (p : Place) → 4097 < length l.content → read_by partly s (l ∷ ls) p ≡ record { rows = p.accepted; end = bad s.side (p.lines + 1) (cond (nat_lt s.most (p.lines + 1)) TooManyLines TooLong) }
  long_read partly l ls p h =
      known partly l ls p (long_known partly l h)
      ∙ ap (λ j. after_line s p (timed_line s p j) (read_by partly s ls)) (judged_long s.columns s.most (p.lines + 1) (without_cr l.content) (omega (arith, length-without_cr l.content, h)))

  open_line : (l : Line) (ls ms : List Line) (p : Place) → GoesOn l ms → From 0 p.accepted → (c : Bool) → is_known l ≡ c → SoFar (read_by true s (l ∷ ls) p) (read_by partial s ms p)
  open_line l ls ms p g k false e = cut_here (l ∷ ls) ms p (unknown l ls p e) k
  open_line l ls ms p g k true e =
      let long = long_open l g.part e in
      inr (long_read true l ls p long ∙ sym (ap (λ m. read_by partial s m p) g.are ∙ long_read partial g.first g.rest p (omega (arith, long, g.longer))))

  none_read : (p : Place) → read_by true s [] p ≡ no_more true s p
  unfolding read_by
  none_read p = refl

  reads_go : (ls ms : List Line) (p : Place) → LinesGo ls ms → From 0 p.accepted → SoFar (read_by true s ls p) (read_by partial s ms p)
  reads_go [] ms p h k = cut_here [] ms p (none_read p) k
  reads_go (l ∷ ls) ms p h k = ⊎_elim
      (λ g. open_line l ls ms p g k (is_known l) refl)
      (λ g. subst (λ m. SoFar (read_by true s (l ∷ ls) p) (read_by partial s m p)) (sym g.1) (same_line l ls g.0 p (λ q f. reads_go ls g.0 q g.2 f) k (is_known l) refl))
      h

pub whole_lines_are_first : WholeLinesAreFirst
whole_lines_are_first s bytes more = record {
  at_end = first_of _ _ (reads_go false s (lines_of bytes) (lines_of (bytes ++ more)) start (lines_go bytes more) tt);
  going_on = first_of _ _ (reads_go true s (lines_of bytes) (lines_of (bytes ++ more)) start (lines_go bytes more) tt);
}

-- ---- merges

abbrev read_of : List Row → End → Read
read_of xs e = record { rows = xs; end = e }

-- the rest of what begins with one row
pub record Follows (x : Row) (xs : List Row) (e : End) (zs : List Row) (d : End) : Type 0 where
  pub rest : List Row
  pub are : zs ≡ x ∷ rest
  pub so_far : SoFar (read_of xs e) (read_of rest d)

without_first : (x : Row) (xs zs : List Row) (e d : End) → SoFar (read_of (x ∷ xs) e) (read_of zs d) → Follows x xs e zs d
without_first x xs zs e d = ⊎_elim
    (λ c. record { rest = xs ++ c.1.0; are = sym c.1.1; so_far = inl (c.0, (c.1.0, refl)) })
    (λ g. record { rest = xs; are = sym (ap (λ (r : Read). r.rows) g); so_far = inr (ap (λ (r : Read). read_of xs r.end) g) })

abbrev MergeGoes : End → End → End → End → List Row → List Row → Type 0
MergeGoes e d e' d' xs ys = (us vs : List Row) → SoFar (read_of xs e) (read_of us e') → SoFar (read_of ys d) (read_of vs d') → SoFar (merged_rows xs e ys d) (merged_rows us e' vs d')

alone_cut : (e d : End) (ys : List Row) (b : Read) → e ≡ cut → SoFar (alone e ys d) b
alone_cut e d ys b h = subst (λ c. SoFar (alone c ys d) b) (sym h) (nothing_yet b)

alone_goes : (e d d' : End) (ys vs : List Row) → SoFar (read_of ys d) (read_of vs d') → SoFar (alone e ys d) (alone e vs d')
alone_goes e d d' ys vs h = elim (holds_up e) as (λ b. SoFar (cond {A = Read} b (read_of [] e) (read_of ys d)) (cond {A = Read} b (read_of [] e) (read_of vs d'))) [ true ↦ inr refl | false ↦ h ]

no_left : (e d e' d' : End) (ys : List Row) → MergeGoes e d e' d' [] ys
unfolding merged_rows
no_left e d e' d' ys us vs h k = ⊎_elim
    (λ c. alone_cut e d ys _ c.0)
    (λ g. subst (λ (l : Read). SoFar (alone e ys d) (merged_rows l.rows l.end vs d')) g (alone_goes e d d' ys vs k))
    h

no_right : (e d e' d' : End) (x : Row) (xs : List Row) → MergeGoes e d e' d' (x ∷ xs) []
unfolding merged_rows
no_right e d e' d' x xs us vs h k =
    let left = without_first x xs us e e' h in
    ⊎_elim
    (λ c. alone_cut d e (x ∷ xs) _ c.0)
    (λ g. subst (λ (r : Read). SoFar (alone d (x ∷ xs) e) (merged_rows us e' r.rows r.end)) g
    (subst (λ l. SoFar (alone d (x ∷ xs) e) (merged_rows l e' [] d)) (sym left.are)
    (alone_goes d e e' (x ∷ xs) (x ∷ left.rest) (subst (λ l. SoFar (read_of (x ∷ xs) e) (read_of l e')) left.are h))))
    k

both_rows : (e d e' d' : End) (x : Row) (xs : List Row) (y : Row) (ys : List Row) → MergeGoes e d e' d' xs (y ∷ ys) → MergeGoes e d e' d' (x ∷ xs) ys → MergeGoes e d e' d' (x ∷ xs) (y ∷ ys)
unfolding merged_rows
both_rows e d e' d' x xs y ys left right us vs h k =
    let f = without_first x xs us e e' h in
    let g = without_first y ys vs d d' k in
    let l = left f.rest (y ∷ g.rest) f.so_far (subst (λ z. SoFar (read_of (y ∷ ys) d) (read_of z d')) g.are k) in
    let r = right (x ∷ f.rest) g.rest (subst (λ z. SoFar (read_of (x ∷ xs) e) (read_of z e')) f.are h) g.so_far in
    subst (λ z. SoFar (merged_rows (x ∷ xs) e (y ∷ ys) d) (merged_rows z e' vs d')) (sym f.are)
    (subst (λ z. SoFar (merged_rows (x ∷ xs) e (y ∷ ys) d) (merged_rows (x ∷ f.rest) e' z d')) (sym g.are)
    (elim (nat_le (stamp x.values) (stamp y.values)) as (λ b. SoFar (cond b (before x (merged_rows xs e (y ∷ ys) d)) (before y (merged_rows (x ∷ xs) e ys d)))
    (cond b (before x (merged_rows f.rest e' (y ∷ g.rest) d')) (before y (merged_rows (x ∷ f.rest) e' g.rest d')))) [
      | true ↦ so_before x _ _ l
      | false ↦ so_before y _ _ r
    ]))

merge_goes : (e d e' d' : End) (xs ys : List Row) → MergeGoes e d e' d' xs ys
merge_goes e d e' d' = both_sides (MergeGoes e d e' d') (no_left e d e' d') (no_right e d e' d') (both_rows e d e' d')

pub merges_keep_first : MergesKeepFirst
merges_keep_first l r l' r' h k = first_of _ _ (merge_goes l.end r.end l'.end r'.end l.rows r.rows l'.rows r'.rows (so_far l l' h) (so_far r r' k))
