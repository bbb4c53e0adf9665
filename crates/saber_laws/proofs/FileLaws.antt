-- The rows of a file: each is one of the file's side, and they come in order of time.
use Rattle.std.proofs.Common.{◌≡◌, ℕ, ◌+◌, ◌≤◌, List, [], ◌∷◌, ◌++◌, filter, length, Bool, true, false, cond, not, ◌&&◌, nat_lt, nat_le, Option, Some, None, ℤ, refl, sym, ◌∙◌, ap, append-nil, append_assoc, arith}
use Rattle.std.specs.List.{AllByRecursion}
use Rattle.std.proofs.lemmas.List.{length-map}
use Rattle.std.proofs.lemmas.Bool.{eqb-true}
use Rattle.std.proofs.lemmas.Bool.Decides.{nat_tests}
use Rattle.saber_plan.specs.declared.rows.Row.{Row}
use Rattle.saber_plan.specs.declared.rows.RowCause.TheVariants.{TooManyLines, TooLong, FieldCount, TimeOrder, TooManyHeld}
use Rattle.saber_plan.specs.declared.windows.Mark.{Mark}
use Rattle.saber_plan.specs.Rows.{RowFits, stamp, Line, Read, before, SideRules, Place, Judged, skipped, taken, refused, judge, judge_fields, judge_numbers, timed_line, late, falls, crowds, is_due, due, raised_time, in_time, accept, without_cr, bad_field, fields_of, wide_field, numbers, is_known, no_more, after_line, read_by, lines_of, start, all_read, cut, bad}
use Rattle.saber_plan.specs.Windows.{no_rows, step_mark, in_order, Ordered}
use Rattle.saber_laws.specs.Inputs.{FileRows, FileRowsFit, PlainFiles, plain_by, plain_end, after_plain}

-- ---- a line that is taken

judged_case : (a b c d : Bool) (j : Judged) (zs : List ℤ) → cond a (refused TooManyLines) (cond b skipped (cond c (refused TooLong) (cond d j (refused FieldCount)))) ≡ taken zs → (a ≡ false) × (d ≡ true) × (j ≡ taken zs)
judged_case true b c d j zs e = cc
judged_case false true c d j zs e = cc
judged_case false false true d j zs e = cc
judged_case false false false true j zs e = (refl, refl, e)
judged_case false false false false j zs e = cc

same_numbers : (ys zs : List ℤ) → taken ys ≡ taken zs → ys ≡ zs
same_numbers ys zs e = cc

numbers_taken : (ys zs : List ℤ) (o : Option ℕ) → wide_field 1 ys ≡ o → judge_numbers ys o ≡ taken zs → (wide_field 1 ys ≡ None) × (ys ≡ zs)
numbers_taken ys zs (Some k) e h = cc
numbers_taken ys zs None e h = (e, same_numbers ys zs h)

fields_taken : (fs : List (List ℕ)) (zs : List ℤ) (o : Option ℕ) → judge_fields fs o ≡ taken zs → (wide_field 1 (numbers fs) ≡ None) × (numbers fs ≡ zs)
fields_taken fs zs (Some k) h = cc
fields_taken fs zs None h = numbers_taken (numbers fs) zs _ refl h

-- what a line keeps that is a row
record Kept (columns most number : ℕ) (zs : List ℤ) : Type 0 where
  low : nat_lt most number ≡ false
  count : length zs ≡ columns
  range : wide_field 1 zs ≡ None

judge_kept : (columns most number : ℕ) (content : List ℕ) (zs : List ℤ) → judge columns most number content ≡ taken zs → Kept columns most number zs
unfolding judge
judge_kept columns most number content zs h =
    let c = judged_case _ _ _ _ _ zs h in
    let f = fields_taken (fields_of content) zs (bad_field 1 (fields_of content)) c.2 in
    record {
      low = c.0;
      count = ap length (sym f.1) ∙ length-map (fields_of content) _ ∙ eqb-true (length (fields_of content)) columns c.1;
      range = ap (wide_field 1) (sym f.1) ∙ f.0;
    }

-- ---- rows in order of time

-- no timestamp falls, from this one on
abbrev pub From : ℕ → List Row → Type 0
From t [] = Unit {0}
From t (x ∷ xs) = (nat_le t (stamp x.values) ≡ true) × From (stamp x.values) xs

through : (t u v : ℕ) → nat_le t u ≡ true → nat_le u v ≡ true → nat_le t v ≡ true
through t u v e f = grind (arith, nat_tests)

from_less : (t u : ℕ) (xs : List Row) → nat_le t u ≡ true → From u xs → From t xs
from_less t u [] e h = tt
from_less t u (x ∷ xs) e h = (through t u (stamp x.values) e h.0, h.1)

from_filter : (f : Row → Bool) (t : ℕ) (xs : List Row) → From t xs → From t (filter f xs)
from_filter f t [] h = tt
from_filter f t (x ∷ xs) h = elim (f x) as (λ b. From t (cond b (x ∷ filter f xs) (filter f xs))) [
  | true ↦ (h.0, from_filter f (stamp x.values) xs h.1)
  | false ↦ from_less t (stamp x.values) (filter f xs) h.0 (from_filter f (stamp x.values) xs h.1)
]

not_less : (t u : ℕ) → nat_lt t u ≡ false → nat_le u t ≡ true
not_less t u e = grind (arith, nat_tests)

less : (t u : ℕ) → nat_lt t u ≡ true → nat_le t u ≡ true
less t u e = grind (arith, nat_tests)

from_by : (t : ℕ) (r x : Row) (xs : List Row) → nat_le t (stamp r.values) ≡ true → From t (x ∷ xs) → (nat_le (stamp x.values) (stamp r.values) ≡ true → From (stamp x.values) (in_time r xs)) → (b : Bool) → nat_lt (stamp r.values) (stamp x.values) ≡ b → From t (cond b (r ∷ x ∷ xs) (x ∷ in_time r xs))
from_by t r x xs e h rest true k = (e, (less (stamp r.values) (stamp x.values) k, h.1))
from_by t r x xs e h rest false k = (h.0, rest (not_less (stamp r.values) (stamp x.values) k))

pub from_in_time : (t : ℕ) (r : Row) (xs : List Row) → nat_le t (stamp r.values) ≡ true → From t xs → From t (in_time r xs)
from_in_time t r [] e h = (e, tt)
from_in_time t r (x ∷ xs) e h = from_by t r x xs e h (λ k. from_in_time (stamp x.values) r xs k h.1) (nat_lt (stamp r.values) (stamp x.values)) refl

from_ordered : (m : Mark) (t : ℕ) (xs : List Row) → m.ended ≡ false → ((u : ℕ) → nat_le t u ≡ true → in_order m.last u ≡ true) → From t xs → Ordered m xs
unfolding Ordered
from_ordered m t [] e h f = tt
from_ordered m t (x ∷ xs) e h f = ((λ i. not (e i) && in_order m.last (stamp x.values)) ∙ h (stamp x.values) f.0, from_ordered (step_mark m x) (stamp x.values) xs e (λ u k. k) f.1)

-- ---- each row fits, and there are few

all_in_time : (P : Row → Type 0) (r : Row) (xs : List Row) → P r → AllByRecursion P xs → AllByRecursion P (in_time r xs)
all_in_time P r [] p h = (p, tt)
all_in_time P r (x ∷ xs) p h = elim (nat_lt (stamp r.values) (stamp x.values)) as (λ b. AllByRecursion P (cond b (r ∷ x ∷ xs) (x ∷ in_time r xs))) [
  | true ↦ (p, h)
  | false ↦ (h.0, all_in_time P r xs p h.1)
]

all_filter : (P : Row → Type 0) (f : Row → Bool) (xs : List Row) → AllByRecursion P xs → AllByRecursion P (filter f xs)
all_filter P f [] h = tt
all_filter P f (x ∷ xs) h = elim (f x) as (λ b. AllByRecursion P (cond b (x ∷ filter f xs) (filter f xs))) [ true ↦ (h.0, all_filter P f xs h.1) | false ↦ all_filter P f xs h.1 ]

length_in_time : (r : Row) (xs : List Row) → length (in_time r xs) ≡ length xs + 1
length_in_time r [] = refl
length_in_time r (x ∷ xs) = elim (nat_lt (stamp r.values) (stamp x.values)) as (λ b. length (cond b (r ∷ x ∷ xs) (x ∷ in_time r xs)) ≡ length (x ∷ xs) + 1) [
  | true ↦ omega arith
  | false ↦ omega (arith, length_in_time r xs)
]

length_filter : (f : Row → Bool) (xs : List Row) → length (filter f xs) ≤ length xs
length_filter f [] = omega arith
length_filter f (x ∷ xs) = elim (f x) as (λ b. length (cond b (x ∷ filter f xs) (filter f xs)) ≤ length (x ∷ xs)) [
  | true ↦ omega (arith, length_filter f xs)
  | false ↦ omega (arith, length_filter f xs)
]

-- rows of a side in order, no more than it may have
record Good (s : SideRules) (xs : List Row) : Type 0 where
  fit : AllByRecursion (RowFits s.side s.columns) xs
  from : From 0 xs
  few : length xs ≤ s.most

-- and no more than lines are behind
record Held (s : SideRules) (p : Place) : Type 0 where
  good : Good s p.accepted
  lined : length p.accepted ≤ p.lines

good_due : (s : SideRules) (p : Place) → Held s p → Good s (due s p)
good_due s p h = record {
  fit = all_filter (RowFits s.side s.columns) (is_due s.slack p.high) p.accepted h.good.fit;
  from = from_filter (is_due s.slack p.high) 0 p.accepted h.good.from;
  few = omega (arith, length_filter (is_due s.slack p.high) p.accepted, h.good.few);
}

good_end : (partial : Bool) (s : SideRules) (p : Place) → Held s p → Good s (no_more partial s p).rows
good_end true s p h = good_due s p h
good_end false s p h = h.good

not_above : (most number : ℕ) → nat_lt most number ≡ false → number ≤ most
not_above most number h = grind (arith, nat_tests)

pub not_negative : (n : ℕ) → nat_le 0 n ≡ true
not_negative n = grind (arith, nat_tests)

held_more : (s : SideRules) (p : Place) (zs : List ℤ) → Kept s.columns s.most (p.lines + 1) zs → Held s p → Held s (accept s p zs)
held_more s p zs k h = let row : Row = record { side = s.side; values = zs } in record {
  good = record {
    fit = all_in_time (RowFits s.side s.columns) row p.accepted (record { own = refl; count = k.count; range = k.range }) h.good.fit;
    from = from_in_time 0 row p.accepted (not_negative (stamp zs)) h.good.from;
    few = omega (arith, length_in_time row p.accepted, not_above s.most (p.lines + 1) k.low, h.lined);
  };
  lined = omega (arith, length_in_time row p.accepted, h.lined);
}

abbrev Goes : SideRules → (Place → Read) → Type 0
Goes s rest = (q : Place) → Held s q → Good s (rest q).rows

after_good : (s : SideRules) (p : Place) (j : Judged) (rest : Place → Read) → ((zs : List ℤ) → j ≡ taken zs → Kept s.columns s.most (p.lines + 1) zs) → Goes s rest → Held s p → Good s (after_line s p (timed_line s p j) rest).rows
after_good s p skipped rest k go h = go (record { lines = p.lines + 1; high = p.high; accepted = p.accepted }) (record { good = h.good; lined = omega (arith, h.lined) })
after_good s p (refused c) rest k go h = h.good
after_good s p (taken zs) rest k go h = elim (late s.slack p.high zs) as (λ b. Good s (after_line s p (cond b (refused TimeOrder) (cond (crowds s p zs) (refused TooManyHeld) (taken zs))) rest).rows) [
  | true ↦ h.good
  | false ↦ elim (crowds s p zs) as (λ b. Good s (after_line s p (cond b (refused TooManyHeld) (taken zs)) rest).rows) [
    | true ↦ h.good
    | false ↦ go (accept s p zs) (held_more s p zs (k zs refl) h)
  ]
]

read_good : (partial : Bool) (s : SideRules) (ls : List Line) (p : Place) → Held s p → Good s (read_by partial s ls p).rows
unfolding read_by
read_good partial s [] p h = good_end partial s p h
read_good partial s (l ∷ ls) p h =
    let j = judge s.columns s.most (p.lines + 1) (without_cr l.content) in
    elim (partial && not (is_known l)) as (λ b. Good s (cond {A = Read} b (no_more partial s p) (after_line s p (timed_line s p j) (read_by partial s ls))).rows) [
      | true ↦ good_end partial s p h
      | false ↦ after_good s p j (read_by partial s ls) (λ zs e. judge_kept s.columns s.most (p.lines + 1) (without_cr l.content) zs e) (λ q k. read_good partial s ls q k) h
    ]

file_fits : (partial : Bool) (s : SideRules) (ls : List Line) → FileRows s (read_by partial s ls start).rows
file_fits partial s ls =
    let g = read_good partial s ls start (record { good = record { fit = tt; from = tt; few = omega arith }; lined = omega arith }) in
    record { fit = g.fit; ordered = from_ordered no_rows 0 (read_by partial s ls start).rows refl (λ u k. refl) g.from; few = g.few }

pub file_rows_fit : FileRowsFit
file_rows_fit s bytes = file_fits false s (lines_of bytes)

-- ---- without slack

-- all rows that are held are due
abbrev AllDue : SideRules → Option ℕ → List Row → Type 0
AllDue s high xs = AllByRecursion (λ (x : Row). is_due s.slack high x ≡ true) xs

pub due_stays : (slack : ℕ) (high : Option ℕ) (t : ℕ) (x : Row) → is_due slack high x ≡ true → is_due slack (Some (raised_time high t)) x ≡ true
due_stays slack None t x e = cc
due_stays slack (Some h) t x e = grind (arith, nat_tests)

all_stay : (s : SideRules) (high : Option ℕ) (t : ℕ) (xs : List Row) → AllDue s high xs → AllDue s (Some (raised_time high t)) xs
all_stay s high t [] h = tt
all_stay s high t (x ∷ xs) h = (due_stays s.slack high t x h.0, all_stay s high t xs h.1)

all_due : (s : SideRules) (high : Option ℕ) (xs : List Row) → AllDue s high xs → filter (is_due s.slack high) xs ≡ xs
all_due s high [] h = refl
all_due s high (x ∷ xs) h = ap (λ b. cond b (x ∷ filter (is_due s.slack high) xs) (filter (is_due s.slack high) xs)) h.0 ∙ ap (λ ys. x ∷ ys) (all_due s high xs h.1)

none_wait : (s : SideRules) (high : Option ℕ) (xs : List Row) → AllDue s high xs → filter (λ r. not (is_due s.slack high r)) xs ≡ []
none_wait s high [] h = refl
none_wait s high (x ∷ xs) h = ap (λ b. cond (not b) (x ∷ filter (λ r. not (is_due s.slack high r)) xs) (filter (λ r. not (is_due s.slack high r)) xs)) h.0 ∙ none_wait s high xs h.1

pub not_before : (slack : ℕ) (high : Option ℕ) (zs : List ℤ) (x : Row) → late slack high zs ≡ false → is_due slack high x ≡ true → nat_lt (stamp zs) (stamp x.values) ≡ false
not_before slack None zs x l e = cc
not_before slack (Some h) zs x l e = grind (arith, nat_tests)

-- a row that is not late comes behind all that are due
behind_all : (s : SideRules) (high : Option ℕ) (r : Row) (xs : List Row) → late s.slack high r.values ≡ false → AllDue s high xs → in_time r xs ≡ xs ++ (r ∷ [])
behind_all s high r [] l h = refl
behind_all s high r (x ∷ xs) l h = ap (λ b. cond b (r ∷ x ∷ xs) (x ∷ in_time r xs)) (not_before s.slack high r.values x l h.0) ∙ ap (λ ys. x ∷ ys) (behind_all s high r xs l h.1)

at_once : (slack : ℕ) (high : Option ℕ) (t : ℕ) → slack ≡ 0 → nat_le (t + slack) (raised_time high t) ≡ true
at_once slack None t e = grind (arith, nat_tests)
at_once slack (Some h) t e = grind (arith, nat_tests)

late_falls : (slack : ℕ) (high : Option ℕ) (zs : List ℤ) → slack ≡ 0 → late slack high zs ≡ falls high zs
late_falls slack None zs e = refl
late_falls slack (Some h) zs e = let same : stamp zs + slack ≡ stamp zs = omega (arith, e) in ap (λ n. nat_lt n h) same

raised_last : (high : Option ℕ) (zs : List ℤ) → falls high zs ≡ false → raised_time high (stamp zs) ≡ stamp zs
raised_last None zs e = refl
raised_last (Some h) zs e = grind (arith, nat_tests)

none_below : (n : ℕ) → nat_lt n 0 ≡ false
none_below n = grind (arith, nat_tests)

-- these rows and then those of the read
abbrev onto : List Row → Read → Read
onto xs r = record { rows = xs ++ r.rows; end = r.end }

end_onto : (partial : Bool) (s : SideRules) (p : Place) → AllDue s p.high p.accepted → no_more partial s p ≡ onto p.accepted (plain_end partial)
end_onto true s p h = ap (λ xs. record { rows = xs; end = cut }) (all_due s p.high p.accepted h ∙ sym (append-nil p.accepted))
end_onto false s p h = ap (λ xs. record { rows = xs; end = all_read }) (sym (append-nil p.accepted))

module _ (s : SideRules) (none : s.slack ≡ 0) where
  abbrev Plain : (Place → Read) → (ℕ → Option ℕ → Read) → Type 0
  Plain rest plain = (q : Place) → AllDue s q.high q.accepted → rest q ≡ onto q.accepted (plain q.lines q.high)

  all_more : (p : Place) (zs : List ℤ) → late s.slack p.high zs ≡ false → AllDue s p.high p.accepted → AllDue s (Some (raised_time p.high (stamp zs))) (in_time (record { side = s.side; values = zs }) p.accepted)
  all_more p zs l h =
      all_in_time (λ (x : Row). is_due s.slack (Some (raised_time p.high (stamp zs))) x ≡ true) (record { side = s.side; values = zs }) p.accepted (at_once s.slack p.high (stamp zs) none) (all_stay s p.high (stamp zs) p.accepted h)

  taken_plain : (p : Place) (zs : List ℤ) (rest : Place → Read) (plain : ℕ → Option ℕ → Read) → Plain rest plain → AllDue s p.high p.accepted → (b : Bool) → falls p.high zs ≡ b
      → after_line s p (cond b (refused TimeOrder) (cond (crowds s p zs) (refused TooManyHeld) (taken zs))) rest
      ≡ onto p.accepted (cond b (record { rows = []; end = bad s.side (p.lines + 1) TimeOrder }) (before (record { side = s.side; values = zs }) (plain (p.lines + 1) (Some (stamp zs)))))
  taken_plain p zs rest plain go h true e = ap (λ xs. record { rows = xs; end = bad s.side (p.lines + 1) TimeOrder }) (sym (append-nil p.accepted))
  taken_plain p zs rest plain go h false e =
      let row : Row = record { side = s.side; values = zs } in
      let l : late s.slack p.high zs ≡ false = late_falls s.slack p.high zs none ∙ e in
      let more = all_more p zs l h in
      ap (λ ws. after_line s p (cond (nat_lt s.room (length ws)) (refused TooManyHeld) (taken zs)) rest) (none_wait s (Some (raised_time p.high (stamp zs))) (in_time row p.accepted) more)
      ∙ ap (λ b. after_line s p (cond b (refused TooManyHeld) (taken zs)) rest) (none_below s.room)
      ∙ go (accept s p zs) more
      ∙ ap (λ xs. onto xs (plain (p.lines + 1) (Some (raised_time p.high (stamp zs))))) (behind_all s p.high row p.accepted l h)
      ∙ ap (λ t. onto (p.accepted ++ (row ∷ [])) (plain (p.lines + 1) (Some t))) (raised_last p.high zs e)
      ∙ ap (λ xs. record { rows = xs; end = (plain (p.lines + 1) (Some (stamp zs))).end }) (append_assoc p.accepted (row ∷ []) (plain (p.lines + 1) (Some (stamp zs))).rows)

  after_same : (p : Place) (j : Judged) (rest : Place → Read) (plain : ℕ → Option ℕ → Read) → Plain rest plain → AllDue s p.high p.accepted → after_line s p (timed_line s p j) rest ≡ onto p.accepted (after_plain s p.lines p.high j plain)
  after_same p skipped rest plain go h = go (record { lines = p.lines + 1; high = p.high; accepted = p.accepted }) h
  after_same p (refused c) rest plain go h = ap (λ xs. record { rows = xs; end = bad s.side (p.lines + 1) c }) (sym (append-nil p.accepted))
  after_same p (taken zs) rest plain go h =
      ap (λ b. after_line s p (cond b (refused TimeOrder) (cond (crowds s p zs) (refused TooManyHeld) (taken zs))) rest) (late_falls s.slack p.high zs none)
      ∙ taken_plain p zs rest plain go h (falls p.high zs) refl

  read_plain : (partial : Bool) (ls : List Line) (p : Place) → AllDue s p.high p.accepted → read_by partial s ls p ≡ onto p.accepted (plain_by partial s ls p.lines p.high)
  unfolding read_by plain_by
  read_plain partial [] p h = end_onto partial s p h
  read_plain partial (l ∷ ls) p h =
      let j = judge s.columns s.most (p.lines + 1) (without_cr l.content) in
      elim (partial && not (is_known l)) as (λ b. cond {A = Read} b (no_more partial s p) (after_line s p (timed_line s p j) (read_by partial s ls)) ≡ onto p.accepted (cond b (plain_end partial) (after_plain s p.lines p.high j (plain_by partial s ls)))) [
        | true ↦ end_onto partial s p h
        | false ↦ after_same p j (read_by partial s ls) (plain_by partial s ls) (λ q k. read_plain partial ls q k) h
      ]

pub files_are_plain : PlainFiles
files_are_plain s bytes none = read_plain s none false (lines_of bytes) start tt
