-- The rows of a file are its accepted rows, sorted.
use Rattle.std.proofs.Common.{◌≡◌, ℕ, ◌+◌, List, [], ◌∷◌, ◌++◌, filter, Bool, true, false, cond, nat_lt, nat_le, ◌==◌, refl, sym, ◌∙◌, ap, append-nil, append_assoc, arith}
use Rattle.std.proofs.lemmas.List.Elements.{filter-append}
use Rattle.std.proofs.lemmas.Bool.Decides.{nat_tests}
use Rattle.saber_plan.specs.declared.rows.Row.{Row}
use Rattle.saber_plan.specs.Rows.{stamp, Line, Read, SideRules, Place, Judged, skipped, taken, refused, judge_at, in_time, accept, without_cr, after_line, read_by, lines_of, start}
use Rattle.saber_laws.specs.Inputs.{accepted_in, accepted_by, has_stamp, FilesAreSorted}
use Rattle.saber_laws.proofs.FileLaws.{From, from_in_time, not_negative}

later_has_not : (t u v : ℕ) → nat_lt t u ≡ true → nat_le u v ≡ true → (v == t) ≡ false
later_has_not t u v e f = grind (arith, nat_tests)

-- behind a later row there is none of this timestamp
none_later : (t u : ℕ) (xs : List Row) → nat_lt t u ≡ true → From u xs → filter (has_stamp t) xs ≡ []
none_later t u [] e h = refl
none_later t u (x ∷ xs) e h = ap (λ b. cond b (x ∷ filter (has_stamp t) xs) (filter (has_stamp t) xs)) (later_has_not t u (stamp x.values) e h.0) ∙ none_later t (stamp x.values) xs (further t u (stamp x.values) e h.0) h.1 where
  further : (t u v : ℕ) → nat_lt t u ≡ true → nat_le u v ≡ true → nat_lt t v ≡ true
  further t u v e f = grind (arith, nat_tests)

same_stamp : (t u : ℕ) → (u == t) ≡ true → u ≡ t
same_stamp t u e = grind (arith, nat_tests)

-- a row put before later ones
put_first : (t : ℕ) (r x : Row) (xs : List Row) → nat_lt (stamp r.values) (stamp x.values) ≡ true → From (stamp x.values) xs → (b : Bool) → (stamp r.values == t) ≡ b
    → cond b (r ∷ filter (has_stamp t) (x ∷ xs)) (filter (has_stamp t) (x ∷ xs)) ≡ filter (has_stamp t) (x ∷ xs) ++ cond b (r ∷ []) []
put_first t r x xs e h false k = sym (append-nil (filter (has_stamp t) (x ∷ xs)))
put_first t r x xs e h true k =
    let none : filter (has_stamp t) (x ∷ xs) ≡ [] = none_later t (stamp x.values) (x ∷ xs) (ap (λ u. nat_lt u (stamp x.values)) (sym (same_stamp t (stamp r.values) k)) ∙ e) (itself (stamp x.values), h) in
    ap (λ ys. r ∷ ys) none ∙ ap (λ ys. ys ++ (r ∷ [])) (sym none) where
      itself : (n : ℕ) → nat_le n n ≡ true
      itself n = grind (arith, nat_tests)

put_by : (t : ℕ) (r x : Row) (xs : List Row) → From (stamp x.values) xs → filter (has_stamp t) (in_time r xs) ≡ filter (has_stamp t) xs ++ filter (has_stamp t) (r ∷ []) → (b : Bool) → nat_lt (stamp r.values) (stamp x.values) ≡ b
    → filter (has_stamp t) (cond b (r ∷ x ∷ xs) (x ∷ in_time r xs)) ≡ filter (has_stamp t) (x ∷ xs) ++ filter (has_stamp t) (r ∷ [])
put_by t r x xs h rest true e = put_first t r x xs e h (stamp r.values == t) refl
put_by t r x xs h rest false e = elim (stamp x.values == t) as (λ b. cond b (x ∷ filter (has_stamp t) (in_time r xs)) (filter (has_stamp t) (in_time r xs)) ≡ cond b (x ∷ filter (has_stamp t) xs) (filter (has_stamp t) xs) ++ filter (has_stamp t) (r ∷ [])) [
  | true ↦ ap (λ ys. x ∷ ys) rest
  | false ↦ rest
]

-- a row in its place stands behind those of its timestamp
stable : (t u : ℕ) (r : Row) (xs : List Row) → From u xs → filter (has_stamp t) (in_time r xs) ≡ filter (has_stamp t) xs ++ filter (has_stamp t) (r ∷ [])
stable t u r [] h = refl
stable t u r (x ∷ xs) h = put_by t r x xs h.1 (stable t (stamp x.values) r xs h.1) (nat_lt (stamp r.values) (stamp x.values)) refl

module _ (s : SideRules) (t : ℕ) where
  abbrev Sorted : (Place → Read) → (Place → List Row) → Type 0
  Sorted rest more = (q : Place) → From 0 q.accepted → filter (has_stamp t) (rest q).rows ≡ filter (has_stamp t) q.accepted ++ filter (has_stamp t) (more q)

  none_more : (p : Place) → filter (has_stamp t) p.accepted ≡ filter (has_stamp t) p.accepted ++ []
  none_more p = sym (append-nil (filter (has_stamp t) p.accepted))

  after_sorted : (p : Place) (j : Judged) (rest : Place → Read) (more : Place → List Row) → Sorted rest more → From 0 p.accepted → filter (has_stamp t) (after_line s p j rest).rows ≡ filter (has_stamp t) p.accepted ++ filter (has_stamp t) (accepted_by s p j more)
  after_sorted p skipped rest more go h = go (record { lines = p.lines + 1; high = p.high; accepted = p.accepted }) h
  after_sorted p (refused c) rest more go h = none_more p
  after_sorted p (taken zs) rest more go h =
      let row : Row = record { side = s.side; values = zs } in
      go (accept s p zs) (from_in_time 0 row p.accepted (not_negative (stamp zs)) h)
      ∙ ap (λ xs. xs ++ filter (has_stamp t) (more (accept s p zs))) (stable t 0 row p.accepted h)
      ∙ append_assoc (filter (has_stamp t) p.accepted) (filter (has_stamp t) (row ∷ [])) (filter (has_stamp t) (more (accept s p zs)))
      ∙ ap (λ xs. filter (has_stamp t) p.accepted ++ xs) (sym (filter-append (has_stamp t) (row ∷ []) (more (accept s p zs))))

  read_sorted : (ls : List Line) (p : Place) → From 0 p.accepted → filter (has_stamp t) (read_by false s ls p).rows ≡ filter (has_stamp t) p.accepted ++ filter (has_stamp t) (accepted_in s ls p)
  unfolding read_by accepted_in
  read_sorted [] p h = none_more p
  read_sorted (l ∷ ls) p h = after_sorted p (judge_at s p (without_cr l.content)) (read_by false s ls) (accepted_in s ls) (λ q k. read_sorted ls q k) h

pub files_are_sorted : FilesAreSorted
files_are_sorted s bytes t = read_sorted s t (lines_of bytes) start tt
