-- What it takes to take the next piece in: the parts that meet are of rows that follow one another.
use Rattle.std.proofs.Common.{◌≡◌, ℕ, List, ◌++◌, nat_lt, nat_le, T, sym, ◌∙◌, ap, subst, nat_cmp, arith}
use Rattle.std.proofs.lemmas.List.{map-append}
use Rattle.std.specs.FinMap.{get, entries, from_entries, is_sorted, retain_keys}
use Rattle.saber_plan.specs.Trees.{Tree}
use Rattle.saber_plan.specs.Merges.{both}
use Rattle.saber_plan.specs.Parts.{Part, merge}
use Rattle.saber_plan.specs.Tasks.{Parts, Piece, piece_between, written_by, left_by}
use Rattle.saber_plan.specs.Shares.{Shares, entries_in, piece_in}
use Rattle.saber_laws.specs.Shares.{Between}
use Rattle.saber_laws.proofs.SharesLaws.{shares_make_piece, shares_rise}
use Rattle.saber_laws.proofs.OpenLaws.{open_parts_are, piece_parts_are}
use Rattle.saber_fragment.specs.declared.pieces.Piece.{Piece as Piece_of}
use Rattle.saber_fragment.specs.Shown.{windows_by, shares_of}
use Rattle.saber_parts.specs.Stored.{CanTakeIn, lines_of}
use Rattle.saber_fragment.specs.Stores.{Continues}

between_of : (q : Tree) (m : Parts) (s : Shares) (c : Continues q m s) → Between q c.input c.from c.to
between_of q m s c = record { fits = c.windows; ordered = c.fits.ordered; rises = c.rises }

-- its windows rise
pub rising_now : (q : Tree) (m : Parts) (s : Shares) → Continues q m s → T (is_sorted nat_cmp (entries_in s))
rising_now q m s c = subst (λ t. T (is_sorted nat_cmp (entries_in t))) (sym c.shares_are) (shares_rise q c.input c.from c.to (between_of q m s c))

piece_is : (q : Tree) (m : Parts) (s : Shares) (c : Continues q m s) → piece_in s ≡ piece_between q c.input c.from c.to
piece_is q m s c = ap piece_in c.shares_are ∙ shares_make_piece q c.input c.from c.to (between_of q m s c)

-- parts that meet are of rows that follow one another
pub can_take_in : (q : Tree) (m : Parts) (s : Shares) → Continues q m s → CanTakeIn q m (from_entries (entries_in s))
can_take_in q m s c = record {
  at = λ i a b f g.
      let h = between_of q m s c in
      record {
        window = i;
        rows = c.input.rows;
        from = 0;
        seam = c.from;
        to = c.to;
        fits = c.fits;
        rises = omega arith;
        rises_on = c.rises;
        first = open_parts_are q c.input c.from c.to h i a (sym (ap (λ (n : Parts). get n i) c.unclosed_is) ∙ f);
        second = piece_parts_are q c.input c.from c.to h i b (sym (ap (λ (p : Piece). get p.parts i) (piece_is q m s c)) ∙ g);
      };
}

abbrev pub taken_now_of : Parts → List (ℕ × Part) → Parts
taken_now_of m l = both merge m (from_entries l)

-- ---- what comes of it

pub shown_joined : {P : Type 0} (shown : P → Part) (piece : Piece_of P) (all : List (ℕ × P)) → all ≡ piece.closing ++ (piece.pending ++ piece.opening) → windows_by shown all ≡ entries_in (shares_of shown piece)
shown_joined shown piece all e = ap (windows_by shown) e ∙ map-append (λ x. (x.0, shown x.1)) piece.closing (piece.pending ++ piece.opening) ∙ ap (λ l. windows_by shown piece.closing ++ l) (map-append (λ x. (x.0, shown x.1)) piece.pending piece.opening)

pub left_is : (q : Tree) (m : Parts) (s : Shares) (all : List (ℕ × Part)) (rest : Parts) → all ≡ entries_in s → rest ≡ retain_keys (both merge m (from_entries all)) (λ i. nat_le s.closed i) → rest ≡ left_by q m (piece_in s)
unfolding left_by
left_is q m s all rest e h = h ∙ ap (λ l. retain_keys (both merge m (from_entries l)) (λ i. nat_le s.closed i)) e

pub written_is : (q : Tree) (m : Parts) (s : Shares) (all : List (ℕ × Part)) (below : List (ℕ × Part)) (out : List ℕ) → all ≡ entries_in s → below ≡ entries (retain_keys (both merge m (from_entries all)) (λ i. nat_lt i s.closed)) → out ≡ lines_of q below ++ s.lines → out ≡ written_by q m (piece_in s)
unfolding written_by
written_is q m s all below out e h w = w ∙ ap (λ l. lines_of q l ++ s.lines) (h ∙ ap (λ l. entries (retain_keys (both merge m (from_entries l)) (λ i. nat_lt i s.closed))) e)
