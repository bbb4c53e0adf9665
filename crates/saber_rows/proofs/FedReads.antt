-- A reader over a feed.
use Rattle.std.proofs.Common.{◌≡◌, ℕ, ◌≤◌, List, [], ◌∷◌, ◌++◌, length, take, Bool, true, false, Option, Some, refl, sym, ◌∙◌, ap, arith}
use Rattle.std.proofs.lemmas.List.{append-nil}
use Rattle.saber_io.specs.declared.feeds.Fed.{Fed}
use Rattle.saber_io.specs.declared.feeds.EndMark.{EndMark}
use Rattle.saber_io.specs.Outside.{left_before}
use Rattle.saber_io.specs.Feeds.{Feeds}
use Rattle.saber_plan.specs.Rows.{before}
use Rattle.saber_rows.specs.Buffer.{Gains}
use Rattle.saber_rows.specs.FedSizes.{size_of, Tells}

-- ---- what a feed gave

-- as what a source gives
pub fed_given : (fed : Fed) (w w' : List ℕ) (mark : Option EndMark) (buf : List ℕ) → Feeds w w' mark buf fed → Some w ≡ left_before (take (size_of fed) buf) (Some w')
fed_given (Fed.Bytes n) w w' mark buf h = ap Some h.2
fed_given Fed.End w w' mark buf h = ap Some (h.0.0 ∙ sym h.0.1)
fed_given Fed.NotYet w w' mark buf h = ap Some (h.0.0 ∙ sym h.0.1)

pub fed_fits : (fed : Fed) (w w' : List ℕ) (mark : Option EndMark) (buf : List ℕ) → Feeds w w' mark buf fed → size_of fed ≤ length buf
fed_fits (Fed.Bytes n) w w' mark buf h = h.1
fed_fits Fed.End w w' mark buf h = omega arith
fed_fits Fed.NotYet w w' mark buf h = omega arith

pub fed_tells : (fed : Fed) (w w' : List ℕ) (mark : Option EndMark) (buf : List ℕ) → length buf ≤ 4096 → Feeds w w' mark buf fed → Tells w w' mark fed
fed_tells (Fed.Bytes n) w w' mark buf few h = let fits : n ≤ length buf = h.1 in (h.0, omega (arith, few, fits))
fed_tells Fed.End w w' mark buf few h = h
fed_tells Fed.NotYet w w' mark buf few h = h

-- the same number of bytes
pub resized : (m n : ℕ) (old new : List ℕ) (had has : Option (List ℕ)) → m ≡ n → Gains m old new had has → Gains n old new had has
resized m n old new had has e g = record { taken = g.taken; count = g.count ∙ e; behind = g.behind; left = g.left }

none_taken : (xs : List ℕ) → length xs ≡ 0 → xs ≡ []
none_taken [] e = refl
none_taken (x ∷ xs) e = absurd (omega arith)

-- no byte came, so the same are held
pub none_gained : (old new : List ℕ) (had has : Option (List ℕ)) → Gains 0 old new had has → new ≡ old
none_gained old new had has g = g.behind ∙ ap (λ t. old ++ t) (none_taken g.taken g.count) ∙ append-nil old

-- ---- the end of a feed

-- a reader sees the end in what came before or in this turn
pub later_marked : {M : Type 0} (mark end : Option M) (ended b : Bool) → ended ≡ b → (ended ≡ true → mark ≡ end) → (ended ≡ false → mark ≡ end) → mark ≡ end
later_marked mark end ended true e before now = before e
later_marked mark end ended false e before now = now e
