-- Rows of a feed, one after another.
use Rattle.std.proofs.Common.{◌≡◌, ℕ, ◌+◌, List, [], ◌∷◌, ◌++◌, length, ◌∙◌, ap, subst, length-append}
use Rattle.saber_plan.specs.declared.rows.Row.{Row}
use Rattle.saber_plan.specs.declared.windows.Mark.{Mark}
use Rattle.saber_plan.specs.Trees.{Tree}
use Rattle.saber_dispatch.specs.declared.ends.End.{End}
use Rattle.saber_dispatch.specs.declared.fed_reader.Got.TheVariants as gots
use Rattle.saber_dispatch.specs.declared.fed_fill.Progress.TheVariants as parts
use Rattle.saber_dispatch.specs.Sources.{Lefts}
use Rattle.saber_dispatch.specs.Readings.{Reading, Suits, Reads}
use Rattle.saber_dispatch.specs.Filling.{prepend, Took, Filling}
use Rattle.saber_dispatch.specs.FedReadings.{NextDry}
use Rattle.saber_dispatch.proofs.Fillings.{go_on, still_suits}

module _ (n : ℕ) (q : Tree) (m mark : Mark) (old mid new : Reading) (had there has : Lefts) (start kept : List Row) (f : Filling n q m mark old mid had there start kept) where
  took_dry : NextDry q mark mid new there has → Took q m old new had has f.rows
  took_dry d = record {
    moves = go_on (prepend f.rows) (λ rest. rest) old mid new had there has f.took.moves d.moves;
    fits = f.took.fits;
    ordered = f.took.ordered;
    reads = subst (λ k. Reads q k new) f.mark d.reads;
  }

  -- nothing is there as yet, so the same rows were read
  pub filling_dry : NextDry q mark mid new there has → Filling n q m mark old new had has start kept
  filling_dry d = record { rows = f.rows; took = took_dry d; mark = f.mark; kept = f.kept; count = f.count }

  pub filling_suits : Suits mid there
  filling_suits = still_suits (prepend f.rows) old mid had there f.took.moves

-- so many rows were read, with one more
pub one_longer : (xs ys : List Row) (x : Row) → ys ≡ xs ++ x ∷ [] → length ys ≡ length xs + 1
one_longer xs ys x e = ap length e ∙ length-append xs (x ∷ [])

pub as_part : (a b : End) → gots.Ended a ≡ gots.Ended b → parts.Ended a ≡ parts.Ended b
as_part a b e = let same : a ≡ b = cc in ap (λ x. parts.Ended x) same

pub row_not_end : (row : Row) (end : End) → gots.Row row ≡ gots.Ended end → ⊥
row_not_end row end e = cc
