-- Parts of rows in one list, as more come.
use Rattle.std.proofs.Common.{◌≡◌, ◌<◌, ℕ, zero, suc, List, [], ◌∷◌, ◌++◌, length, length-append, map, get_or, Option, Some, None, refl, sym, ◌∙◌, ap, subst, arith}
use Rattle.std.specs.List.{AllByRecursion}
use Rattle.saber_plan.specs.Parts.{Part, no_part}
use Rattle.saber_partition.specs.declared.pieces.RowPiece.{RowPiece}
use Rattle.saber_partition.specs.Pieces.{IsPlace, Grew}
use Rattle.saber_partition.specs.Streams.{part_in}
use Rattle.saber_partition.specs.Stores.{made_of, HasPart}

pub all_push : {A : Type 0} (P : A → Type 0) (xs : List A) (x : A) → AllByRecursion P xs → P x → AllByRecursion P (xs ++ x ∷ [])
all_push P [] x h g = (g, tt)
all_push P (y ∷ xs) x h g = (h.0, all_push P xs x h.1 g)

-- ---- those that were there stay

at_front : (ps more : List Part) (i : ℕ) → i < length ps → get_or (ps ++ more) i no_part ≡ get_or ps i no_part
at_front [] more i h = absurd (omega (arith, h))
at_front (p ∷ ps) more zero h = refl
at_front (p ∷ ps) more (suc i) h = at_front ps more i (omega (arith, h))

part_stays : (ps more : List Part) (o : Option ℕ) → IsPlace ps o → part_in (ps ++ more) o ≡ part_in ps o
part_stays ps more None h = refl
part_stays ps more (Some i) h = at_front ps more i h

place_stays : (ps more : List Part) (o : Option ℕ) → IsPlace ps o → IsPlace (ps ++ more) o
place_stays ps more None h = tt
place_stays ps more (Some i) h = let long = length-append ps more in omega (arith, h, long)

made_stay : (ps more : List Part) (rs : List RowPiece) → AllByRecursion (HasPart ps) rs → map (made_of (ps ++ more)) rs ≡ map (made_of ps) rs
made_stay ps more [] h = refl
made_stay ps more (r ∷ rs) h = λ i. record { list = r.list.items; place = r.place; part = part_stays ps more r.part h.0 i } ∷ made_stay ps more rs h.1 i

there_stay : (ps more : List Part) (rs : List RowPiece) → AllByRecursion (HasPart ps) rs → AllByRecursion (HasPart (ps ++ more)) rs
there_stay ps more [] h = tt
there_stay ps more (r ∷ rs) h = (place_stays ps more r.part h.0, there_stay ps more rs h.1)

pub still_made : (ps qs : List Part) (rs : List RowPiece) → Grew ps qs → AllByRecursion (HasPart ps) rs → map (made_of qs) rs ≡ map (made_of ps) rs
still_made ps qs rs g h = ap (λ l. map (made_of l) rs) g.all ∙ made_stay ps g.more rs h

pub still_there : (ps qs : List Part) (rs : List RowPiece) → Grew ps qs → AllByRecursion (HasPart ps) rs → AllByRecursion (HasPart qs) rs
still_there ps qs rs g h = subst (λ l. AllByRecursion (HasPart l) rs) (sym g.all) (there_stay ps g.more rs h)
