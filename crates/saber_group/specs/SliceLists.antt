-- Slices as a list that is given away from its front.
use Rattle.std.specs.Prelude.{◌≡◌, ℕ, zero, suc, List, [], ◌∷◌, map, drop, get_or, length, ◌<◌, ◌≤◌, ◌⊎◌, Option, None, Some, ◌++◌, refl}
use Rattle.std.specs.Coded.{Coded, code_by, coded×, coded_ℕ, coded_list}
use Rattle.saber_plan.specs.Codes.{coded_part}
use Rattle.saber_plan.specs.Parts.{Part, no_part}
use Rattle.saber_sliding.specs.Entries.{Entries, CanFollow, Entered}
use Rattle.saber_group.specs.declared.slices.Slice.{Slice}
use Rattle.saber_group.specs.declared.slice_list.Span.{Span}
use Rattle.saber_group.specs.declared.slice_list.Listed.{Listed}
use Rattle.saber_group.specs.declared.slice_list.Listed.TheVariants as listed
use Rattle.saber_group.specs.SliceParts.{EnteredFrom}

abbrev pub coded_slices : Coded (List Slice)
coded_slices = coded_list (code_by (ℕ × (ℕ × (ℕ × Part))) (coded× coded_ℕ (coded× coded_ℕ (coded× coded_ℕ coded_part)))
    (λ s. (s.first, (s.past, (s.end, s.part)))) (λ p. record { first = p.0; past = p.1.0; end = p.1.1.0; part = p.1.1.1 }) (λ _. refl))

-- ---- slices whose parts stand in a list

-- the part that stands at a place, if there is one
abbrev pub part_in : List Part → Option ℕ → Part
part_in ps None = no_part
part_in ps (Some i) = get_or ps i no_part

abbrev pub slice_with : List Part → Span → Slice
slice_with ps s = record { first = s.first; past = s.past; end = s.end; part = part_in ps s.part }

-- each with its part
abbrev pub spans_left : List Part → List Span → List Slice
spans_left ps spans = map (slice_with ps) spans

-- more may have come behind parts
abbrev pub Grew : List Part → List Part → Type 0
Grew ps rs = (more : List Part) × (rs ≡ ps ++ more)

-- there is such a part, if one is meant
abbrev pub Stands : List Part → Option ℕ → Type 0
Stands ps None = Unit {0}
Stands ps (Some i) = i < length ps

-- the part is one of so many at the front, or isn't there at all among all of them
abbrev pub IsWithin : ℕ → ℕ → Option ℕ → Type 0
IsWithin n all None = Unit {0}
IsWithin n all (Some i) = (i < n) ⊎ (all ≤ i)

-- ---- slices of both forms

-- those that are not given away
abbrev pub listed_slices : Listed → List Slice
listed_slices (listed.Groups slices) = slices.items
listed_slices (listed.Ones spans next parts) = spans_left parts (drop next spans.items)

abbrev pub first_of : List Slice → ℕ → Option ℕ
first_of [] i = None
first_of (s ∷ ss) zero = Some s.first
first_of (s ∷ ss) (suc i) = first_of ss i

-- the first slice's rows follow those of entries, if there is one
abbrev pub CanEnter : List Slice → Entries → Type 0
CanEnter [] es = Unit {0}
CanEnter (s ∷ ss) es = CanFollow s.part es

-- its part has come behind others, unless it is empty
abbrev pub EnteredFirst : List Slice → Entries → Entries → Type 0
EnteredFirst [] es fs = fs ≡ es
EnteredFirst (s ∷ ss) es fs = Entered es s.past s.part fs

-- or unless no window from `low` on has it
abbrev pub EnteredFirstFrom : ℕ → List Slice → Entries → Entries → Type 0
EnteredFirstFrom low [] es fs = fs ≡ es
EnteredFirstFrom low (s ∷ ss) es fs = EnteredFrom low es s.past s.part fs
