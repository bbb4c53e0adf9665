-- Parts that follow one another, each with the number of the first window that doesn't have it, and what each comes to with those behind it.
use Rattle.std.specs.Prelude.{◌≡◌, ℕ, Bool, true, false, List, [], ◌∷◌, ◌++◌, map, if◌then◌else◌, nat_le, nat_lt, Option, Some, None, ◌⊎◌, refl}
use Rattle.std.specs.List.{AllByRecursion}
use Rattle.std.specs.Coded.{Coded, code_by, coded×, coded_ℕ, coded_list}
use Rattle.saber_plan.specs.Codes.{coded_part}
use Rattle.saber_plan.specs.Parts.{Part, no_part, merge}
use Rattle.saber_partial.specs.Tallies.{CanMerge}

-- parts with their numbers
abbrev pub Entries : Type 0
Entries = List (ℕ × Part)

abbrev pub coded_entries : Coded Entries
coded_entries = coded_list (coded× coded_ℕ coded_part)

-- parts with their numbers, and how many steps may still be taken for them
pub record Queue : Type 0 where
  pub entries : Entries
  pub owed : ℕ

abbrev pub coded_queue : Coded Queue
coded_queue = code_by (Entries × ℕ) (coded× coded_entries coded_ℕ) (λ q. (q.entries, q.owed)) (λ p. record { entries = p.0; owed = p.1 }) (λ _. refl)

-- ---- what contracts see: each entry with the merge of its part and all behind it

-- the merge of all of them
abbrev pub whole : Entries → Part
whole [] = no_part
whole (e ∷ es) = e.1

-- a part behind them all
abbrev pub followed_entries : Part → Entries → Entries
followed_entries p es = map (λ e. (e.0, merge e.1 p)) es

-- one entry more
abbrev pub pushed_entries : Entries → ℕ → Part → Entries
pushed_entries es n p = followed_entries p es ++ (n, p) ∷ []

-- without those at the front that window i doesn't have
abbrev pub dropped_entries : ℕ → Entries → Entries
dropped_entries i [] = []
dropped_entries i (e ∷ es) = if nat_le e.0 i then dropped_entries i es else e ∷ es

-- the number of the first entry
abbrev pub first_number : Entries → Option ℕ
first_number [] = None
first_number (e ∷ es) = Some e.0

-- the number of the last entry
abbrev pub last_number : Entries → Option ℕ
last_number [] = None
last_number (e ∷ []) = Some e.0
last_number (e ∷ f ∷ es) = last_number (f ∷ es)

-- a part has come behind them all, as one entry more or into the last one, which has its number
abbrev pub Put : Entries → ℕ → Part → Entries → Type 0
Put es n p fs = (fs ≡ pushed_entries es n p) ⊎ ((last_number es ≡ Some n) × (fs ≡ followed_entries p es))

-- a part has come behind them all as one entry more, unless it is empty
abbrev pub Entered : Entries → ℕ → Part → Entries → Type 0
Entered es n p fs = ((p ≡ no_part) × (fs ≡ es)) ⊎ (fs ≡ pushed_entries es n p)

-- what window i has: the first entry that it has, and all behind it
abbrev pub part_at : Entries → ℕ → Part
part_at [] i = no_part
part_at (e ∷ es) i = if nat_lt i e.0 then e.1 else part_at es i

-- each can take in a part behind it
abbrev pub CanFollow : Part → Entries → Type 0
CanFollow p = AllByRecursion (λ (e : ℕ × Part). CanMerge e.1 p)

-- ---- what is kept: parts by themselves, and how they are seen

abbrev pub merged_part : Entries → Part
merged_part [] = no_part
merged_part (e ∷ es) = merge e.1 (merged_part es)

abbrev pub suffixes : Entries → Entries
suffixes [] = []
suffixes (e ∷ es) = (e.0, merge e.1 (merged_part es)) ∷ suffixes es

-- the last of them with a part behind it
abbrev pub joined_entries : Part → Entries → Entries
joined_entries p [] = []
joined_entries p (e ∷ []) = (e.0, merge e.1 p) ∷ []
joined_entries p (e ∷ f ∷ es) = e ∷ joined_entries p (f ∷ es)

-- each can take in those behind it
abbrev pub Chained : Entries → Type 0
Chained [] = Unit {0}
Chained (e ∷ es) = CanMerge e.1 (merged_part es) × Chained es

-- The entries of `back` have their own parts, whose merge is p. Those of `front`, before them, have the merge from theirs on to the end of `front`.
pub record Sound (front back : Entries) (p : Part) : Type 0 where
  pub merge_is : p ≡ merged_part back
  pub chained : Chained back
  pub joins : CanFollow p front

-- Or the back is still to become the front, which has none, and no merge is kept.
abbrev pub IsSound : Bool → Entries → Entries → Part → Type 0
IsSound false front back p = Sound front back p
IsSound true front back p = (front ≡ []) × Chained back

-- both as they are seen
abbrev pub queue_entries : Entries → Entries → Part → Entries
queue_entries front back p = followed_entries p front ++ suffixes back
