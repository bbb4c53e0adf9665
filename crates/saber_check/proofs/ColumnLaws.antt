-- The columns that a query without a fault names are there.
use Rattle.std.proofs.Common.{◌≡◌, ℕ, ◌+◌, ◌<◌, ◌⊎◌, inl, inr, List, [], ◌∷◌, length, map, Bool, true, false, ◌&&◌, ◌||◌, not, Option, Some, None, option_to_list, if◌then◌else◌, refl, sym, ap, ◌∙◌, subst, arith}
use Rattle.std.specs.Option.{option_map_or}
use Rattle.saber_plan.specs.declared.rows.Side.TheVariants.{Left, Right}
use Rattle.saber_plan.specs.declared.windows.Stream.{Stream}
use Rattle.saber_plan.specs.Checked.{columns_on}
use Rattle.saber_query.specs.declared.fault.Cause.TheVariants as cause
use Rattle.saber_query.specs.declared.tree.Column.{Column}
use Rattle.saber_query.specs.declared.tree.Source.{Source}
use Rattle.saber_query.specs.declared.tree.Decl.{Decl}
use Rattle.saber_query.specs.Trees.{Query}
use Rattle.saber_check.specs.Least.{row}
use Rattle.saber_check.specs.Widths.{second_width}
use Rattle.saber_check.specs.Names.{same, among, declares, decls, names, names_stream, is_declared, has, lacks, is_from, in_first, in_second, is_unknown_stream, is_unknown_column, is_ambiguous}
use Rattle.saber_check.specs.Faults.{own_name}
use Rattle.saber_check.specs.Walked.{column_faults}
use Rattle.saber_check.specs.Plans.{place_in, place, columns, is_left, second_name, plan_place, plan_side, plan_stream, streams}
use Rattle.saber_check.proofs.NoFaults.{rows_and, is_true, or_right, not_both, same_names}

-- the streams of FROM are declared
pub record AreDeclared (q : Query) : Type 0 where
  pub first : is_declared q q.from.name ≡ true
  pub second : (s : Source) → q.second ≡ Some s → is_declared q s.name ≡ true

-- ---- places

place_in_small : (n : List ℕ) (ms : List (List ℕ)) → among n ms ≡ true → place_in n ms < length ms
place_in_small n [] e = cc
place_in_small n (m ∷ ms) e = elim (same m n) as (λ (b : Bool). (b || among n ms) ≡ true → (if b then 0 else place_in n ms + 1) < length (m ∷ ms)) [
  | true ↦ λ e. omega arith
  | false ↦ λ e. omega (arith, place_in_small n ms e)
] e

some_true : (b : Bool) → Some b ≡ Some true → b ≡ true
some_true true e = refl
some_true false e = cc

place_small : (ds : List Decl) (s n : List ℕ) → declares ds s n ≡ Some true → place ds s n < columns ds s
place_small [] s n e = cc
place_small (d ∷ ds) s n e = elim (same d.name s) as (λ (b : Bool). (if b then Some (among n (names d)) else declares ds s n) ≡ Some true → (if b then place_in n (names d) else place ds s n) < (if b then length (names d) else columns ds s)) [
  | true ↦ λ e. place_in_small n (names d) (some_true (among n (names d)) e)
  | false ↦ λ e. place_small ds s n e
] e

has_gives : (o : Option Bool) → option_map_or (λ b. b) o false ≡ true → o ≡ Some true
has_gives None e = cc
has_gives (Some true) e = refl
has_gives (Some false) e = cc

declared_answers : (ds : List Decl) (s n : List ℕ) → names_stream ds s ≡ true → option_map_or not (declares ds s n) false ≡ false → declares ds s n ≡ Some true
declared_answers [] s n t e = cc
declared_answers (d ∷ ds) s n t e = elim (same d.name s) as (λ (b : Bool). (b || names_stream ds s) ≡ true → option_map_or not (if b then Some (among n (names d)) else declares ds s n) false ≡ false → (if b then Some (among n (names d)) else declares ds s n) ≡ Some true) [
  | true ↦ λ t e. ap Some (is_true (among n (names d)) e)
  | false ↦ λ t e. declared_answers ds s n t e
] t e

-- ---- which stream a column is of

-- the column is one of the first stream, or not that and one of the second
abbrev pub Found : Query → Column → Type 0
Found q c = ((is_left q c ≡ true) × (declares (decls q) q.from.name (own_name c) ≡ Some true)) ⊎ ((is_left q c ≡ false) × ((s : Source) × (q.second ≡ Some s) × (declares (decls q) s.name (own_name c) ≡ Some true)))

in_second_gives : (q : Query) (n : List ℕ) (o : Option Source) → option_map_or (λ f. has q f.name n) o false ≡ true → (s : Source) × (o ≡ Some s) × (declares (decls q) s.name n ≡ Some true)
in_second_gives q n None e = cc
in_second_gives q n (Some s) e = (s, refl, has_gives (declares (decls q) s.name n) e)

second_named : (m : List ℕ) (o : Option Source) → option_map_or (λ (f : Source). same f.name m) o false ≡ true → (s : Source) × (o ≡ Some s) × (s.name ≡ m)
second_named m None e = cc
second_named m (Some s) e = (s, refl, same_names s.name m e)

found_bare : (q : Query) (m : List ℕ) → not (in_first q m || in_second q m) ≡ false → Found q (record { first = m; second = None })
found_bare q m e = elim (in_first q m) as (λ (b : Bool). in_first q m ≡ b → Found q (record { first = m; second = None })) [
  | true ↦ λ h. inl (h, has_gives (declares (decls q) q.from.name m) h)
  | false ↦ λ h. inr (h, in_second_gives q m q.second (or_right (in_first q m) (in_second q m) (is_true (in_first q m || in_second q m) e) h))
] refl

found_of : (q : Query) (m n : List ℕ) → AreDeclared q → not (is_from q m) ≡ false → (is_from q m && lacks q m n) ≡ false → Found q (record { first = m; second = Some n })
found_of q m n d e f =
    let t : is_from q m ≡ true = is_true (is_from q m) e in
    let l : lacks q m n ≡ false = not_both (is_from q m) (lacks q m n) f t in
    elim (same q.from.name m) as (λ (b : Bool). same q.from.name m ≡ b → Found q (record { first = m; second = Some n })) [
      | true ↦ λ h.
          let k : q.from.name ≡ m = same_names q.from.name m h in
          let l' : lacks q q.from.name n ≡ false = ap (λ s. lacks q s n) k ∙ l in
          inl (h, declared_answers (decls q) q.from.name n d.first l')
      | false ↦ λ h.
          let s = second_named m q.second (or_right (same q.from.name m) (option_map_or (λ (f : Source). same f.name m) q.second false) t h) in
          let l' : lacks q s.0.name n ≡ false = ap (λ r. lacks q r n) s.2 ∙ l in
          inr (h, (s.0, s.1, declared_answers (decls q) s.0.name n (d.second s.0 s.1) l'))
    ] refl

found_in : (q : Query) (m : List ℕ) (o : Option (List ℕ)) → AreDeclared q → is_unknown_stream q (record { first = m; second = o }) ≡ false → is_unknown_column q (record { first = m; second = o }) ≡ false → Found q (record { first = m; second = o })
found_in q m None d e f = found_bare q m f
found_in q m (Some n) d e f = found_of q m n d e f

pub found : (q : Query) (i : ℕ) (c : Column) → AreDeclared q → column_faults q i c ≡ [] → Found q c
unfolding column_faults
found q i c d e =
    let h = rows_and (is_unknown_stream q c) (is_unknown_column q c) i (i + second_width c.second) cause.UnknownStream cause.UnknownColumn (row (is_ambiguous q c) i cause.Ambiguous) e in
    found_in q c.first c.second d h.0 h.1

-- ---- columns of the plan

pub left_columns : (s : Stream) (ts : List Stream) → columns_on (s ∷ ts) Left ≡ s.columns
left_columns s [] = refl
left_columns s (t ∷ ts) = refl

-- a column of the first stream
pub left_there : (q : Query) (n : List ℕ) → declares (decls q) q.from.name n ≡ Some true → place (decls q) q.from.name n < columns_on (map (plan_stream q) (streams q)) Left
left_there q n e =
    let k = left_columns (plan_stream q q.from) (map (plan_stream q) (option_to_list q.second)) in
    omega (arith, place_small (decls q) q.from.name n e, k)

pub column_there : (q : Query) (c : Column) → Found q c → plan_place q c < columns_on (map (plan_stream q) (streams q)) (plan_side q c)
column_there q c f =
    let P : Bool → Type 0 = λ b. place (decls q) (if b then q.from.name else second_name q) (own_name c) < columns_on (map (plan_stream q) (streams q)) (if b then Left else Right) in
    elim f [
      | inl h ↦ subst P (sym h.0) (left_there q (own_name c) h.1)
      | inr h ↦
          let Q : Option Source → Type 0 = λ o. place (decls q) (option_map_or (λ (s : Source). s.name) o q.from.name) (own_name c) < columns_on (map (plan_stream q) (q.from ∷ option_to_list o)) Right in
          subst P (sym h.0) (subst Q (sym h.1.1) (place_small (decls q) h.1.0.name (own_name c) h.1.2))
    ]
