-- The sizes of several queries that the words ask for.
use Rattle.std.proofs.Common.{◌≡◌, ◌≤◌, ◌^◌, ◌++◌, refl, arith, subst, Bool, true, false, cond, codes, length, List, [], ◌∷◌, Option, Some, None}
use Rattle.std.specs.Str.{bytes_eq}
use Rattle.std.specs.Prelude.{option_and_then, option_to_list}
use Rattle.clap.specs.Walk.{Row, Text, first_of}
use Rattle.clap.specs.Simple.{subcommand_of}
use Rattle.clap.specs.Kinds.{Kinds}
use Rattle.clap.specs.Faults.{fault_of}
use Rattle.saber_plan.specs.declared.sizes.Sizes.{Sizes}
use Rattle.saber_plan.specs.Sizes.{SizesFit}
use Rattle.saber_words.specs.Commands.{max_lines, ring, sizes_by, slack, task}
use Rattle.saber_words.specs.Numbers.{number_by}
use Rattle.saber_words.specs.Flags.{flag_by}
use Rattle.saber_words.specs.Many.{AskedMany, HasManySizes, few_threads, many_app, many_by, many_in, many_of, many_with, others, queries_by, queries_in}
use Rattle.saber_words.proofs.Parses.{taken_if}
use Rattle.saber_words.proofs.Sizes.{AreSized, bounds_of, sizes_fit}

-- of so many positionals there are no more values
queries_few : (ids : List Text) (rows : List Row) → length (queries_in ids rows) ≤ length ids
queries_few [] rows = omega arith
queries_few (id ∷ ids) rows = go (first_of id rows) (queries_few ids rows)
  where
    go : (value : Option Text) → length (queries_in ids rows) ≤ length ids → length (option_to_list value ++ queries_in ids rows) ≤ length (id ∷ ids)
    go None few = omega (arith, few)
    go (Some query) few = omega (arith, few)

with_sized : (left : Option Text) (queries : List Text) (sizes : Option Sizes) (m : AskedMany) → length queries ≤ 8 → ((s : Sizes) → sizes ≡ Some s → SizesFit s × (s.threads ≤ 8))
    → many_with left queries sizes ≡ Some m → HasManySizes m
with_sized None queries sizes m eight fit is = cc
with_sized (Some left) [] sizes m eight fit is = cc
with_sized (Some left) (query ∷ more) None m eight fit is = cc
with_sized (Some left) (query ∷ more) (Some s) m eight fit is =
    let whole : AskedMany = record { left = left; queries = query ∷ more; sizes = s } in
    let same : whole ≡ m = cc in
    let f = fit s refl in
    subst HasManySizes same (record { some_queries = omega arith; few_queries = eight; few_threads = f.1; fit = f.0 })

by_sized : (rows : List Row) (m : AskedMany) → many_by rows ≡ Some m → HasManySizes m
by_sized rows m is =
    let flush = flag_by (codes "final") rows in
    let fits : (s : Sizes) → sizes_by few_threads rows flush ≡ Some s → AreSized 8 flush s =
    λ s. sizes_fit few_threads (number_by task rows) (number_by ring rows) (number_by few_threads rows) (number_by max_lines rows) (number_by slack rows) flush s (omega arith)
    (bounds_of task rows) (bounds_of ring rows) (bounds_of few_threads rows) (bounds_of max_lines rows) (bounds_of slack rows) in
    with_sized (first_of (codes "left") rows) (queries_by rows) (sizes_by few_threads rows flush) m (queries_few (codes "first" ∷ others) rows) (λ s found. ((fits s found).0, (fits s found).1)) is

-- what words ask for has its sizes within their bounds
pub many_of-sized : (words : List Text) (m : AskedMany) → many_of words ≡ Some m → HasManySizes m
unfolding many_of
many_of-sized words m is = go (fault_of many_app words) (subcommand_of many_app words) is
  where
    by_name : (s : Text × List Row) (b : Bool) → cond b (many_by s.1) None ≡ Some m → HasManySizes m
    by_name s false same = cc
    by_name s true same = by_sized s.1 m same

    go : (faults : Kinds) (sub : Option (Text × List Row)) → taken_if faults (option_and_then many_in sub) ≡ Some m → HasManySizes m
    go (fault ∷ faults) sub same = cc
    go [] None same = cc
    go [] (Some s) same = by_name s (bytes_eq s.0 (codes "many")) same
