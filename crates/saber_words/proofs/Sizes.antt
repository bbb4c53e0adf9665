-- The sizes of a run that the words ask for.
use Rattle.std.proofs.Common.{◌≡◌, ◌≤◌, ◌^◌, ℕ, arith, subst, Bool, true, false, cond, codes, refl, List, Option, Some, None, option_map}
use Rattle.std.specs.Str.{bytes_eq}
use Rattle.std.specs.Prelude.{option_and_then}
use Rattle.clap.specs.Walk.{Row, Text, first_of}
use Rattle.clap.specs.Simple.{subcommand_of}
use Rattle.saber_plan.specs.declared.sizes.Sizes.{Sizes}
use Rattle.saber_plan.specs.Sizes.{SizesFit}
use Rattle.saber_words.specs.Commands.{Asked, IsSized, asked_by, chain_by, chain_over, chain_with, check, check_by, command_of, demo, demo_by, is_taken, max_lines, ring, run_by, run_over, run_with, saber_app, sizes_by, sizes_with, slack, task, threads}
use Rattle.saber_words.specs.Demo.{demo_with, rows, seed}
use Rattle.saber_words.specs.Numbers.{Numeric, number_by}
use Rattle.saber_words.specs.Flags.{flag_by}
use Rattle.saber_words.proofs.Numerals.{number_bounds}

-- a number is within the bounds of its option
pub Within : Numeric → Option ℕ → Type 0
Within o found = (n : ℕ) → found ≡ Some n → (o.least ≤ n) × (n ≤ o.most)

-- these fit, with so many threads at most, and that end
abbrev pub AreSized : ℕ → Bool → Sizes → Type 0
AreSized most flush s = SizesFit s × (s.threads ≤ most) × (s.flush ≡ flush)

-- so those that were found do
pub sizes_fit : (crew : Numeric) (size cells count lines falls : Option ℕ) (flush : Bool) (s : Sizes) → crew.most ≤ 64 → Within task size → Within ring cells → Within crew count → Within max_lines lines → Within slack falls
    → sizes_with size cells count lines falls flush ≡ Some s → AreSized crew.most flush s
unfolding Within
sizes_fit crew None cells count lines falls flush s few a b c d e is = cc
sizes_fit crew (Some t) None count lines falls flush s few a b c d e is = cc
sizes_fit crew (Some t) (Some r) None lines falls flush s few a b c d e is = cc
sizes_fit crew (Some t) (Some r) (Some k) None falls flush s few a b c d e is = cc
sizes_fit crew (Some t) (Some r) (Some k) (Some m) None flush s few a b c d e is = cc
sizes_fit crew (Some t) (Some r) (Some k) (Some m) (Some u) flush s few a b c d e is =
    let same : record { task = t; ring = r; threads = k; max_lines = m; slack = u; flush = flush } ≡ s = cc in
    let x = a t refl in
    let y = b r refl in
    let z = (c k refl).1 in
    let w = d m refl in
    let v = e u refl in
    subst (AreSized crew.most flush) same (record { task = (x.0, x.1); ring = (y.0, y.1); threads = omega (arith, few, z); lines = (w.0, w.1); slack = v.1 }, z, refl)

run_sized : (query left right : Option Text) (sizes : Option Sizes) (c : Asked) → ((s : Sizes) → sizes ≡ Some s → SizesFit s) → run_with query left right sizes ≡ Some c → IsSized c
run_sized None left right sizes c fit is = cc
run_sized (Some query) None right sizes c fit is = cc
run_sized (Some query) (Some left) right None c fit is = cc
run_sized (Some query) (Some left) right (Some s) c fit is =
    let same : run_over query left right s ≡ c = cc in
    subst IsSized same (fit s refl)

chain_sized : (first second left right : Option Text) (sizes : Option Sizes) (c : Asked) → ((s : Sizes) → sizes ≡ Some s → AreSized 64 false s) → chain_with first second left right sizes ≡ Some c → IsSized c
chain_sized None second left right sizes c fit is = cc
chain_sized (Some first) None left right sizes c fit is = cc
chain_sized (Some first) (Some second) None right sizes c fit is = cc
chain_sized (Some first) (Some second) (Some left) right None c fit is = cc
chain_sized (Some first) (Some second) (Some left) right (Some s) c fit is =
    let same : chain_over first second left right s ≡ c = cc in
    let f = fit s refl in
    subst IsSized same (record { fit = f.0; goes_on = f.2 })

check_sized : (query : Option Text) (c : Asked) → option_map (λ q. check (record { query = q })) query ≡ Some c → IsSized c
check_sized None c is = cc
check_sized (Some query) c is =
    let same : check (record { query = query }) ≡ c = cc in
    subst IsSized same tt

demo_sized : (first second size cells count : Option ℕ) (c : Asked) → Within seed first → Within rows second → Within task size → Within ring cells → Within threads count
    → option_map demo (demo_with first second (sizes_with size cells count (Some (2 ^ 40)) (Some 0) false)) ≡ Some c → IsSized c
unfolding Within
demo_sized None second size cells count c v w x y z is = cc
demo_sized (Some s) None size cells count c v w x y z is = cc
demo_sized (Some s) (Some n) None cells count c v w x y z is = cc
demo_sized (Some s) (Some n) (Some t) None count c v w x y z is = cc
demo_sized (Some s) (Some n) (Some t) (Some r) None c v w x y z is = cc
demo_sized (Some s) (Some n) (Some t) (Some r) (Some k) c v w x y z is =
    let same : demo (record { seed = s; rows = n; sizes = record { task = t; ring = r; threads = k; max_lines = 2 ^ 40; slack = 0; flush = false } }) ≡ c = cc in
    let a = x t refl in
    let b = y r refl in
    subst IsSized same (record {
      small_seed = (v s refl).1;
      few_generated = (w n refl).1;
      fit = record { task = (a.0, a.1); ring = (b.0, b.1); threads = (z k refl).1; lines = (omega arith, omega arith); slack = omega arith };
      limits = refl;
      goes_on = refl;
    })

pub bounds_of : (o : Numeric) (found : List Row) → Within o (number_by o found)
unfolding Within
bounds_of o found = number_bounds o found

sizes_bounded : (found : List Row) (flush : Bool) (s : Sizes) → sizes_by threads found flush ≡ Some s → AreSized 64 flush s
sizes_bounded found flush s = sizes_fit threads (number_by task found) (number_by ring found) (number_by threads found) (number_by max_lines found) (number_by slack found) flush s (omega arith)
    (bounds_of task found) (bounds_of ring found) (bounds_of threads found) (bounds_of max_lines found) (bounds_of slack found)

asked_sized : (found : List Row) (is_run is_check is_demo is_chain : Bool) (c : Asked)
    → cond is_run (run_by found) (cond is_check (check_by found) (cond is_demo (demo_by found) (cond is_chain (chain_by found) None))) ≡ Some c → IsSized c
asked_sized found true k d h c is = run_sized (first_of (codes "query") found) (first_of (codes "left") found) (first_of (codes "right") found) (sizes_by threads found (flag_by (codes "final") found)) c (λ s is. (sizes_bounded found (flag_by (codes "final") found) s is).0) is
asked_sized found false true d h c is = check_sized (first_of (codes "query") found) c is
asked_sized found false false true h c is =
    demo_sized (number_by seed found) (number_by rows found) (number_by task found) (number_by ring found) (number_by threads found) c (bounds_of seed found) (bounds_of rows found) (bounds_of task found) (bounds_of ring found) (bounds_of threads found) is
asked_sized found false false false true c is =
    chain_sized (first_of (codes "first") found) (first_of (codes "second") found) (first_of (codes "left") found) (first_of (codes "right") found) (sizes_by threads found false) c (sizes_bounded found false) is
asked_sized found false false false false c is = cc

-- what words ask for has its sizes within their bounds
pub command_of-sized : (words : List Text) (c : Asked) → command_of words ≡ Some c → IsSized c
unfolding command_of
command_of-sized words c is = go (is_taken words) (subcommand_of saber_app words) is
  where
    go : (b : Bool) (sub : Option (Text × List Row)) → cond b (option_and_then asked_by sub) None ≡ Some c → IsSized c
    go false sub same = cc
    go true None same = cc
    go true (Some s) same = asked_sized s.1 (bytes_eq s.0 (codes "run")) (bytes_eq s.0 (codes "check")) (bytes_eq s.0 (codes "demo")) (bytes_eq s.0 (codes "chain")) c same
