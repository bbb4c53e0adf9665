-- Once a fault stands before the next word, what follows changes nothing.
use Rattle.std.proofs.Common.{◌≡◌, ℕ, ◌+◌, ◌<◌, ◌≤◌, List, [], ◌∷◌, ◌++◌, take, Bool, true, false, ◌==◌, Option, Some, None, nat_lt, nat_le, if◌then◌else◌, refl, sym, ap, ◌∙◌, arith}
use Rattle.std.specs.List.{AllByRecursion}
use Rattle.std.specs.Option.{option_map_or}
use Rattle.std.proofs.lemmas.Bool.Decides.{nat_tests}
use Rattle.saber_query.specs.declared.fault.Cause.{Cause}
use Rattle.saber_query.specs.declared.fault.Cause.TheVariants as cause
use Rattle.saber_query.specs.declared.tree.Column.{Column}
use Rattle.saber_query.specs.declared.tree.Keys.{Keys}
use Rattle.saber_query.specs.declared.tree.Decl.{Decl}
use Rattle.saber_query.specs.Trees.{Query}
use Rattle.saber_check.specs.declared.fault.Fault.{Fault}
use Rattle.saber_check.specs.declared.walk.Walk.{Walk}
use Rattle.saber_check.specs.Least.{key, sooner, earlier, least, row, is_settled, Visits}
use Rattle.saber_check.specs.Widths.{second_width}
use Rattle.saber_check.specs.Names.{names, among, is_unknown_stream, is_unknown_column, is_ambiguous}
use Rattle.saber_check.specs.Faults.{column_name_faults, keys, among_columns}
use Rattle.saber_check.specs.Walked.{column_faults, key_faults}
use Rattle.saber_check.proofs.FirstLaws.{every, rank_small, first}
use Rattle.saber_check.proofs.Lemmas.{least_none, earlier_none}

-- the faults stand at this word or behind it
pub record From (i : ℕ) (fs : List Fault) : Type 0 where
  all : AllByRecursion (λ (f : Fault). i ≤ f.index) fs

append : {i : ℕ} {xs ys : List Fault} → From i xs → From i ys → From i (xs ++ ys)
append {i} {xs} {ys} a b = record { all = all_of xs a.all }
  where
    all_of : (zs : List Fault) → AllByRecursion (λ (f : Fault). i ≤ f.index) zs → AllByRecursion (λ (f : Fault). i ≤ f.index) (zs ++ ys)
    all_of [] h = b.all
    all_of (z ∷ zs) h = (h.0, all_of zs h.1)

pub at_row : (i j : ℕ) (b : Bool) (c : Cause) → i ≤ j → From i (row b j c)
at_row i j true c h = record { all = (h, tt) }
at_row i j false c h = record { all = tt }

pub column : (q : Query) (i : ℕ) (c : Column) → From i (column_faults q i c)
unfolding column_faults
column q i c = append (append (at_row i i (is_unknown_stream q c) cause.UnknownStream (omega arith)) (at_row i (i + second_width c.second) (is_unknown_column q c) cause.UnknownColumn (omega arith))) (at_row i i (is_ambiguous q c) cause.Ambiguous (omega arith))

pub column_name : (d : Decl) (k i : ℕ) (n : List ℕ) → From i (column_name_faults d k i n)
unfolding column_name_faults
column_name d k i n = append (at_row i i (k == 32) cause.TooMany (omega arith)) (at_row i i (among n (take k (names d))) cause.DuplicateName (omega arith))

pub group_key : (q : Query) (g : Keys) (k i : ℕ) (c : Column) → From i (key_faults q g k i c)
unfolding key_faults
group_key q g k i c = append (append (at_row i i (k == 8) cause.TooMany (omega arith)) (at_row i i (among_columns q c (take k (keys g))) cause.DuplicateName (omega arith))) (column q i c)

less : (f g : Fault) → f.index < g.index → key f ≤ key g
unfolding key
less f g h = omega (arith, rank_small f.cause)

-- a fault before them comes first
late : (f : Fault) (i : ℕ) (fs : List Fault) (o : Option Fault) → least fs ≡ o → f.index < i → From i fs → earlier (Some f) o ≡ Some f
unfolding earlier sooner
late f i fs None e h a = refl
late f i fs (Some g) e h a =
    let m : i ≤ g.index = every (λ (x : Fault). i ≤ x.index) fs g a.all (first fs g e).there in
    let k : key f ≤ key g = less f g (omega (arith, h, m)) in
    picks (key f) (key g) k
  where
    picks : (m n : ℕ) → m ≤ n → Some (if nat_le m n then f else g) ≡ Some f
    picks m n k = let t : nat_le m n ≡ true = grind (arith, nat_tests) in ap (λ (b : Bool). Some (if b then f else g)) t

changes_nothing : (o : Option Fault) (i : ℕ) (fs : List Fault) → option_map_or (λ (f : Fault). nat_lt f.index i) o false ≡ true → From i fs → earlier o (least fs) ≡ o
changes_nothing None i fs s a = cc
changes_nothing (Some f) i fs s a = late f i fs (least fs) refl (below f.index i s) a
  where
    below : (m n : ℕ) → nat_lt m n ≡ true → m < n
    below m n e = grind (arith, nat_tests)

-- so a walk may skip them
pub skipped : (old new : Walk) (m n : ℕ) (fs : List Fault) → m ≡ n → is_settled old ≡ true → From old.index fs → Visits old new m [] → Visits old new n fs
skipped old new m n fs e s a v = record {
  place = omega (arith, v.place, e);
  least = v.least ∙ ap (earlier old.least) least_none ∙ earlier_none old.least ∙ sym (changes_nothing old.least old.index fs s a);
}

-- also where it stands still
pub stands : (walk : Walk) (fs : List Fault) → is_settled walk ≡ true → From walk.index fs → Visits walk walk 0 fs
stands walk fs s a = record { place = omega arith; least = sym (changes_nothing walk.least walk.index fs s a) }
