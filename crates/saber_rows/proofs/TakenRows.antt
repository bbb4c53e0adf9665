-- What a line is that is taken as a row.
use Rattle.std.proofs.Common.{◌≡◌, ℕ, ◌+◌, ◌≤◌, length, ◌==◌, arith, List, [], ◌∷◌, Bool, true, false, cond, Option, Some, None, ℤ, nat_lt, refl, sym, ◌∙◌, ap, subst}
use Rattle.std.proofs.lemmas.Bool.Decides.{nat_tests}
use Rattle.saber_plan.specs.declared.rows.Row.{Row}
use Rattle.saber_plan.specs.declared.rows.RowCause.{RowCause}
use Rattle.saber_plan.specs.declared.rows.RowCause.TheVariants.{TooManyLines, TooLong, FieldCount, TimeOrder, TooManyHeld}
use Rattle.saber_plan.specs.Rows.{SideRules, Place, late, crowds, timed_line, judge_at, Judged, skipped, taken, refused, judge, judge_fields, judge_numbers, bad_field, wide_field, fields_of, numbers, falls, RowFits}
use Rattle.saber_rows.specs.Reader.{Reader, gone_count}
use Rattle.saber_rows.specs.Calls.{IsGiven}
use Rattle.saber_rows.specs.QuickRows.{IsRow}

-- a line of numbers in their ranges is taken
pub judged_row : (columns most number : ℕ) (content : List ℕ) (vs : List ℤ) → number ≤ most → IsRow columns content vs → judge columns most number content ≡ taken vs
unfolding judge
judged_row columns most number content vs h row =
    let few : nat_lt most number ≡ false = grind (arith, nat_tests) in
    let some : (length content == 0) ≡ false = grind (arith, nat_tests, row.some) in
    let short : nat_lt 4096 (length content) ≡ false = grind (arith, nat_tests, row.most) in
    let count : (length (fields_of content) == columns) ≡ true = grind (arith, nat_tests, row.count) in
    let fields = judge_fields (fields_of content) (bad_field 1 (fields_of content)) in
    let counted = cond (length (fields_of content) == columns) fields (refused FieldCount) in
    let sized = cond (nat_lt 4096 (length content)) (refused TooLong) counted in
    ap (λ b. cond b (refused TooManyLines) (cond (length content == 0) skipped sized)) few
    ∙ ap (λ b. cond b skipped sized) some
    ∙ ap (λ b. cond b (refused TooLong) counted) short
    ∙ ap (λ b. cond b fields (refused FieldCount)) count
    ∙ ap (judge_fields (fields_of content)) row.good
    ∙ ap (λ zs. judge_numbers zs (wide_field 1 zs)) row.given
    ∙ ap (judge_numbers vs) row.wide

-- the numbers of a row that is taken
pub record AreTaken (columns : ℕ) (zs : List ℤ) : Type 0 where
  pub count : length zs ≡ columns
  pub range : wide_field 1 zs ≡ None

not_refused : (b : Bool) (c : RowCause) (j : Judged) (zs : List ℤ) → taken zs ≡ cond b (refused c) j → taken zs ≡ j
not_refused true c j zs e = cc
not_refused false c j zs e = e

not_skipped : (b : Bool) (j : Judged) (zs : List ℤ) → taken zs ≡ cond b skipped j → taken zs ≡ j
not_skipped true j zs e = cc
not_skipped false j zs e = e

passed : (b : Bool) (c : RowCause) (j : Judged) (zs : List ℤ) → taken zs ≡ cond b j (refused c) → (b ≡ true) × (taken zs ≡ j)
passed true c j zs e = (refl, e)
passed false c j zs e = cc

taken_same : (zs ns : List ℤ) → taken zs ≡ taken ns → zs ≡ ns
taken_same zs ns e = cc

length-numbers : (fs : List (List ℕ)) → length (numbers fs) ≡ length fs
length-numbers [] = refl
length-numbers (f ∷ fs) = omega (arith, length-numbers fs)

module _ (columns : ℕ) (zs : List ℤ) where
  in_ranges : (ns : List ℤ) (wide : Option ℕ) → wide_field 1 ns ≡ wide → length ns ≡ columns → taken zs ≡ judge_numbers ns wide → AreTaken columns zs
  in_ranges ns (Some k) w count e = absurd cc
  in_ranges ns None w count e = subst (AreTaken columns) (sym (taken_same zs ns e)) (record { count = count; range = w })

  of_fields : (fs : List (List ℕ)) (bad : Option ℕ) → length fs ≡ columns → taken zs ≡ judge_fields fs bad → AreTaken columns zs
  of_fields fs (Some k) count e = absurd cc
  of_fields fs None count e = in_ranges (numbers fs) (wide_field 1 (numbers fs)) refl (length-numbers fs ∙ count) e

  pub of_line : (most number : ℕ) (content : List ℕ) → taken zs ≡ judge columns most number content → AreTaken columns zs
  unfolding judge
  of_line most number content e =
      let fs = fields_of content in
      let fields = judge_fields fs (bad_field 1 fs) in
      let counted = cond (length fs == columns) fields (refused FieldCount) in
      let sized = cond (nat_lt 4096 (length content)) (refused TooLong) counted in
      let numbered = cond (length content == 0) skipped sized in
      let p : ((length fs == columns) ≡ true) × (taken zs ≡ fields) =
      passed (length fs == columns) FieldCount fields zs (not_refused (nat_lt 4096 (length content)) TooLong counted zs (not_skipped (length content == 0) sized zs (not_refused (nat_lt most number) TooManyLines numbered zs e))) in
      let count : length fs ≡ columns = grind (arith, nat_tests, p.0) in
      of_fields fs (bad_field 1 fs) count p.1

-- ---- a row at its place

-- what is true of a row that is accepted
pub record IsAccepted (s : SideRules) (p : Place) (zs : List ℤ) : Type 0 where
  pub fits : RowFits s.side s.columns (record { side = s.side; values = zs })
  pub in_time : late s.slack p.high zs ≡ false
  pub has_room : crowds s p zs ≡ false

timed_by : (s : SideRules) (p : Place) (zs ns : List ℤ) (b c : Bool) → late s.slack p.high ns ≡ b → crowds s p ns ≡ c → taken zs ≡ cond b (refused TimeOrder) (cond c (refused TooManyHeld) (taken ns))
    → (zs ≡ ns) × (late s.slack p.high ns ≡ false) × (crowds s p ns ≡ false)
timed_by s p zs ns true c l k e = absurd cc
timed_by s p zs ns false true l k e = absurd cc
timed_by s p zs ns false false l k e = (taken_same zs ns e, l, k)

timed_taken : (s : SideRules) (p : Place) (zs : List ℤ) (j : Judged) → taken zs ≡ timed_line s p j → (taken zs ≡ j) × (late s.slack p.high zs ≡ false) × (crowds s p zs ≡ false)
timed_taken s p zs skipped e = absurd cc
timed_taken s p zs (refused c) e = absurd cc
timed_taken s p zs (taken ns) e =
    let t = timed_by s p zs ns (late s.slack p.high ns) (crowds s p ns) refl refl e in
    (ap taken t.0, ap (late s.slack p.high) t.0 ∙ t.1, ap (crowds s p) t.0 ∙ t.2)

pub accepted : (s : SideRules) (p : Place) (content : List ℕ) (zs : List ℤ) → taken zs ≡ judge_at s p content → IsAccepted s p zs
accepted s p content zs e =
    let t = timed_taken s p zs (judge s.columns s.most (p.lines + 1) content) e in
    let a = of_line s.columns zs s.most (p.lines + 1) content t.0 in
    record { fits = record { own = refl; count = a.count; range = a.range }; in_time = t.1; has_room = t.2 }

-- a row given after turns that gave none
pub given_since : (row : Row) (a b c : Reader) → b.rules ≡ a.rules → b.last ≡ a.last → gone_count a ≤ gone_count b → IsGiven row b c → IsGiven row a c
given_since row a b c rules last lines g = record {
  fits = subst (λ r. RowFits r.side r.columns row) rules g.fits;
  ordered = subst (λ l. falls l row.values ≡ false) last g.ordered;
  last = g.last;
  rises = omega (arith, g.rises);
}
