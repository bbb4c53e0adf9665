-- The merged input of two sides.
use Rattle.std.proofs.Common.{◌≡◌, List, [], ◌∷◌, true, cond, nat_le, refl, ap}
use Rattle.saber_plan.specs.declared.rows.Row.{Row}
use Rattle.saber_plan.specs.Rows.{End, all_read, Read, before, stamp}
use Rattle.saber_plan.specs.Inputs.{holds_up, merged_rows}

-- ---- induction along a merge

grows : (P : List Row → List Row → Type 0) → ((x : Row) (xs : List Row) → P (x ∷ xs) []) → ((x : Row) (xs : List Row) (y : Row) (ys : List Row) → P xs (y ∷ ys) → P (x ∷ xs) ys → P (x ∷ xs) (y ∷ ys))
    → (x : Row) (xs : List Row) → ((ys : List Row) → P xs ys) → (ys : List Row) → P (x ∷ xs) ys
grows P left step x xs rest [] = left x xs
grows P left step x xs rest (y ∷ ys) = step x xs y ys (rest (y ∷ ys)) (grows P left step x xs rest ys)

-- what holds where one side has no row, and on with a row of either side, holds of all rows
pub both_sides : (P : List Row → List Row → Type 0) → ((ys : List Row) → P [] ys) → ((x : Row) (xs : List Row) → P (x ∷ xs) []) → ((x : Row) (xs : List Row) (y : Row) (ys : List Row) → P xs (y ∷ ys) → P (x ∷ xs) ys → P (x ∷ xs) (y ∷ ys))
    → (xs ys : List Row) → P xs ys
both_sides P none left step [] ys = none ys
both_sides P none left step (x ∷ xs) ys = grows P left step x xs (both_sides P none left step xs) ys

-- ---- one row of a merge, by the heads of both sides

pub merged_stops_left : (e d : End) (ys : List Row) → holds_up e ≡ true → merged_rows [] e ys d ≡ record { rows = []; end = e }
unfolding merged_rows
merged_stops_left e d ys h = ap (λ b. cond {A = Read} b (record { rows = []; end = e }) (record { rows = ys; end = d })) h

pub merged_rest_right : (d : End) (ys : List Row) → merged_rows [] all_read ys d ≡ record { rows = ys; end = d }
unfolding merged_rows
merged_rest_right d ys = refl

pub merged_stops_right : (x : Row) (xs : List Row) (e d : End) → holds_up d ≡ true → merged_rows (x ∷ xs) e [] d ≡ record { rows = []; end = d }
unfolding merged_rows
merged_stops_right x xs e d h = ap (λ b. cond {A = Read} b (record { rows = []; end = d }) (record { rows = x ∷ xs; end = e })) h

pub merged_rest_left : (x : Row) (xs : List Row) (e : End) → merged_rows (x ∷ xs) e [] all_read ≡ record { rows = x ∷ xs; end = e }
unfolding merged_rows
merged_rest_left x xs e = refl

pub merged_takes : (x : Row) (xs : List Row) (e : End) (y : Row) (ys : List Row) (d : End) → merged_rows (x ∷ xs) e (y ∷ ys) d ≡ cond (nat_le (stamp x.values) (stamp y.values)) (before x (merged_rows xs e (y ∷ ys) d)) (before y (merged_rows (x ∷ xs) e ys d))
unfolding merged_rows
merged_takes x xs e y ys d = refl
