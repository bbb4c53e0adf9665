-- The rows of both sides in a merge: they are in order of time, and each side's are its first ones.
use Rattle.std.proofs.Common.{◌≡◌, ℕ, List, [], ◌∷◌, ◌++◌, filter, Bool, true, false, cond, not, ◌&&◌, nat_le, refl, sym, ◌∙◌, ap, append-nil, arith}
use Rattle.std.proofs.lemmas.Bool.{both_ways}
use Rattle.std.proofs.lemmas.Bool.Decides.{nat_tests}
use Rattle.saber_plan.specs.declared.rows.Side.{Side}
use Rattle.saber_plan.specs.declared.rows.Side.TheVariants.{Left, Right}
use Rattle.saber_plan.specs.declared.rows.Row.{Row}
use Rattle.saber_plan.specs.declared.windows.Mark.{Mark}
use Rattle.saber_plan.specs.Rows.{End, all_read, cut, bad, Read, before, stamp}
use Rattle.saber_plan.specs.Windows.{by_side, step_mark, in_order, can_follow, Ordered}
use Rattle.saber_plan.specs.Inputs.{holds_up, alone, merged_rows}
use Rattle.saber_laws.specs.Inputs.{AllOn, on, MergesAreOrdered, Begins, MergesBegin, MergesEnd}
use Rattle.saber_laws.proofs.WindowLaws.{goes_on}
use Rattle.saber_laws.proofs.InputLaws.{both_sides}

alone_holds : (P : List Row → Type 0) (other : End) (xs : List Row) (end : End) → P [] → P xs → P (alone other xs end).rows
alone_holds P other xs end h k = elim (holds_up other) as (λ b. P (cond {A = Read} b (record { rows = []; end = other }) (record { rows = xs; end = end })).rows) [ true ↦ h | false ↦ k ]

-- ---- timestamps do not fall

none_ordered : (m : Mark) → Ordered m []
unfolding Ordered
none_ordered m = tt

-- only the last timestamp matters, and whether the input ended
ordered_by_last : (m n : Mark) (xs : List Row) → m.last ≡ n.last → m.ended ≡ n.ended → Ordered m xs → Ordered n xs
unfolding Ordered
ordered_by_last m n [] e d o = tt
ordered_by_last m n (x ∷ xs) e d o = (sym (λ i. not (d i) && in_order (e i) (stamp x.values)) ∙ o.0, ordered_by_last (step_mark m x) (step_mark n x) xs refl d o.1)

-- a row comes behind another that could come there, if its timestamp is no less
comes_behind : (m : Mark) (x : Row) (t : ℕ) → can_follow m (stamp x.values) ≡ true → nat_le (stamp x.values) t ≡ true → can_follow (step_mark m x) t ≡ true
comes_behind m x t e h = let on = goes_on m (stamp x.values) e in (λ i. not (on.0 i) && h i)

later_left : (x y : Row) → nat_le (stamp x.values) (stamp y.values) ≡ false → nat_le (stamp y.values) (stamp x.values) ≡ true
later_left x y e = grind (arith, nat_tests)

ordered_step : (e d : End) (x : Row) (xs : List Row) (y : Row) (ys : List Row) (m : Mark) → Ordered m (x ∷ xs) → Ordered m (y ∷ ys)
    → ((n : Mark) → Ordered n xs → Ordered n (y ∷ ys) → Ordered n (merged_rows xs e (y ∷ ys) d).rows) → ((n : Mark) → Ordered n (x ∷ xs) → Ordered n ys → Ordered n (merged_rows (x ∷ xs) e ys d).rows)
    → (b : Bool) → nat_le (stamp x.values) (stamp y.values) ≡ b → Ordered m (cond b (before x (merged_rows xs e (y ∷ ys) d)) (before y (merged_rows (x ∷ xs) e ys d))).rows
unfolding Ordered
ordered_step e d x xs y ys m o p left right true t = (o.0, left (step_mark m x) o.1 (comes_behind m x (stamp y.values) o.0 t, ordered_by_last (step_mark m y) (step_mark (step_mark m x) y) ys refl refl p.1))
ordered_step e d x xs y ys m o p left right false t = (p.0, right (step_mark m y) (comes_behind m y (stamp x.values) p.0 (later_left x y t), ordered_by_last (step_mark m x) (step_mark (step_mark m y) x) xs refl refl o.1) p.1)

ordered_both : (e d : End) (xs ys : List Row) (m : Mark) → Ordered m xs → Ordered m ys → Ordered m (merged_rows xs e ys d).rows
unfolding merged_rows
ordered_both e d xs ys = both_sides (λ us vs. (m : Mark) → Ordered m us → Ordered m vs → Ordered m (merged_rows us e vs d).rows)
    (λ vs m o p. alone_holds (Ordered m) e vs d (none_ordered m) p)
    (λ u us m o p. alone_holds (Ordered m) d (u ∷ us) e (none_ordered m) o)
    (λ x us y vs left right m o p. ordered_step e d x us y vs m o p left right _ refl) xs ys

-- the timestamps of the merge do not fall, where those of each side do not
pub merges_are_ordered : MergesAreOrdered
merges_are_ordered l r m o p = ordered_both l.end r.end l.rows r.rows m o p

-- ---- each side's rows

side_kept : (s : Side) (x : Row) (xs : List Row) → x.side ≡ s → filter (on s) (x ∷ xs) ≡ x ∷ filter (on s) xs
side_kept Left x xs e = ap (λ t. cond (by_side t true false) (x ∷ filter (on Left) xs) (filter (on Left) xs)) e
side_kept Right x xs e = ap (λ t. cond (by_side t false true) (x ∷ filter (on Right) xs) (filter (on Right) xs)) e

left_dropped : (x : Row) (xs : List Row) → x.side ≡ Right → filter (on Left) (x ∷ xs) ≡ filter (on Left) xs
left_dropped x xs e = ap (λ t. cond (by_side t true false) (x ∷ filter (on Left) xs) (filter (on Left) xs)) e

right_dropped : (x : Row) (xs : List Row) → x.side ≡ Left → filter (on Right) (x ∷ xs) ≡ filter (on Right) xs
right_dropped x xs e = ap (λ t. cond (by_side t false true) (x ∷ filter (on Right) xs) (filter (on Right) xs)) e

all_kept : (s : Side) (xs : List Row) → AllOn s xs → filter (on s) xs ≡ xs
all_kept s [] h = refl
all_kept s (x ∷ xs) h = side_kept s x xs h.0 ∙ ap (λ l. x ∷ l) (all_kept s xs h.1)

no_left : (xs : List Row) → AllOn Right xs → filter (on Left) xs ≡ []
no_left [] h = refl
no_left (x ∷ xs) h = left_dropped x xs h.0 ∙ no_left xs h.1

no_right : (xs : List Row) → AllOn Left xs → filter (on Right) xs ≡ []
no_right [] h = refl
no_right (x ∷ xs) h = right_dropped x xs h.0 ∙ no_right xs h.1

begins_none : (xs : List Row) → Begins [] xs
begins_none xs = (xs, refl)

begins_same : (us xs : List Row) → us ≡ xs → Begins us xs
begins_same us xs e = ([], append-nil us ∙ e)

begins_empty : (us xs : List Row) → us ≡ [] → Begins us xs
begins_empty us xs e = (xs, ap (λ l. l ++ xs) e)

begins_more : (x : Row) (us vs xs : List Row) → vs ≡ x ∷ us → Begins us xs → Begins vs (x ∷ xs)
begins_more x us vs xs e h = (h.0, ap (λ l. l ++ h.0) e ∙ ap (λ l. x ∷ l) h.1)

begins_on : (us vs xs : List Row) → vs ≡ us → Begins us xs → Begins vs xs
begins_on us vs xs e h = (h.0, ap (λ l. l ++ h.0) e ∙ h.1)

left_step : (e d : End) (x : Row) (xs : List Row) (y : Row) (ys : List Row) → x.side ≡ Left → y.side ≡ Right
    → Begins (filter (on Left) (merged_rows xs e (y ∷ ys) d).rows) xs → Begins (filter (on Left) (merged_rows (x ∷ xs) e ys d).rows) (x ∷ xs)
    → (b : Bool) → Begins (filter (on Left) (cond b (before x (merged_rows xs e (y ∷ ys) d)) (before y (merged_rows (x ∷ xs) e ys d))).rows) (x ∷ xs)
left_step e d x xs y ys h k left right true = begins_more x _ _ xs (side_kept Left x (merged_rows xs e (y ∷ ys) d).rows h) left
left_step e d x xs y ys h k left right false = begins_on _ _ (x ∷ xs) (left_dropped y (merged_rows (x ∷ xs) e ys d).rows k) right

right_step : (e d : End) (x : Row) (xs : List Row) (y : Row) (ys : List Row) → x.side ≡ Left → y.side ≡ Right
    → Begins (filter (on Right) (merged_rows xs e (y ∷ ys) d).rows) (y ∷ ys) → Begins (filter (on Right) (merged_rows (x ∷ xs) e ys d).rows) ys
    → (b : Bool) → Begins (filter (on Right) (cond b (before x (merged_rows xs e (y ∷ ys) d)) (before y (merged_rows (x ∷ xs) e ys d))).rows) (y ∷ ys)
right_step e d x xs y ys h k left right true = begins_on _ _ (y ∷ ys) (right_dropped x (merged_rows xs e (y ∷ ys) d).rows h) left
right_step e d x xs y ys h k left right false = begins_more y _ _ ys (side_kept Right y (merged_rows (x ∷ xs) e ys d).rows k) right

left_begins : (e d : End) (xs ys : List Row) → AllOn Left xs → AllOn Right ys → Begins (filter (on Left) (merged_rows xs e ys d).rows) xs
unfolding merged_rows
left_begins e d xs ys = both_sides (λ us vs. AllOn Left us → AllOn Right vs → Begins (filter (on Left) (merged_rows us e vs d).rows) us)
    (λ vs h k. alone_holds (λ l. Begins (filter (on Left) l) []) e vs d (begins_none []) (begins_empty _ _ (no_left vs k)))
    (λ u us h k. alone_holds (λ l. Begins (filter (on Left) l) (u ∷ us)) d (u ∷ us) e (begins_none (u ∷ us)) (begins_same _ _ (all_kept Left (u ∷ us) h)))
    (λ x us y vs left right h k. left_step e d x us y vs h.0 k.0 (left h.1 k) (right h k.1) _) xs ys

right_begins : (e d : End) (xs ys : List Row) → AllOn Left xs → AllOn Right ys → Begins (filter (on Right) (merged_rows xs e ys d).rows) ys
unfolding merged_rows
right_begins e d xs ys = both_sides (λ us vs. AllOn Left us → AllOn Right vs → Begins (filter (on Right) (merged_rows us e vs d).rows) vs)
    (λ vs h k. alone_holds (λ l. Begins (filter (on Right) l) vs) e vs d (begins_none vs) (begins_same _ _ (all_kept Right vs k)))
    (λ u us h k. alone_holds (λ l. Begins (filter (on Right) l) []) d (u ∷ us) e (begins_none []) (begins_empty _ _ (no_right (u ∷ us) h)))
    (λ x us y vs left right h k. right_step e d x us y vs h.0 k.0 (left h.1 k) (right h k.1) _) xs ys

-- the rows of either side in the merge are the first of its rows
pub merges_begin : MergesBegin
merges_begin l r h k = record { left = left_begins l.end r.end l.rows r.rows h k; right = right_begins l.end r.end l.rows r.rows h k }

-- ---- where it ends

-- both are read to their end, and all of their rows are there
record Whole (m : Read) (e d : End) (xs ys : List Row) : Type 0 where
  pub left_end : e ≡ all_read
  pub right_end : d ≡ all_read
  pub left_rows : filter (on Left) m.rows ≡ xs
  pub right_rows : filter (on Right) m.rows ≡ ys

no_hold : (e : End) → holds_up e ≡ false → e ≡ all_read
no_hold all_read h = refl
no_hold cut h = cc
no_hold (bad s n c) h = cc

held_read : (e : End) → holds_up e ≡ true → e ≡ all_read → ⊥
held_read e h g = both_ways _ (ap holds_up g) h

alone_right : (e d : End) (ys : List Row) → AllOn Right ys → (b : Bool) → holds_up e ≡ b → (cond {A = Read} b (record { rows = []; end = e }) (record { rows = ys; end = d })).end ≡ all_read → Whole (cond {A = Read} b (record { rows = []; end = e }) (record { rows = ys; end = d })) e d [] ys
alone_right e d ys k true h g = absurd (held_read e h g)
alone_right e d ys k false h g = record { left_end = no_hold e h; right_end = g; left_rows = no_left ys k; right_rows = all_kept Right ys k }

alone_left : (e d : End) (xs : List Row) → AllOn Left xs → (b : Bool) → holds_up d ≡ b → (cond {A = Read} b (record { rows = []; end = d }) (record { rows = xs; end = e })).end ≡ all_read → Whole (cond {A = Read} b (record { rows = []; end = d }) (record { rows = xs; end = e })) e d xs []
alone_left e d xs k true h g = absurd (held_read d h g)
alone_left e d xs k false h g = record { left_end = g; right_end = no_hold d h; left_rows = all_kept Left xs k; right_rows = no_right xs k }

whole_step : (e d : End) (x : Row) (xs : List Row) (y : Row) (ys : List Row) → x.side ≡ Left → y.side ≡ Right
    → ((merged_rows xs e (y ∷ ys) d).end ≡ all_read → Whole (merged_rows xs e (y ∷ ys) d) e d xs (y ∷ ys)) → ((merged_rows (x ∷ xs) e ys d).end ≡ all_read → Whole (merged_rows (x ∷ xs) e ys d) e d (x ∷ xs) ys)
    → (b : Bool) → (cond b (before x (merged_rows xs e (y ∷ ys) d)) (before y (merged_rows (x ∷ xs) e ys d))).end ≡ all_read → Whole (cond b (before x (merged_rows xs e (y ∷ ys) d)) (before y (merged_rows (x ∷ xs) e ys d))) e d (x ∷ xs) (y ∷ ys)
whole_step e d x xs y ys h k left right true g =
    let w = left g in
    record { left_end = w.left_end; right_end = w.right_end; left_rows = side_kept Left x (merged_rows xs e (y ∷ ys) d).rows h ∙ ap (λ l. x ∷ l) w.left_rows; right_rows = right_dropped x (merged_rows xs e (y ∷ ys) d).rows h ∙ w.right_rows }
whole_step e d x xs y ys h k left right false g =
    let w = right g in
    record { left_end = w.left_end; right_end = w.right_end; left_rows = left_dropped y (merged_rows (x ∷ xs) e ys d).rows k ∙ w.left_rows; right_rows = side_kept Right y (merged_rows (x ∷ xs) e ys d).rows k ∙ ap (λ l. y ∷ l) w.right_rows }

whole_both : (e d : End) (xs ys : List Row) → AllOn Left xs → AllOn Right ys → (merged_rows xs e ys d).end ≡ all_read → Whole (merged_rows xs e ys d) e d xs ys
unfolding merged_rows
whole_both e d xs ys = both_sides (λ us vs. AllOn Left us → AllOn Right vs → (merged_rows us e vs d).end ≡ all_read → Whole (merged_rows us e vs d) e d us vs)
    (λ vs h k g. alone_right e d vs k _ refl g)
    (λ u us h k g. alone_left e d (u ∷ us) h _ refl g)
    (λ x us y vs left right h k g. whole_step e d x us y vs h.0 k.0 (left h.1 k) (right h k.1) _ g) xs ys

pub merges_end : MergesEnd
merges_end l r h k g =
    let w = whole_both l.end r.end l.rows r.rows h k g in
    record { left_end = w.left_end; right_end = w.right_end; left_rows = w.left_rows; right_rows = w.right_rows }
