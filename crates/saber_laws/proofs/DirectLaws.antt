-- The parts of a piece, window by window: those of closing, pending and opening windows in one map.
use Rattle.std.proofs.Common.{◌≡◌, ℕ, ◌+◌, ◌-◌, List, [], ◌∷◌, ◌++◌, Bool, true, false, cond, Option, Some, None, refl, sym, ◌∙◌, ap, ⊎_elim}
use Rattle.std.proofs.lemmas.Bool.{cases_lt}
use Rattle.std.specs.Option.{option_or}
use Rattle.std.specs.Cmp.{nat_cmp_total}
use Rattle.std.specs.Ordering.{nat_cmp, eq_by_cmp}
use Rattle.std.specs.FinMap.{find, from_entries, get-from_entries, same_map, nat_cmp-IsAntisymmetric}
use Rattle.saber_plan.specs.declared.windows.Mark.{Mark}
use Rattle.saber_plan.specs.declared.windows.Kind.{Kind}
use Rattle.saber_plan.specs.declared.windows.Kind.TheVariants.{Opening, Closing, Pending, Complete}
use Rattle.saber_plan.specs.Trees.{Tree}
use Rattle.saber_plan.specs.Inputs.{Input}
use Rattle.saber_plan.specs.Windows.{Frame, mark_at, closed_count, begun_count, kind_of}
use Rattle.saber_plan.specs.Answers.{frame}
use Rattle.saber_plan.specs.Parts.{Part, part}
use Rattle.saber_plan.specs.Shares.{full, numbered_list, is_closing, is_pending, is_opening, of_kind, shares_between, Parts}
use Rattle.saber_plan.specs.Tasks.{piece_between}
use Rattle.saber_laws.proofs.NumberedLaws.{find_low, find_in, find_high}

-- a window of which the rows have some part, and not the whole
abbrev pub is_part : Option Kind → Bool
is_part None = false
is_part (Some Opening) = true
is_part (Some Closing) = true
is_part (Some Pending) = true
is_part (Some Complete) = false

or_none : {X : Type 0} (o : Option X) → option_or o None ≡ o
or_none None = refl
or_none (Some x) = refl

-- a window is of one kind
one_of : (k : Option Kind) (p : Option Part) → option_or (cond (is_closing k) p None) (option_or (cond (is_pending k) p None) (cond (is_opening k) p None)) ≡ cond (is_part k) p None
one_of None p = refl
one_of (Some Opening) p = refl
one_of (Some Closing) p = or_none p
one_of (Some Pending) p = or_none p
one_of (Some Complete) p = refl

found_case : {X : Type 0} (b : Bool) (x : X) (o p q : Option X) → o ≡ option_or p q → cond b (Some x) o ≡ option_or (cond b (Some x) p) q
found_case true x o p q e = refl
found_case false x o p q e = e

found_in : {X : Type 0} (i : ℕ) (xs ys : List (ℕ × X)) → find nat_cmp i (xs ++ ys) ≡ option_or (find nat_cmp i xs) (find nat_cmp i ys)
found_in i [] ys = refl
found_in i (x ∷ xs) ys = found_case (eq_by_cmp nat_cmp i x.0) x.1 _ _ _ (found_in i xs ys)

three_lists : (i a n : ℕ) (f g h u : ℕ → Option Part) → ((i : ℕ) → option_or (f i) (option_or (g i) (h i)) ≡ u i)
    → option_or (find nat_cmp i (numbered_list a n f)) (option_or (find nat_cmp i (numbered_list a n g)) (find nat_cmp i (numbered_list a n h))) ≡ find nat_cmp i (numbered_list a n u)
three_lists i a n f g h u same =
    let all = λ (c d e : Option Part). option_or c (option_or d e) in
    ⊎_elim
    (λ l. (λ j. all (find_low i a n f l j) (find_low i a n g l j) (find_low i a n h l j)) ∙ sym (find_low i a n u l))
    (λ l. ⊎_elim
    (λ k. (λ j. all (find_in i a n f l k j) (find_in i a n g l k j) (find_in i a n h l k j)) ∙ same i ∙ sym (find_in i a n u l k))
    (λ k. (λ j. all (find_high i a n f k j) (find_high i a n g k j) (find_high i a n h k j)) ∙ sym (find_high i a n u k))
    (cases_lt i (a + n)))
    (cases_lt i a)

-- the parts that aren't empty of the windows that aren't complete
abbrev pub direct_parts : Frame → Mark → Mark → (ℕ → Part) → Parts
direct_parts f a b at = from_entries {R = nat_cmp} (numbered_list (closed_count f a) (begun_count f b - closed_count f a) (λ i. cond (is_part (kind_of f i a b)) (full (at i)) None))

kinds_make : (f : Frame) (a b : Mark) (at : ℕ → Part) → from_entries {R = nat_cmp} (of_kind is_closing f a b at ++ (of_kind is_pending f a b at ++ of_kind is_opening f a b at)) ≡ direct_parts f a b at
unfolding of_kind
kinds_make f a b at =
    let c = closed_count f a in
    let n = begun_count f b - closed_count f a in
    let by = λ (wanted : Option Kind → Bool) (i : ℕ). cond (wanted (kind_of f i a b)) (full (at i)) None in
    let cs = numbered_list c n (by is_closing) in
    let ps = numbered_list c n (by is_pending) in
    let os = numbered_list c n (by is_opening) in
    same_map nat_cmp_total nat_cmp-IsAntisymmetric _ _ (λ i.
    get-from_entries nat_cmp_total (cs ++ (ps ++ os)) i
    ∙ found_in i cs (ps ++ os) ∙ ap (option_or (find nat_cmp i cs)) (found_in i ps os)
    ∙ three_lists i c n (by is_closing) (by is_pending) (by is_opening) (by is_part) (λ k. one_of (kind_of f k a b) (full (at k)))
    ∙ sym (get-from_entries nat_cmp_total (numbered_list c n (by is_part)) i))

pub parts_between : (q : Tree) (r : Input) (x y : ℕ) → (piece_between q r x y).parts ≡ direct_parts (frame q) (mark_at r x) (mark_at r y) (λ i. part q i r.rows x y)
unfolding piece_between shares_between
parts_between q r x y = kinds_make (frame q) (mark_at r x) (mark_at r y) (λ i. part q i r.rows x y)
