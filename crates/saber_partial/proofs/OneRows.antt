-- Parts of one group, without a key, as rows of one list, and two rows by themselves.
use Rattle.std.proofs.Common.{◌≡◌, ℕ, zero, suc, ◌+◌, ◌-◌, ◌<◌, ◌≤◌, List, [], ◌∷◌, ◌++◌, length, get_or, map, take, ℤ, pos, refl, sym, ◌∙◌, ap, ap₂, subst, subst₂, append-nil, arith}
use Rattle.std.proofs.Math.ListN.{set}
use Rattle.std.proofs.lemmas.List.{get_or-map, length-map, map-append, map-set}
use Rattle.std.specs.declared.cmp.Ordering.{Ordering}
use Rattle.std.specs.declared.cmp.Ordering.TheVariants.{Less, Equal}
use Rattle.std.specs.Cmp.{tied_itself}
use Rattle.std.specs.List.{AllByRecursion}
use Rattle.saber_plan.specs.declared.plans.Shape.TheVariants.{Group}
use Rattle.saber_plan.specs.Answers.{items_over, key_cmp, line}
use Rattle.saber_plan.specs.Facts.Parts.{total}
use Rattle.saber_plan.specs.Parts.{Part, Numbers, no_part, answers_of, join_numbers, merge, part_answers, part_lines}
use Rattle.saber_plan.specs.Trees.{Tree}
use Rattle.saber_partial.specs.declared.layout.Layout.{Layout}
use Rattle.saber_partial.specs.Flat.{entry_in, HasLayout, HaveLayout, IsLayout, IsRow, Suits}
use Rattle.saber_partial.specs.Ones.{joined_last, last_part, AreKeyless, AreOf, IsOne}
use Rattle.saber_partial.specs.Printing.{joined_row}
use Rattle.saber_partial.specs.Sorted.{alone, part_of, Rises}
use Rattle.saber_partial.specs.Tallies.{CanJoin, CanMerge}
use Rattle.saber_partial.proofs.FlatRows.{row_layout}
use Rattle.saber_partial.proofs.Layouts.{one_layout}
use Rattle.saber_partial.proofs.Lined.{part_lined}
use Rattle.saber_partial.proofs.Listed.{can_both, of_both, of_row, part_listed}
use Rattle.saber_partial.proofs.OneParts.{can_ones, entry_is_one, key_of_one, keyless_is_one, last_at, last_set, merge_ones, no_key}
use Rattle.saber_partial.proofs.Rising.{apart, get_there}
use Rattle.saber_partial.proofs.RowParted.{of_rows_suit}

-- ---- rows of a layout without keys

pub keyless_entry : (l : Layout) (e : List ℤ × Numbers) → HasLayout l e → l.keys ≡ 0 → e.0 ≡ []
keyless_entry l e h z = no_key e.0 (h.keys ∙ z)

row_entry : (l : Layout) (r : List ℤ) → l.keys ≡ 0 → alone (entry_in l r) ≡ alone ([], (entry_in l r).1)
row_entry l r z = ap (λ n. alone (take n r, (entry_in l r).1)) z

pub one_row : (l : Layout) (r : List ℤ) → l.keys ≡ 0 → IsOne (alone (entry_in l r))
one_row l r z = ((entry_in l r).1, row_entry l r z)

pub all_ones : (l : Layout) (es : List (List ℤ × Numbers)) → HaveLayout l es → l.keys ≡ 0 → AllByRecursion IsOne (map alone es)
all_ones l [] h z = tt
all_ones l (e ∷ es) h z = ((e.1, entry_is_one e (keyless_entry l e h.0 z)), all_ones l es h.1 z)

-- a row of one group without a key lies in such a layout
pub keyless_layout : (l : Layout) (r : List ℤ) → IsLayout l → IsRow l r → IsOne (alone (entry_in l r)) → l.keys ≡ 0
keyless_layout l r k h o = sym (row_layout l r k h).keys ∙ ap length (key_of_one (entry_in l r) o)

layout_at : (l : Layout) (es : List (List ℤ × Numbers)) (i : ℕ) (d : List ℤ × Numbers) → i < length es → HaveLayout l es → HasLayout l (get_or es i d)
layout_at l [] i d low h = absurd (omega (arith, low))
layout_at l (e ∷ es) zero d low h = h.0
layout_at l (e ∷ es) (suc i) d low h = layout_at l es i d (omega (arith, low)) h.1

-- rows that can be merged lie alike
pub rows_alike : (l m : Layout) (x e : List ℤ × Numbers) → IsLayout l → IsLayout m → HasLayout l x → HasLayout m e → CanMerge (alone x) (alone e) → l ≡ m
rows_alike l m x e v w h k c = one_layout l m (x ∷ []) (e ∷ []) v w (h, tt) (k, tt) tt tt c (omega arith) (omega arith)

pub alike_first : (l m : Layout) (es : List (List ℤ × Numbers)) (e : List ℤ × Numbers) → IsLayout l → IsLayout m → HaveLayout l es → HasLayout m e
    → AllByRecursion (λ p. CanMerge p (alone e)) (map alone es) → 0 < length es → l ≡ m
alike_first l m [] e v w h k c some = absurd (omega (arith, some))
alike_first l m (x ∷ es) e v w h k c some = rows_alike l m x e v w h.0 k c.0

-- a part of the plan's rows is there: all rows lie as its items ask
pub ones_suit : (q : Tree) (l : Layout) (es : List (List ℤ × Numbers)) → HaveLayout l es → AreOf q (map alone es) → 0 < length es → Suits l (length q.keys) q.aggregates
ones_suit q l es h p some = of_rows_suit q p.0 l es h p.1 some

-- an entry of them
module _ (l : Layout) (es : List (List ℤ × Numbers)) (i : ℕ) (d : List ℤ × Numbers) (h : HaveLayout l es) (z : l.keys ≡ 0) (low : i < length es) where
  abbrev here : List ℤ × Numbers
  here = get_or es i d

  none : here.0 ≡ []
  none = keyless_entry l here (layout_at l es i d low h) z

  pub shown_at : get_or (map alone es) i no_part ≡ alone ([], here.1)
  shown_at = get_or-map alone es i d no_part low ∙ entry_is_one here none

  -- which takes in the numbers of another
  module _ (v : Numbers) (p : Part) (is : p ≡ alone ([], v)) where
    pub can_at : CanMerge (get_or (map alone es) i no_part) p → CanJoin here.1 v
    can_at c = can_ones ([], here.1) ([], v) refl (subst₂ CanMerge shown_at is c)

    pub joined_at : (fs : List (List ℤ × Numbers)) → fs ≡ set es i (here.0, join_numbers here.1 v) → map alone fs ≡ set (map alone es) i (merge (get_or (map alone es) i no_part) p)
    joined_at fs new =
        let both : alone (here.0, join_numbers here.1 v) ≡ merge (get_or (map alone es) i no_part) p =
        ap (λ (k : List ℤ). alone (k, join_numbers here.1 v)) none ∙ sym (merge_ones here.1 v) ∙ ap₂ merge (sym shown_at) (sym is) in
        ap (map alone) new ∙ map-set alone es i (here.0, join_numbers here.1 v) ∙ ap (set (map alone es) i) both

-- the last of them takes in a part
pub joined_behind : (l : Layout) (es fs : List (List ℤ × Numbers)) (n : ℕ) (d : List ℤ × Numbers) (v : Numbers) (ps : List Part) (p : Part) → HaveLayout l es → l.keys ≡ 0 → map alone es ≡ ps → p ≡ alone ([], v)
    → 1 ≤ length ps → n ≡ length ps - 1 → fs ≡ set es n ((get_or es n d).0, join_numbers (get_or es n d).1 v) → map alone fs ≡ joined_last p ps
joined_behind l es fs n d v ps p h z seen is some last new =
    let long : length es ≡ length ps = sym (length-map es alone) ∙ ap (length {A = Part}) seen in
    joined_at l es n d h z (omega (arith, some, last, long)) v p is fs new
    ∙ (λ i. set (seen i) n (merge (get_or (seen i) n no_part) p))
    ∙ ap (λ k. set ps k (merge (get_or ps k no_part) p)) last
    ∙ ap (λ x. set ps (length ps - 1) (merge x p)) (last_at ps)
    ∙ last_set ps p

pub can_behind : (l : Layout) (es : List (List ℤ × Numbers)) (n : ℕ) (d : List ℤ × Numbers) (v : Numbers) (ps : List Part) (p : Part) → HaveLayout l es → l.keys ≡ 0 → map alone es ≡ ps → p ≡ alone ([], v)
    → 1 ≤ length ps → n ≡ length ps - 1 → CanMerge (last_part ps) p → CanJoin (get_or es n d).1 v
can_behind l es n d v ps p h z seen is some last c =
    let long : length es ≡ length ps = sym (length-map es alone) ∙ ap (length {A = Part}) seen in
    let there : last_part ps ≡ get_or (map alone es) n no_part = sym (last_at ps) ∙ ap (λ k. get_or ps k no_part) (sym last) ∙ ap (λ qs. get_or qs n no_part) (sym seen) in
    can_at l es n d h z (omega (arith, some, last, long)) v p is (subst (λ x. CanMerge x p) there c)

-- one of them takes in a row that lies by a layout of its own
module _ (l m : Layout) (es : List (List ℤ × Numbers)) (i : ℕ) (r : List ℤ) (v : IsLayout l) (w : IsLayout m) (h : HaveLayout l es) (z : l.keys ≡ 0) (s : IsRow m r)
    (ps : List Part) (p : Part) (seen : map alone es ≡ ps) (is : alone (entry_in m r) ≡ p) (low : i < length ps) (c : CanMerge (get_or ps i no_part) p) where
  there : i < length es
  there = let long : length es ≡ length ps = sym (length-map es alone) ∙ ap (length {A = Part}) seen in omega (arith, low, long)

  abbrev own : List ℤ × Numbers
  own = entry_in m r

  can_own : CanMerge (get_or (map alone es) i no_part) (alone own)
  can_own = subst₂ (λ (qs : List Part) (q : Part). CanMerge (get_or qs i no_part) q) (sym seen) (sym is) c

  pub same_layout : l ≡ m
  same_layout = rows_alike l m (get_or es i own) own v w (layout_at l es i own there h) (row_layout m r w s)
      (subst (λ (q : Part). CanMerge q (alone own)) (get_or-map alone es i own no_part there) can_own)

  pub row_here : IsRow l r
  row_here = subst (λ (x : Layout). IsRow x r) (sym same_layout) s

  abbrev val : Numbers
  val = (entry_in l r).1

  pub can_take : (d : List ℤ × Numbers) → CanJoin (get_or es i d).1 val
  can_take d = can_at l es i d h z there val (alone (entry_in l r)) (row_entry l r z)
      (subst (λ (x : Layout). CanMerge (get_or (map alone es) i no_part) (alone (entry_in x r))) (sym same_layout) can_own)

  pub taken : (fs : List (List ℤ × Numbers)) (d : List ℤ × Numbers) → fs ≡ set es i ((get_or es i d).0, join_numbers (get_or es i d).1 val) → map alone fs ≡ set ps i (merge (get_or ps i no_part) p)
  taken fs d new =
      let theirs : alone (entry_in l r) ≡ p = ap (λ (x : Layout). alone (entry_in x r)) same_layout ∙ is in
      joined_at l es i d h z there val (alone (entry_in l r)) (row_entry l r z) fs new ∙ (λ k. set (seen k) i (merge (get_or (seen k) i no_part) (theirs k)))

-- one of them takes in the next
module _ (l : Layout) (es : List (List ℤ × Numbers)) (i : ℕ) (h : HaveLayout l es) (z : l.keys ≡ 0) (ps : List Part) (seen : map alone es ≡ ps) (low : i + 1 < length ps) where
  second : i + 1 < length es
  second = let long : length es ≡ length ps = sym (length-map es alone) ∙ ap (length {A = Part}) seen in omega (arith, low, long)

  first : i < length es
  first = let a = second in omega (arith, a)

  pub can_next : CanMerge (get_or ps i no_part) (get_or ps (i + 1) no_part) → (d : List ℤ × Numbers) → CanJoin (get_or es i d).1 (get_or es (i + 1) d).1
  can_next c d = can_at l es i d h z first (get_or es (i + 1) d).1 (get_or (map alone es) (i + 1) no_part) (shown_at l es (i + 1) d h z second)
      (subst (λ (qs : List Part). CanMerge (get_or qs i no_part) (get_or qs (i + 1) no_part)) (sym seen) c)

  pub joined_next : (fs : List (List ℤ × Numbers)) (d : List ℤ × Numbers) → fs ≡ set es i ((get_or es i d).0, join_numbers (get_or es i d).1 (get_or es (i + 1) d).1)
      → map alone fs ≡ set ps i (merge (get_or ps i no_part) (get_or ps (i + 1) no_part))
  joined_next fs d new =
      joined_at l es i d h z first (get_or es (i + 1) d).1 (get_or (map alone es) (i + 1) no_part) (shown_at l es (i + 1) d h z second) fs new
      ∙ ap (λ (qs : List Part). set qs i (merge (get_or qs i no_part) (get_or qs (i + 1) no_part))) seen

-- a row more
pub pushed_row : (l m : Layout) (es ds fs : List (List ℤ × Numbers)) (r : List ℤ) (ps : List Part) (p : Part) → l ≡ m → ds ≡ es → map alone es ≡ ps → alone (entry_in m r) ≡ p
    → fs ≡ ds ++ entry_in l r ∷ [] → map alone fs ≡ ps ++ p ∷ []
pushed_row l m es ds fs r ps p same old seen is new =
    ap (map alone) (new ∙ ap (λ es. es ++ entry_in l r ∷ []) old) ∙ map-append alone es (entry_in l r ∷ [])
    ∙ (λ i. seen i ++ (ap (λ (x : Layout). alone (entry_in x r)) same ∙ is) i ∷ [])

-- ---- the first group of a part

unequal : (o : Ordering) → o ≡ Equal → o ≡ Less → ⊥
unequal o e h = cc

-- where no group has a key, there is one at most
pub only_one : (es : List (List ℤ × Numbers)) (d : List ℤ × Numbers) → Rises es → 0 < length es → AreKeyless (part_of es) → (alone (get_or es 0 d) ≡ part_of es) × IsOne (alone (get_or es 0 d))
only_one [] d s some h = absurd (omega (arith, some))
only_one (e ∷ []) d s some h = (refl, keyless_is_one e h)
only_one (e ∷ f ∷ es) d s some h =
    let first : e.0 ≡ [] = h e.0 e.1 (get_there (e ∷ f ∷ es) e.0 0 d s (omega arith) refl) in
    let second : f.0 ≡ [] = h f.0 f.1 (get_there (e ∷ f ∷ es) f.0 1 d s (omega arith) refl) in
    let order = apart (e ∷ f ∷ es) 0 1 d s (omega arith) (omega arith) in
    absurd (unequal (key_cmp e.0 f.0) (ap₂ key_cmp first second ∙ tied_itself total []) order)

-- ---- lines and answers

module _ (q : Tree) (l : Layout) (r : List ℤ) (g : q.shape ≡ Group) (k : IsLayout l) (h : IsRow l r) where
  abbrev entry : List ℤ × Numbers
  entry = entry_in l r

  pub lines_alone : (i : ℕ) → line (pos i ∷ items_over q.items r []) ≡ part_lines q i (alone entry)
  lines_alone i =
      ap (λ zs. line (pos i ∷ zs)) (of_row q.items l r entry k h refl)
      ∙ sym (append-nil (line (pos i ∷ answers_of Group q.items entry.0 entry.1)))
      ∙ part_lined q i (entry ∷ []) g tt

  pub answers_alone : items_over q.items r [] ∷ [] ≡ part_answers q (alone entry)
  answers_alone = ap (λ zs. zs ∷ []) (of_row q.items l r entry k h refl) ∙ part_listed q (entry ∷ []) g tt

-- two rows of one group without a key, that can be merged
module _ (l m : Layout) (xs ys : List ℤ) (k : IsLayout l) (j : IsLayout m) (r : IsRow l xs) (s : IsRow m ys)
    (one : IsOne (alone (entry_in l xs))) (other : IsOne (alone (entry_in m ys))) (c : CanMerge (alone (entry_in l xs)) (alone (entry_in m ys))) where
  abbrev mine : List ℤ × Numbers
  mine = entry_in l xs

  abbrev theirs : List ℤ × Numbers
  theirs = entry_in m ys

  pub lie_alike : l ≡ m
  lie_alike = rows_alike l m mine theirs k j (row_layout l xs k r) (row_layout m ys j s) c

  pub later_row : IsRow l ys
  later_row = subst (λ (x : Layout). IsRow x ys) (sym lie_alike) s

  can : CanJoin mine.1 theirs.1
  can = can_ones mine theirs (key_of_one mine one ∙ sym (key_of_one theirs other)) c

  pub can_join : CanJoin (entry_in l xs).1 (entry_in l ys).1
  can_join = can_both l l m xs ys mine theirs refl lie_alike k r s refl refl can

  abbrev both : List ℤ × Numbers
  both = (mine.0, join_numbers mine.1 theirs.1)

  merged : alone both ≡ merge (alone mine) (alone theirs)
  merged =
      ap (λ (n : List ℤ). alone (n, join_numbers mine.1 theirs.1)) (key_of_one mine one) ∙ sym (merge_ones mine.1 theirs.1)
      ∙ ap₂ merge (sym (entry_is_one mine (key_of_one mine one))) (sym (entry_is_one theirs (key_of_one theirs other)))

  pub lines_pair : (q : Tree) (i : ℕ) → q.shape ≡ Group → line (pos i ∷ items_over q.items (joined_row l xs ys) []) ≡ part_lines q i (merge (alone mine) (alone theirs))
  lines_pair q i g =
      ap (λ zs. line (pos i ∷ zs)) (of_both l l m xs ys mine theirs refl lie_alike k r s refl refl can q.items)
      ∙ sym (append-nil (line (pos i ∷ answers_of Group q.items both.0 both.1)))
      ∙ part_lined q i (both ∷ []) g tt ∙ ap (part_lines q i) merged

  pub answers_pair : (q : Tree) → q.shape ≡ Group → items_over q.items (joined_row l xs ys) [] ∷ [] ≡ part_answers q (merge (alone mine) (alone theirs))
  answers_pair q g =
      ap (λ zs. zs ∷ []) (of_both l l m xs ys mine theirs refl lie_alike k r s refl refl can q.items)
      ∙ part_listed q (both ∷ []) g tt ∙ ap (part_answers q) merged
