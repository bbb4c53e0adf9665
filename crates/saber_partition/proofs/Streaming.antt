-- A queue of the parts of one stream of rows: one row more, and windows that are done.
use Rattle.std.proofs.Common.{◌≡◌, ℕ, ◌+◌, ◌-◌, ◌^◌, ◌≤◌, ◌<◌, max, List, [], ◌∷◌, ◌++◌, filter, map, length, slice_range, Bool, true, false, cond, nat_lt, None, inl, inr, refl, sym, ◌∙◌, ap, subst, le_trans, ⊎_elim, length-append, arith}
use Rattle.std.specs.List.{AllByRecursion}
use Rattle.std.proofs.lemmas.Bool.{cases_lt}
use Rattle.std.proofs.lemmas.List.{map-append, take_all}
use Rattle.std.proofs.lemmas.List.Elements.{filter-append}
use Rattle.saber_plan.specs.declared.rows.Row.{Row}
use Rattle.saber_plan.specs.declared.plans.Shape.TheVariants.{Group}
use Rattle.saber_plan.specs.Trees.{Tree}
use Rattle.saber_plan.specs.Values.{passes}
use Rattle.saber_plan.specs.Windows.{Placed, no_rows, mark_of, placed_from_start, placed_after, has}
use Rattle.saber_plan.specs.Answers.{frame, passing_values, by_shape, answer_lines, lines, lines_from, past_in, begun_in}
use Rattle.saber_plan.specs.Facts.Lists.{few_pass}
use Rattle.saber_plan.specs.Parts as p
use Rattle.saber_plan.specs.Parts.{Part, part, no_part, group_part, pair_part, merge, part_lines, part_answers}
use Rattle.saber_plan.specs.Facts.Numbers.{flat_map-from}
use Rattle.saber_plan.specs.Facts.Rows.{placed-append, placed-one, length-placed, few_rows}
use Rattle.saber_partial.specs.Tallies.{CanMerge}
use Rattle.saber_partial.specs.PartLaws.{OfRows}
use Rattle.saber_sliding.specs.Entries.{Entries, dropped_entries, part_at, CanFollow, Put}
use Rattle.saber_sliding.specs.EntryFacts.{all_map, all_dropped, all_put, part_at-dropped, part_at-put, part_at-behind}
use Rattle.saber_changes.specs.Outputs.{printed_at, printed_from}
use Rattle.saber_sliding.specs.Windows.{answers_at}
use Rattle.saber_changes.specs.OutputFacts.{lines_are as lines_of_answers}
use Rattle.saber_partition.specs.Streams.{part_of, lines_between, row_part, Entered, Holds, Printed, Comes, Came}
use Rattle.saber_partition.proofs.Counting.{has_is, past_rises, begun_rises, lt_true, lt_false}
use Rattle.saber_partial.proofs.Counted.{groups_are_of_rows, small_merge, small_stay}
use Rattle.saber_laws.proofs.PartLaws.{groups_join}
use Rattle.saber_laws.proofs.CutLaws.{no_rows_no_part}
use Rattle.saber_laws.proofs.ShareLaws.{part_has_lines}
use Rattle.saber_plan.specs.Facts.Parts.{merge-empty_right}

-- ---- windows that are done

-- the entries of no window from there on are gone
pub holds_drop : (q : Tree) (us : List Row) (n : ℕ) (es : Entries) → Holds q us n es → Holds q us n (dropped_entries n es)
holds_drop q us n es h = record {
  at = λ i l. h.at i l ∙ sym (part_at-dropped n i es l);
  begun = all_dropped (λ (e : ℕ × Part). e.0 ≤ begun_in q us) n es h.begun;
  few = all_dropped (λ (e : ℕ × Part). OfRows q (length us) e.1) n es h.few;
}

pub holds_later : (q : Tree) (us : List Row) (n k : ℕ) (es : Entries) → n ≤ k → Holds q us n es → Holds q us k es
holds_later q us n k es up h = record { at = λ i l. h.at i (le_trans up l); begun = h.begun; few = h.few }

-- a queue from which they went
held_still : (q : Tree) (us : List Row) (next done : ℕ) (es fs : Entries) → next ≤ done → fs ≡ dropped_entries done es → Holds q us next es → Holds q us done fs
held_still q us next done es fs up left h = subst (Holds q us done) (sym left) (holds_drop q us done es (holds_later q us next done es up h))

-- what windows print of a queue are the lines of the rows' own parts
pub printed : (q : Tree) (next : ℕ) (es : Entries) (done : ℕ) (before after : List ℕ) → after ≡ before ++ printed_from None (answers_at q es) next done → Printed q next es done before after
printed q next es done before after text = λ us h.
    text ∙ ap (λ l. before ++ l) (flat_map-from (printed_at None (answers_at q es)) (λ i. part_lines q i (part_of q i us)) next (done - next)
    (λ i l r. ap (λ p. answer_lines i (part_answers q p)) (sym (h.at i l)) ∙ sym (lines_of_answers q i (part_of q i us))))

-- the part of a window over all rows
part_whole : (q : Tree) → q.shape ≡ Group → (i : ℕ) (us : List Row) → part q i us 0 (length us) ≡ part_of q i us
part_whole q e i us =
    let long = length-placed no_rows us in
    let all : slice_range (placed_from_start us) 0 (length us) ≡ placed_from_start us = take_all (length us - 0) (placed_from_start us) (omega (arith, long)) in
    ap (λ s. by_shape s (p.row_part q (filter (has (frame q) i) (slice_range (placed_from_start us) 0 (length us)))) (group_part q (passing_values q (filter (has (frame q) i) (slice_range (placed_from_start us) 0 (length us))))) (pair_part q 0 (filter (has (frame q) i) (slice_range (placed_from_start us) 0 (length us))))) e
    ∙ ap (λ l. group_part q (passing_values q (filter (has (frame q) i) l))) all

-- the lines of windows are those of their parts
pub lines_are : (q : Tree) → q.shape ≡ Group → (us : List Row) (a b : ℕ) → lines_from q us a b ≡ lines_between q us a b
lines_are q e us a b = flat_map-from (λ i. lines q i us) (λ i. part_lines q i (part_of q i us)) a (b - a) (λ i l h. part_has_lines q i us ∙ ap (part_lines q i) (part_whole q e i us))

-- and so the parts that are kept are those of the definition
pub part_is_whole : (q : Tree) → q.shape ≡ Group → (i : ℕ) (us : List Row) → part_of q i us ≡ part q i us 0 (length us)
part_is_whole q e i us = sym (part_whole q e i us)

-- ---- no rows

pub holds_nothing : (q : Tree) (n : ℕ) (es : Entries) → es ≡ [] → Holds q [] n es
unfolding placed_after
holds_nothing q n es e = subst (Holds q [] n) (sym e) (record { at = λ i l. (no_rows_no_part q).of_groups; begun = tt; few = tt })

-- ---- one row more

few_more : (q : Tree) (n k : ℕ) (m : Part) → n ≤ k → OfRows q n m → OfRows q k m
few_more q n k m h few = record { at = λ key a e. (le_trans (few.at key a e).0 h, (few.at key a e).1); keys = few.keys }

one_case : (q : Tree) (x : Placed) (b : Bool) → group_part q (passing_values q (cond b (x ∷ []) [])) ≡ cond b (row_part q x.row) no_part
one_case q x true = refl
one_case q x false = (no_rows_no_part q).of_groups

passing-append : (q : Tree) (us vs : List Placed) → passing_values q (us ++ vs) ≡ passing_values q us ++ passing_values q vs
passing-append q us vs = ap (filter (λ zs. passes q.predicate zs [])) (map-append (λ x. x.row.values) us vs) ∙ filter-append (λ zs. passes q.predicate zs []) (map (λ x. x.row.values) us) (map (λ x. x.row.values) vs)

part_next : (q : Tree) (i : ℕ) (us : List Row) (r : Row)
    → part_of q i (us ++ r ∷ []) ≡ merge (part_of q i us) (cond (has (frame q) i (record { row = r; before = mark_of us })) (row_part q r) no_part)
part_next q i us r =
    let x : Placed = record { row = r; before = mark_of us } in
    let here = filter (has (frame q) i) (placed_from_start us) in
    ap (λ l. group_part q (passing_values q (filter (has (frame q) i) l))) (placed-append no_rows us (r ∷ []) ∙ ap (λ l. placed_from_start us ++ l) (placed-one (mark_of us) r))
    ∙ ap (λ l. group_part q (passing_values q l)) (filter-append (has (frame q) i) (placed_from_start us) (x ∷ []))
    ∙ ap (group_part q) (passing-append q here (cond (has (frame q) i x) (x ∷ []) []))
    ∙ groups_join q (passing_values q here) (passing_values q (cond (has (frame q) i x) (x ∷ []) []))
    ∙ ap (merge (part_of q i us)) (one_case q x (has (frame q) i x))

module _ (q : Tree) (us : List Row) (r : Row) (low past : ℕ) (m : Part) (c : Comes q us r low past m) where
  abbrev all : List Row
  all = us ++ r ∷ []

  longer : length all ≡ length us + 1
  longer = length-append us (r ∷ [])

  few : length us + 1 ≤ 2 ^ 40
  few = let most = few_rows q c.asks.window.stream c.asks.window.streams no_rows all c.fits in let long = longer in omega (arith, most, long)

  of_row : OfRows q 1 m
  of_row = subst (OfRows q 1) (sym c.part_is)
      (few_more q (length (filter (λ zs. passes q.predicate zs []) (r.values ∷ []))) 1 (row_part q r) (few_pass (λ zs. passes q.predicate zs []) (r.values ∷ []))
      (groups_are_of_rows q (filter (λ zs. passes q.predicate zs []) (r.values ∷ []))))

  part_by : (b : Bool) (i : ℕ) → past_in q us ≤ i → nat_lt i past ≡ b → part_of q i all ≡ merge (part_of q i us) (cond b m no_part)
  part_by b i l e =
      part_next q i us r
      ∙ ap (λ t. merge (part_of q i us) (cond t (row_part q r) no_part)) (has_is q c.asks us r c.fits i l ∙ ap (nat_lt i) (sym c.past_is) ∙ e)
      ∙ ap (λ o. merge (part_of q i us) (cond b o no_part)) (sym c.part_is)

  inside : (i : ℕ) → past_in q us ≤ i → i < past → part_of q i all ≡ merge (part_of q i us) m
  inside i l h = part_by true i l (lt_true i past h)

  behind : (i : ℕ) → past_in q us ≤ i → past ≤ i → part_of q i all ≡ part_of q i us
  behind i l h = part_by false i l (lt_false i past h) ∙ (merge-empty_right (part_of q i us))

  begun_up : begun_in q us ≤ past
  begun_up = subst (λ n. begun_in q us ≤ n) (sym c.past_is) (begun_rises q c.asks us r c.fits)

  module _ (next : ℕ) (es : Entries) (next_is : next ≡ past_in q us) (contents : Holds q us next es) where
    low_next : (i : ℕ) → next ≤ i → past_in q us ≤ i
    low_next i l = subst (λ n. n ≤ i) next_is l

    abbrev IsBegun : List Row → ℕ × Part → Type 0
    IsBegun xs e = e.0 ≤ begun_in q xs

    abbrev IsFew : List Row → ℕ × Part → Type 0
    IsFew xs e = OfRows q (length xs) e.1

    -- the row can go behind each of them
    pub has_room : CanFollow m es
    has_room = all_map (IsFew us) (λ e. CanMerge e.1 m) es (λ e h. small_merge q (length us) 1 e.1 m h of_row few) contents.few

    ends_low : AllByRecursion (λ (e : ℕ × Part). e.0 ≤ past) es
    ends_low = all_map (IsBegun us) (λ e. e.0 ≤ past) es (λ e h. le_trans h begun_up) contents.begun

    none_behind : (i : ℕ) → past ≤ i → AllByRecursion (λ (e : ℕ × Part). e.0 ≤ i) es
    none_behind i l = all_map (λ e. e.0 ≤ past) (λ e. e.0 ≤ i) es (λ e h. le_trans h l) ends_low

    begun_more : (e : ℕ × Part) → IsBegun us e → IsBegun all e
    begun_more e h = subst (λ n. e.0 ≤ n) c.past_is (le_trans h begun_up)

    few_same : (e : ℕ × Part) → IsFew us e → IsFew all e
    few_same e h = let long = longer in few_more q (length us) (length all) e.1 (omega (arith, long)) h

    few_both : (e : ℕ × Part) → IsFew us e → IsFew all (e.0, merge e.1 m)
    few_both e h = subst (λ n. OfRows q n (merge e.1 m)) (sym longer) (small_stay q (length us) 1 e.1 m h of_row)

    few_one : IsFew all (past, m)
    few_one = let long = longer in few_more q 1 (length all) m (omega (arith, long)) of_row

    holds_same : m ≡ no_part → Holds q all next es
    holds_same none = record {
      at = λ i l. ⊎_elim
          (λ h. inside i (low_next i l) h ∙ (λ j. merge (contents.at i l j) (none j)) ∙ (merge-empty_right (part_at es i)))
          (λ h. behind i (low_next i l) h ∙ contents.at i l)
          (cases_lt i past);
      begun = all_map (IsBegun us) (IsBegun all) es begun_more contents.begun;
      few = all_map (IsFew us) (IsFew all) es few_same contents.few;
    }

    past_low : past ≤ begun_in q all
    past_low = subst (λ n. past ≤ n) c.past_is (omega arith)

    holds_put : (fs : Entries) → Put es past m fs → Holds q all next fs
    holds_put fs put = record {
      at = λ i l. ⊎_elim
          (λ h. inside i (low_next i l) h ∙ ap (λ a. merge a m) (contents.at i l) ∙ sym (part_at-put es past m fs i put h))
          (λ h. behind i (low_next i l) h ∙ contents.at i l ∙ part_at-behind es i (none_behind i h)
          ∙ sym (part_at-behind fs i (all_put (λ e. e.0 ≤ past) (λ e. e.0 ≤ i) es past m fs (λ e g. le_trans g h) h put ends_low)))
          (cases_lt i past);
      begun = all_put (IsBegun us) (IsBegun all) es past m fs begun_more past_low put contents.begun;
      few = all_put (IsFew us) (IsFew all) es past m fs few_both few_one put contents.few;
    }

    pub holds_more : (fs : Entries) → Entered es past m fs → Holds q all next fs
    holds_more fs (inl e) = subst (Holds q all next) (sym e.1) (holds_same e.0)
    holds_more fs (inr put) = holds_put fs put

    -- the row is in, and the windows below `low` are done
    pub came : (fs gs : Entries) (done begun : ℕ) (before after : List ℕ) → Entered es past m fs → gs ≡ dropped_entries done fs → after ≡ before ++ printed_from None (answers_at q fs) next done
        → done ≡ max next low → begun ≡ past → Came q us r done begun gs before after
    came fs gs done begun before after entered left text most same =
        let up = past_rises q c.asks us r c.fits in
        let n_is = next_is in
        let l_is = c.low_is in
        let at_low : done ≡ low = omega (arith, most, up, n_is, l_is) in
        let more = holds_more fs entered in
        record {
          keeps = record { holds = held_still q all next done fs gs (omega (arith, most)) left more; next_is = at_low ∙ c.low_is; begun_is = same ∙ c.past_is };
          text = printed q next fs done before after text all more ∙ ap (λ l. before ++ l) ((λ j. lines_between q all (next_is j) ((at_low ∙ c.low_is) j)) ∙ sym (lines_are q c.asks.group all (past_in q us) (past_in q all)));
        }
