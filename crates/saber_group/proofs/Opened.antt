-- The slices of open windows.
use Rattle.std.proofs.Common.{◌≡◌, ℕ, ◌+◌, ◌-◌, ◌^◌, ◌≤◌, List, [], length, max, take, inl, inr, refl, sym, ◌∙◌, ap, subst, le_trans, ⊎_elim, arith}
use Rattle.std.specs.List.{AllByRecursion}
use Rattle.std.proofs.lemmas.Bool.{cases_lt}
use Rattle.std.proofs.lemmas.List.{length-take-le}
use Rattle.saber_plan.specs.declared.rows.Row.{Row}
use Rattle.saber_plan.specs.declared.windows.Mark.{Mark}
use Rattle.saber_plan.specs.Trees.{Tree}
use Rattle.saber_plan.specs.Parts.{Part, no_part, merge, part_answers}
use Rattle.saber_partial.specs.Tallies.{CanMerge}
use Rattle.saber_partial.specs.PartLaws.{OfRows}
use Rattle.saber_partial.proofs.Counted.{small_merge, small_stay}
use Rattle.saber_sliding.specs.Entries.{Entries, pushed_entries, dropped_entries, part_at, CanFollow, Entered}
use Rattle.saber_sliding.specs.EntryFacts.{all_map, all_dropped, all_pushed, part_at-dropped, part_at-pushed, part_at-behind}
use Rattle.saber_sliding.specs.Windows.{AnswersOf}
use Rattle.saber_group.specs.SliceParts.{answers_over, begun_by, EnteredFrom, IsSlice, Holds, Settled}
use Rattle.saber_group.proofs.Lasting.{part_nil, few_more}
use Rattle.saber_plan.specs.Facts.Parts.{merge-empty_right}

-- ---- windows that are done

-- the slices of no window from there on are gone
pub holds_drop : (q : Tree) (m : Mark) (rows : List Row) (n : ℕ) (es : Entries) → Holds q m rows n es → Holds q m rows n (dropped_entries n es)
holds_drop q m rows n es h = record {
  at = λ i l. h.at i l ∙ sym (part_at-dropped n i es l);
  begun = all_dropped (λ (e : ℕ × Part). e.0 ≤ begun_by q m rows) n es h.begun;
  few = all_dropped (λ (e : ℕ × Part). OfRows q (length rows) e.1) n es h.few;
}

pub holds_later : (q : Tree) (m : Mark) (rows : List Row) (n k : ℕ) (es : Entries) → n ≤ k → Holds q m rows n es → Holds q m rows k es
holds_later q m rows n k es up h = record { at = λ i l. h.at i (le_trans up l); begun = h.begun; few = h.few }

-- what is left of them is still right
pub held_still : (q : Tree) (m : Mark) (rows : List Row) (next done : ℕ) (es fs : Entries) → next ≤ done → fs ≡ dropped_entries done es → Holds q m rows next es → Holds q m rows done fs
held_still q m rows next done es fs up left h = subst (Holds q m rows done) (sym left) (holds_drop q m rows done es (holds_later q m rows next done es up h))

-- they tell the answers of windows that get nothing more
pub answers_held : (q : Tree) (m : Mark) (rows all : List Row) (next low done : ℕ) (es : Entries) → done ≡ max next low → Holds q m rows next es → Settled q m rows all low → AnswersOf q es next done (answers_over q m all)
answers_held q m rows all next low done es most h settled = λ i up more. ap (part_answers q) (sym (settled i (omega (arith, most, up, more))) ∙ h.at i up)

-- ---- more rows

pub holds_nil : (q : Tree) (m : Mark) (n : ℕ) (es : Entries) → es ≡ [] → Holds q m [] n es
holds_nil q m n es e = subst (Holds q m [] n) (sym e) (record { at = λ i l. sym (part_nil q i m); begun = tt; few = tt })

module _ (q : Tree) (m : Mark) (rows : List Row) (x y first past : ℕ) (p : Part) (slice : IsSlice q m rows x y first past p) (next : ℕ) (es : Entries) (contents : Holds q m (take x rows) next es) where
  abbrev IsBegun : ℕ → ℕ × Part → Type 0
  IsBegun k e = e.0 ≤ begun_by q m (take k rows)

  abbrev IsFew : ℕ → ℕ × Part → Type 0
  IsFew k e = OfRows q (length (take k rows)) e.1

  -- the slice can go behind each of them
  pub has_room : x ≤ y → y ≤ length rows → length rows ≤ 2 ^ 40 → CanFollow p es
  has_room up within few =
      let long = length-take-le x rows (omega (arith, up, within)) in
      all_map (IsFew x) (λ e. CanMerge e.1 p) es (λ e h. small_merge q (length (take x rows)) (y - x) e.1 p h slice.few (omega (arith, up, within, few, long))) contents.few

  ends_low : AllByRecursion (λ (e : ℕ × Part). e.0 ≤ past) es
  ends_low = all_map (IsBegun x) (λ e. e.0 ≤ past) es (λ e h. le_trans h slice.begins) contents.begun

  none_behind : (i : ℕ) → past ≤ i → AllByRecursion (λ (e : ℕ × Part). e.0 ≤ i) es
  none_behind i l = all_map (λ e. e.0 ≤ past) (λ e. e.0 ≤ i) es (λ e h. le_trans h l) ends_low

  begun_more : (e : ℕ × Part) → IsBegun x e → IsBegun y e
  begun_more e h = le_trans h (le_trans slice.begins slice.ends)

  few_both : x ≤ y → y ≤ length rows → length rows ≤ 2 ^ 40 → (e : ℕ × Part) → IsFew x e → IsFew y (e.0, merge e.1 p)
  few_both up within few e h =
      let long = length-take-le x rows (omega (arith, up, within)) in
      let longer = length-take-le y rows (omega (arith, within)) in
      let sum : length (take x rows) + (y - x) ≡ length (take y rows) = omega (arith, up, within, long, longer) in
      subst (λ n. OfRows q n (merge e.1 p)) sum (small_stay q (length (take x rows)) (y - x) e.1 p h slice.few)

  holds_same : first ≤ next → x ≤ y → y ≤ length rows → p ≡ no_part → Holds q m (take y rows) next es
  holds_same low up within none =
      let long = length-take-le x rows (omega (arith, up, within)) in
      let longer = length-take-le y rows (omega (arith, within)) in
      record {
        at = λ i l. ⊎_elim
            (λ h. slice.inside i (le_trans low l) h ∙ (λ j. merge (contents.at i l j) (none j)) ∙ (merge-empty_right (part_at es i)))
            (λ h. slice.behind i (le_trans low l) h ∙ contents.at i l)
            (cases_lt i past);
        begun = all_map (IsBegun x) (IsBegun y) es begun_more contents.begun;
        few = all_map (IsFew x) (IsFew y) es (λ e h. few_more q (length (take x rows)) (length (take y rows)) e.1 (omega (arith, up, long, longer)) h) contents.few;
      }

  -- it is of no window from there on
  holds_past : past ≤ next → x ≤ y → y ≤ length rows → Holds q m (take y rows) next es
  holds_past low up within =
      let long = length-take-le x rows (omega (arith, up, within)) in
      let longer = length-take-le y rows (omega (arith, within)) in
      record {
        at = λ i l. slice.behind i (le_trans slice.order (le_trans low l)) (le_trans low l) ∙ contents.at i l;
        begun = all_map (IsBegun x) (IsBegun y) es begun_more contents.begun;
        few = all_map (IsFew x) (IsFew y) es (λ e h. few_more q (length (take x rows)) (length (take y rows)) e.1 (omega (arith, up, long, longer)) h) contents.few;
      }

  holds_pushed : first ≤ next → x ≤ y → y ≤ length rows → length rows ≤ 2 ^ 40 → Holds q m (take y rows) next (pushed_entries es past p)
  holds_pushed low up within few =
      let long = length-take-le y rows (omega (arith, within)) in
      let begun = all_pushed (IsBegun x) (IsBegun y) es past p begun_more slice.ends contents.begun in
      record {
        at = λ i l. ⊎_elim
            (λ h. slice.inside i (le_trans low l) h ∙ ap (λ a. merge a p) (contents.at i l) ∙ sym (part_at-pushed es past p i h))
            (λ h. slice.behind i (le_trans low l) h ∙ contents.at i l ∙ part_at-behind es i (none_behind i h)
            ∙ sym (part_at-behind (pushed_entries es past p) i (all_pushed (λ e. e.0 ≤ past) (λ e. e.0 ≤ i) es past p (λ e g. le_trans g h) h ends_low)))
            (cases_lt i past);
        begun = begun;
        few = all_pushed (IsFew x) (IsFew y) es past p (few_both up within few) (few_more q (y - x) (length (take y rows)) p (omega (arith, up, long)) slice.few) contents.few;
      }

  pub holds_more : (fs : Entries) (new : ℕ) → new ≡ next → first ≤ next → x ≤ y → y ≤ length rows → length rows ≤ 2 ^ 40 → Entered es past p fs → Holds q m (take y rows) new fs
  holds_more fs new same low up within few (inl e) = subst (λ n. Holds q m (take y rows) n fs) (sym same) (subst (Holds q m (take y rows) next) (sym e.1) (holds_same low up within e.0))
  holds_more fs new same low up within few (inr e) = subst (λ n. Holds q m (take y rows) n fs) (sym same) (subst (Holds q m (take y rows) next) (sym e) (holds_pushed low up within few))

  pub holds_from : (fs : Entries) → first ≤ next → x ≤ y → y ≤ length rows → length rows ≤ 2 ^ 40 → EnteredFrom next es past p fs → Holds q m (take y rows) next fs
  holds_from fs low up within few (inl e) = subst (Holds q m (take y rows) next) (sym e.1) (holds_past e.0 up within)
  holds_from fs low up within few (inr e) = holds_more fs next refl low up within few e
