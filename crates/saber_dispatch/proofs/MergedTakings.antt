-- Rows of two inputs that were taken as their sides held them.
use Rattle.std.proofs.Common.{◌≡◌, ◌≤◌, ◌<◌, ◌^◌, ℕ, zero, suc, ◌+◌, ◌-◌, List, [], ◌∷◌, ◌++◌, length, drop, Option, Some, Ok, refl, sym, ◌∙◌, ap, subst, arith, length-append}
use Rattle.std.specs.List.{AllByRecursion}
use Rattle.saber_plan.specs.declared.rows.Row.{Row}
use Rattle.saber_plan.specs.declared.rows.Side.{Side}
use Rattle.saber_plan.specs.declared.rows.Side.TheVariants.{Left, Right}
use Rattle.saber_plan.specs.declared.windows.Mark.{Mark}
use Rattle.saber_plan.specs.Rows.{stamp}
use Rattle.saber_plan.specs.Windows.{by_side, step_mark, mark_after}
use Rattle.saber_plan.specs.Trees.{Tree}
use Rattle.saber_plan.specs.GivenRows.{IsRowOf}
use Rattle.saber_rows.specs.Merging.{Merger}
use Rattle.saber_rows.specs.MergedRows.{StillGives, MergeStands, MergesOne, MergesRows, TakesMerged}
use Rattle.saber_dispatch.specs.Readings.{two, Reads, RulesOf, ReadsTwo, NextRow, IsOpen}
use Rattle.saber_dispatch.specs.Filling.{Filling, TakesOn, prepend}
use Rattle.saber_dispatch.proofs.ReadSteps.{stepped_two}
use Rattle.saber_dispatch.proofs.Fillings.{Lefts, go_on, filling_nothing, filling_more, filling_still, filling_reads, small}
use Rattle.saber_window.proofs.Stamps.{stamps_fit}

-- a step counts one row
counts_one : (m : Mark) (x : Row) → (step_mark m x).left + (step_mark m x).right ≡ m.left + m.right + 1
counts_one m x = by_case x.side where
  by_case : (s : Side) → by_side s (m.left + 1) m.left + by_side s m.right (m.right + 1) ≡ m.left + m.right + 1
  by_case Left = omega arith
  by_case Right = omega arith

drop_front : (xs ys : List Row) → drop (length xs) (xs ++ ys) ≡ ys
drop_front [] ys = refl
drop_front (x ∷ xs) ys = drop_front xs ys

all_so : {A : Type 0} (P Q : A → Type 0) → ((x : A) → P x → Q x) → (xs : List A) → AllByRecursion P xs → AllByRecursion Q xs
all_so P Q f [] h = tt
all_so P Q f (x ∷ xs) h = (f x h.0, all_so P Q f xs h.1)

module _ (q : Tree) (m : Mark)
    (old : Merger) (left right : Option (List ℕ)) (had : List Row) (r : ReadsTwo q m old) where
  abbrev here : Lefts
  here = left ∷ right ∷ []

  -- so many came
  pub record Taken (n : ℕ) (new : Merger) (has : List Row) : Type 0 where
    pub mark : Mark
    pub filling : Filling n q m mark (two old) (two new) here here had has
    pub total : mark.left + mark.right ≡ m.left + m.right + n
    pub open_still : IsOpen (two old) → IsOpen (two new)

  none_taken : (new : Merger) (has : List Row) → new ≡ old → has ≡ had → Taken 0 new has
  none_taken new has e k = record {
    mark = m;
    filling = filling_still 0 q m m (two old) (two old) (two new) here here had had has (ap two e) k (filling_nothing q m (two old) here had tt r);
    total = omega arith;
    open_still = λ o. subst (λ x. IsOpen (two x)) (sym e) o;
  }

  module _ (n : ℕ) (mid new : Merger) (there has : List Row) (t : Taken n mid there) (o : MergesOne mid new there has) where
    reads : ReadsTwo q t.mark mid
    reads = filling_reads n q m t.mark (two old) (two mid) here here had there t.filling

    next : NextRow q t.mark o.row (two mid) (two new) here here
    next = stepped_two q t.mark mid new left left right right reads o.left_rules o.right_rules (Ok (Some o.row)) (o.turn left right t.mark reads.passed)

    one_more : Taken (n + 1) new has
    one_more = record {
      mark = step_mark t.mark o.row;
      filling = filling_more n q m t.mark (two old) (two mid) (two new) here here here had there t.filling (step_mark t.mark o.row) has o.row next refl o.put;
      total = omega (arith, counts_one t.mark o.row, t.total);
      open_still = λ _. next.open_still;
    }

  taken : (n : ℕ) (new : Merger) (has : List Row) → MergesRows n old new had has → Taken n new has
  taken zero new has t = none_taken new has t.0 t.1
  taken (suc n) new has t = subst (λ k. Taken k new has) next_is (one_more n t.0 new t.1 has (taken n t.0 t.1 t.2) t.3) where
    next_is : n + 1 ≡ suc n
    next_is = omega arith

  -- a look at the sides takes nothing
  looked : (n : ℕ) (mid new : Merger) (has : List Row) → Taken n mid has → MergeStands mid new → Taken n new has
  looked n mid new has t s =
      let f = t.filling in
      let reads : ReadsTwo q t.mark mid = filling_reads n q m t.mark (two old) (two mid) here here had has f in
      let k : StillGives t.mark mid new = s.still t.mark reads.passed in
      let now : ReadsTwo q t.mark new = record {
        passed = k.passed;
        goes_on = reads.goes_on;
        left = subst (RulesOf q Left) (sym s.left_rules) reads.left;
        right = subst (RulesOf q Right) (sym s.right_rules) reads.right;
      } in
      record {
        mark = t.mark;
        filling = record {
          rows = f.rows;
          took = record {
            moves = go_on (prepend f.rows) (λ rest. rest) (two old) (two mid) (two new) here here here f.took.moves (k.moves left right);
            fits = f.took.fits;
            ordered = f.took.ordered;
            reads = subst (λ x. Reads q x (two new)) f.mark now;
          };
          mark = f.mark;
          kept = f.kept;
          count = f.count;
        };
        total = t.total;
        open_still = λ o. k.goes (t.open_still o);
      }

  pub all_taken : (n : ℕ) (new : Merger) (has : List Row) → TakesMerged n old new had has → Taken n new has
  all_taken n new has t = looked n t.0 new has (taken n t.0 has t.1) t.2

  -- the rows behind those that were there
  pub record Behind (n from : ℕ) (has : List Row) : Type 0 where
    pub within : from ≤ length has
    pub few : m.left + (length has - from) < 2 ^ 63
    pub few_right : m.right + (length has - from) < 2 ^ 63
    pub times : AllByRecursion (λ x. stamp x.values < 2 ^ 63) (drop from has)

  pub behind : (n from : ℕ) (new : Merger) (has : List Row) → from ≡ length had → TakesMerged n old new had has → Behind n from has
  behind n from new has e t =
      let k = all_taken n new has t in
      let f = k.filling in
      let s = small q k.mark (two new) (filling_reads n q m k.mark (two old) (two new) here here had has f) in
      let long : length has ≡ length had + length f.rows = ap length f.kept ∙ length-append had f.rows in
      let rows : drop from has ≡ f.rows = ap (λ i. drop i has) e ∙ ap (drop (length had)) f.kept ∙ drop_front had f.rows in
      record {
        within = omega (arith, e, long);
        few = omega (arith, e, long, f.count, k.total, s.0, s.1);
        few_right = omega (arith, e, long, f.count, k.total, s.0, s.1);
        times = subst (AllByRecursion (λ x. stamp x.values < 2 ^ 63)) (sym rows) (all_so (IsRowOf q) (λ x. stamp x.values < 2 ^ 63) (λ x h. omega (arith, stamps_fit _ _ x h.fits)) f.rows f.took.fits);
      }

pub takes_merged : (m after : Mark) (old new : Merger) (had has : List Row) (n from : ℕ)
    → from ≡ length had → TakesMerged n old new had has → after ≡ mark_after m (drop from has) → TakesOn n m after (two old) (two new) had has
takes_merged m after old new had has n from e t a q (left ∷ right ∷ []) s r =
    let k = all_taken q m old left right had r n new has t in
    let f = k.filling in
    let rows : drop from has ≡ f.rows = ap (λ i. drop i has) e ∙ ap (drop (length had)) f.kept ∙ drop_front had f.rows in
    let same : after ≡ k.mark = a ∙ ap (mark_after m) rows ∙ sym f.mark in
    (subst (λ x. Filling n q m x (two old) (two new) (left ∷ right ∷ []) (left ∷ right ∷ []) had has) (sym same) f, k.open_still)
takes_merged m after old new had has n from e t a q lefts s r = absurd s
