-- A call of a reader, of one input or of two.
use Rattle.std.proofs.Common.{◌≡◌, ◌≤◌, ℕ, ◌+◌, List, [], ◌∷◌, Option, Some, None, Result, Ok, Err, IfSome, true, false, not, ◌&&◌, pos, refl, sym, ◌∙◌, ap, subst}
use Rattle.saber_plan.specs.declared.rows.Row.{Row}
use Rattle.saber_plan.specs.declared.rows.Side.{Side}
use Rattle.saber_plan.specs.declared.rows.Side.TheVariants.{Left, Right}
use Rattle.saber_plan.specs.declared.windows.Mark.{Mark}
use Rattle.saber_plan.specs.Rows.{SideRules, RowFits, stamp, bad}
use Rattle.saber_plan.specs.Windows.{by_side, step_mark, in_order, can_follow}
use Rattle.saber_plan.specs.Trees.{Tree}
use Rattle.saber_plan.specs.Checked.{columns_on}
use Rattle.saber_plan.specs.GivenRows.{IsRowOf}
use Rattle.saber_rows.specs.declared.ends.RowEnd.{RowEnd}
use Rattle.saber_rows.specs.declared.ends.RowEnd.TheVariants as ends
use Rattle.saber_rows.specs.Reader as readers
use Rattle.saber_rows.specs.Reader.{HasEnd}
use Rattle.saber_rows.specs.Calls.{EndsBy}
use Rattle.saber_rows.specs.Heads.{bare, EndedBy, Called, SidePassed}
use Rattle.saber_rows.specs.Merging.{Merger, MergeAnswer, MergeTurn, StopsBy}
use Rattle.saber_dispatch.specs.Readings.{one, two, end_at, answer_one, answer_two, ReadEnds, RulesOf, ReadsOne, ReadsTwo, NextRow, Stepped}
use Rattle.saber_rows.proofs.MergedLaws.{lines_pass}

pub if_some : {A : Type 0} (P Q : A → Type 0) (o : Option A) → IfSome o P → ((a : A) → P a → Q a) → IfSome o Q
if_some P Q None h f = tt
if_some P Q (Some a) h f = f a h

-- a row that fits a side's rules is one of the plan's
row_of : (q : Tree) (side : Side) (r : SideRules) (row : Row) → RulesOf q side r → row.side ≡ side → RowFits row.side r.columns row → IsRowOf q row
row_of q side r row k e f = record {
  stream = subst (λ s. 1 ≤ columns_on q.streams s) (sym e) (subst (λ n. 1 ≤ n) k.columns k.some);
  fits = subst (λ n. RowFits row.side n row) (k.columns ∙ ap (columns_on q.streams) (sym e)) f;
}

pub left_more : (m : Mark) (row : Row) → row.side ≡ Left → m.left + 1 ≡ (step_mark m row).left
left_more m row e = sym (ap (λ s. by_side s (m.left + 1) m.left) e)

pub right_same : (m : Mark) (row : Row) → row.side ≡ Left → (step_mark m row).right ≡ m.right
right_same m row e = ap (λ s. by_side s m.right (m.right + 1)) e

-- where the input did not end, a row that isn't before the last one can follow
follows : (m : Mark) (t : ℕ) → m.ended ≡ false → in_order m.last t ≡ true → can_follow m t ≡ true
follows m t e h = ap (λ b. not b && in_order m.last t) e ∙ h

-- ---- one input

module _ (q : Tree) (m : Mark) (old new : readers.Reader) (had has : Option (List ℕ)) (r : ReadsOne q m old) where
  rules_kept : new.rules ≡ old.rules → RulesOf q Left new.rules
  rules_kept e = subst (RulesOf q Left) (sym e) r.rules

  row_comes : (row : Row) → Called (Ok (Some row)) old new had has → NextRow q m row (one old) (one new) (had ∷ []) (has ∷ [])
  row_comes row c =
      let l = lines_pass (Ok (Some row)) old new had has c Left m.last m.left r.passed in
      let side : row.side ≡ Left = l.fits.own ∙ l.passed.is_side in
      record {
        moves = c.moves;
        fits = row_of q Left new.rules row (rules_kept c.rules) side (subst (λ s. RowFits s new.rules.columns row) (sym l.fits.own) l.fits);
        ordered = follows m (stamp row.values) r.goes_on l.ordered;
        reads = record {
          passed = subst (λ n. SidePassed Left (Some (pos (stamp row.values))) n (bare new)) (left_more m row side) l.passed;
          no_right = right_same m row side ∙ r.no_right;
          goes_on = r.goes_on;
          rules = rules_kept c.rules;
        };
        open_still = opened old.answer refl c.again;
      } where
        opened : (o : Option (Result (Option Row) RowEnd)) → old.answer ≡ o → IfSome old.answer (λ a. (◌≡◌ {A = Result (Option Row) RowEnd} (Ok (Some row)) a) × (new ≡ old)) → new.answer ≡ None
        opened None e h = c.answer e
        opened (Some a) e h =
            let k = subst (λ o. IfSome o (λ x. (◌≡◌ {A = Result (Option Row) RowEnd} (Ok (Some row)) x) × (new ≡ old))) e h in
            let s = subst (λ o. IfSome o (λ x. EndedBy x old)) e r.passed.sure in
            absurd (subst (λ x. EndedBy x old) (sym k.0) s)

  reads_still : SidePassed Left m.last m.left (bare new) → new.rules ≡ old.rules → ReadsOne q m new
  reads_still p e = record { passed = p; no_right = r.no_right; goes_on = r.goes_on; rules = rules_kept e }

  bad_side : SidePassed Left m.last m.left (bare new) → (n : ℕ) (c : _) → HasEnd (bad new.rules.side n c) new → HasEnd (bad Left n c) new
  bad_side p n c h = subst (λ s. HasEnd (bad s n c) new) p.is_side h

  fails : (e : RowEnd) → SidePassed Left m.last m.left (bare new) → EndsBy (Err e) new → ReadEnds (end_at Left e) (one new)
  fails ends.ReadFault p h = h
  fails ends.NoMemory p h = tt
  fails (ends.Bad n c) p h = bad_side p n c h

  pub stepped_one : (a : Result (Option Row) RowEnd) → Called a old new had has → Stepped q m (answer_one a) (one old) (one new) (had ∷ []) (has ∷ [])
  stepped_one (Ok (Some row)) c = row_comes row c
  stepped_one (Ok None) c = let l = lines_pass (Ok None) old new had has c Left m.last m.left r.passed in record { moves = c.moves; ends = l.1.0; reads = reads_still l.0 c.rules }
  stepped_one (Err e) c = let l = lines_pass (Err e) old new had has c Left m.last m.left r.passed in record { moves = c.moves; ends = fails e l.0 l.1; reads = reads_still l.0 c.rules }

-- ---- two

stops : (s : Side) (e : RowEnd) (g : Merger) → StopsBy s e g → ReadEnds (end_at s e) (two g)
stops Left ends.ReadFault g h = h
stops Right ends.ReadFault g h = h
stops s ends.NoMemory g h = tt
stops s (ends.Bad n c) g h = h

module _ (q : Tree) (m : Mark) (old new : Merger) (h1 h2 k1 k2 : Option (List ℕ)) (r : ReadsTwo q m old) (left : new.left.reader.rules ≡ old.left.reader.rules) (right : new.right.reader.rules ≡ old.right.reader.rules) where
  left_kept : RulesOf q Left new.left.reader.rules
  left_kept = subst (RulesOf q Left) (sym left) r.left

  right_kept : RulesOf q Right new.right.reader.rules
  right_kept = subst (RulesOf q Right) (sym right) r.right

  row_by_side : (row : Row) (s : Side) → row.side ≡ s → RowFits row.side (by_side row.side new.left.reader.rules.columns new.right.reader.rules.columns) row → IsRowOf q row
  row_by_side row Left e f = row_of q Left new.left.reader.rules row left_kept e (subst (λ t. RowFits row.side (by_side t new.left.reader.rules.columns new.right.reader.rules.columns) row) e f)
  row_by_side row Right e f = row_of q Right new.right.reader.rules row right_kept e (subst (λ t. RowFits row.side (by_side t new.left.reader.rules.columns new.right.reader.rules.columns) row) e f)

  pub stepped_two : (a : MergeAnswer) → MergeTurn m a old new h1 h2 k1 k2 → Stepped q m (answer_two a) (two old) (two new) (h1 ∷ k1 ∷ []) (h2 ∷ k2 ∷ [])
  stepped_two (Ok (Some row)) t = record {
    moves = t.moves;
    fits = row_by_side row row.side refl t.passed.fits;
    ordered = follows m (stamp row.values) r.goes_on t.passed.ordered;
    reads = record { passed = t.passed.passed; goes_on = r.goes_on; left = left_kept; right = right_kept };
    open_still = t.kept;
  }
  stepped_two (Ok None) t = record { moves = t.moves; ends = t.ends; reads = record { passed = t.passed; goes_on = r.goes_on; left = left_kept; right = right_kept } }
  stepped_two (Err e) t = record { moves = t.moves; ends = stops e.0 e.1 new t.ends; reads = record { passed = t.passed; goes_on = r.goes_on; left = left_kept; right = right_kept } }
