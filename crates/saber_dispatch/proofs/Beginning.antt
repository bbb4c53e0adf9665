-- A cutter before its first row.
use Rattle.std.proofs.Common.{inl, ◌≡◌, ◌≤◌, ◌^◌, ◌*◌, ◌-◌, ℕ, List, [], ◌∷◌, Option, None, refl, sym, ◌∙◌, ap, subst, arith}
use Rattle.saber_plan.specs.declared.rows.Side.{Side}
use Rattle.saber_plan.specs.declared.rows.Side.TheVariants.{Left, Right}
use Rattle.saber_plan.specs.declared.windows.Stream.{Stream}
use Rattle.saber_plan.specs.declared.plans.Shape.{Shape}
use Rattle.saber_plan.specs.declared.plans.Shape.TheVariants.{Select, Group, Join}
use Rattle.saber_plan.specs.Rows.{SideRules}
use Rattle.saber_plan.specs.Windows.{no_rows, Fits, from}
use Rattle.saber_plan.specs.Answers.{frame}
use Rattle.saber_plan.specs.Inputs.{going_on}
use Rattle.saber_plan.specs.Trees.{Tree}
use Rattle.saber_plan.specs.declared.sizes.Sizes.{Sizes}
use Rattle.saber_plan.specs.Sizes.{SizesFit, FileLimits, limits_of}
use Rattle.saber_plan.specs.Checked.{IsChecked, StreamsFit, ColumnsFit, columns_on}
use Rattle.saber_plan.specs.Needs.{block_lasts}
use Rattle.saber_rows.specs.Reader.{new_reader}
use Rattle.saber_rows.specs.Heads.{bare, SidePassed}
use Rattle.saber_dispatch.specs.declared.cutter.Cutter.{Cutter}
use Rattle.saber_dispatch.specs.declared.lasts.Lasts.{Lasts}
use Rattle.saber_dispatch.specs.Readings.{reading_of, Suits, Reads, IsOpen, RulesOf}
use Rattle.saber_dispatch.specs.Filling.{Took}
use Rattle.saber_dispatch.specs.Cutting.{CutState, LooksBack, KeepsLasts, Cuts, end_counts, fresh, fresh_on}
use Rattle.saber_plan.specs.Files.{rules_on}
use Rattle.saber_dispatch.proofs.Fillings.{took_nothing}
use Rattle.saber_plan.specs.Facts.Counts.{whole_tasks}

no_streams : (s : Shape) → StreamsFit s [] → ⊥
no_streams Select h = h
no_streams Group h = h
no_streams Join h = h

side_begins : (r : SideRules) (side : Side) → r.side ≡ side → SidePassed side None 0 (bare (new_reader r))
side_begins r side e = record { is_side = e; front = tt; sure = tt; order = λ f zs h. refl; counted = omega arith; few = omega arith }

rules_fit : (q : Tree) (limits : FileLimits) (side : Side) → 1 ≤ columns_on q.streams side → limits.most ≤ 2 ^ 40 → RulesOf q side (rules_on q limits side)
rules_fit q limits side h m = record { columns = refl; some = h; most = m }

reads_on : (q : Tree) (limits : FileLimits) (streams : List Stream) → q.streams ≡ streams → StreamsFit q.shape streams → ColumnsFit streams → limits.most ≤ 2 ^ 40 → Reads q no_rows (fresh_on q limits streams)
reads_on q limits [] e h k m = absurd (no_streams q.shape h)
reads_on q limits (s ∷ []) e h k m = record {
  passed = side_begins (rules_on q limits Left) Left refl;
  no_right = refl;
  goes_on = refl;
  rules = rules_fit q limits Left (subst (λ l. 1 ≤ columns_on l Left) (sym e) k.0.0) m;
}
reads_on q limits (s ∷ t ∷ ts) e h k m = record {
  passed = record { left = side_begins (rules_on q limits Left) Left refl; right = side_begins (rules_on q limits Right) Right refl; held = λ f x g. cc };
  goes_on = refl;
  left = rules_fit q limits Left (subst (λ l. 1 ≤ columns_on l Left) (sym e) k.0.0) m;
  right = rules_fit q limits Right (subst (λ l. 1 ≤ columns_on l Right) (sym e) k.1.0.0) m;
}

open_on : (q : Tree) (limits : FileLimits) (streams : List Stream) → IsOpen (fresh_on q limits streams)
open_on q limits [] = refl
open_on q limits (s ∷ []) = refl
open_on q limits (s ∷ t ∷ ts) = refl

no_blocks : (q : Tree) (n : ℕ) → [] ≡ block_lasts (frame q) n (going_on []) 0 (0 - 0)
unfolding from
no_blocks q n = refl

pub keeps_none : (q : Tree) (n : ℕ) (l : Lasts) → q.shape ≡ Join → l.windows ≡ frame q → l.first ≡ 0 → l.list.items ≡ [] → KeepsLasts q n [] 0 l
keeps_none q n l e w f i = record {
  join = e;
  windows = w;
  low = omega (arith, f);
  at = omega (arith, f);
  list = i ∙ no_blocks q n ∙ ap (λ a. block_lasts (frame q) n (going_on []) a (0 - a)) (sym f);
}

pub cuts_nothing : (q : Tree) → IsChecked q → Fits (frame q) → (s : Sizes) → SizesFit s → (c : Cutter) → c.size ≡ s.task → c.room ≡ s.ring → c.flush ≡ end_counts q s → reading_of c.reader ≡ fresh q (limits_of s) → c.mark ≡ no_rows → c.number ≡ 0 → c.ended ≡ None → LooksBack q s.task [] 0 c.lasts
    → (had : List (Option (List ℕ))) → Suits (fresh q (limits_of s)) had → Cuts q s had had c (going_on [])
cuts_nothing q checked fits s small c size room counts reader mark number ended back had suits =
    let reads : Reads q no_rows (fresh q (limits_of s)) = reads_on q (limits_of s) q.streams refl checked.streams checked.columns small.lines.1 in
    let none : 0 ≡ c.number * s.task = omega (arith, ap (λ k. k * s.task) number) in
    record {
      windows = fits;
      sizes = small;
      made = record { size = size; room = room };
      dropped = [];
      took = subst (λ r. Took q no_rows (fresh q (limits_of s)) r had had []) (sym reader) (took_nothing q no_rows (fresh q (limits_of s)) had suits reads);
      count = number ∙ whole_tasks s.task 0 0 small.task.0 (omega arith);
      near = λ u l. absurd (omega (arith, l, number));
      whole = inl none;
      flushes = counts;
      state = subst (CutState q s c (going_on []) []) (sym ended) (record {
        none_dropped = refl;
        unended = refl;
        open_still = subst IsOpen (sym reader) (open_on q (limits_of s) q.streams);
        whole = none;
        mark = mark;
        back = subst (λ k. LooksBack q s.task [] k c.lasts) (sym number) back;
      });
    }
