-- A block that counts as given, or an end in its place.
use Rattle.std.proofs.Common.{◌+◌, ◌-◌, ◌++◌, ℕ, List, Option, Some, refl, sym, subst}
use Rattle.saber_plan.specs.declared.rows.Row.{Row}
use Rattle.saber_plan.specs.declared.windows.Mark.{Mark}
use Rattle.saber_plan.specs.Inputs.{going_on}
use Rattle.saber_dispatch.specs.declared.cutter.Cut.TheVariants.{Ended}
use Rattle.saber_dispatch.specs.declared.cutter.Cutter.{Cutter}
use Rattle.saber_dispatch.specs.declared.lasts.Lasts.{Lasts}
use Rattle.saber_dispatch.specs.declared.ends.End.{End}
use Rattle.saber_dispatch.specs.declared.ends.End.TheVariants.{TooWide, NoMemory}
use Rattle.saber_dispatch.specs.Cutting.{LooksBack, NotesOn, CutTo}
use Rattle.saber_dispatch.specs.Looking.{HasRoom, HasNoRoom, CountsBlock, LeavesBlock}
use Rattle.saber_dispatch.proofs.BlockCuts.{behind, own_fit, dropped_cuts, is_too_wide, is_near, given_cuts}
use Rattle.saber_dispatch.proofs.Faults.{wide_not_all, wide_not_fault, wide_no_fault, lack_not_all, lack_not_fault, lack_no_fault}

module _ (before : Mark) (rows : List Row) where
  -- the task needs more blocks than there is room for
  wide_leaves : (a : Cutter) (end : End) (l : Option Lasts) (k : HasNoRoom before end a (record a { lasts = l; ended = Some end })) → LeavesBlock before rows end a (record a { lasts = l; ended = Some end })
  wide_leaves a end l k = record {
    cuts = λ q s had has xs f.
        let needs = a.number - k.first + 1 in
        let is = k.first_is q s.task xs (behind q s had has a xs before rows f) f.back in
        subst (λ e. CutTo (Ended e) q s had has (record a { lasts = l; ended = Some e }) (going_on xs)) (sym k.end_is)
        (refl, dropped_cuts q s had has a xs before rows f l (TooWide a.number needs) (is_too_wide q s had has a xs before rows f l (TooWide a.number needs) k.first needs is refl k.wide));
    no_fault = λ side e. wide_no_fault a.number _ end side k.end_is e;
    stays = record { reader = refl; all = λ e. absurd (wide_not_all a.number _ end k.end_is e); fault = λ side e. absurd (wide_not_fault a.number _ end side k.end_is e) };
  }

  pub block_wide : (end : End) (a new : Cutter) → HasNoRoom before end a new → LeavesBlock before rows end a new
  block_wide end a new k =
      subst (λ n. LeavesBlock before rows end a n) (sym k.same)
      (wide_leaves a end new.lasts (record { first = k.first; first_is = k.first_is; wide = k.wide; end_is = k.end_is; same = refl }))

  module _ (first : ℕ) (a mid : Cutter) (k : HasRoom before first a mid) (l : Option Lasts) where
    -- there is no memory to keep what later tasks need
    pub block_lack : LeavesBlock before rows NoMemory a (record mid { lasts = l; ended = Some NoMemory })
    block_lack = subst (λ (n : Cutter). LeavesBlock before rows NoMemory a (record n { lasts = l; ended = Some NoMemory })) (sym k.same) (record {
      cuts = λ q s had has xs f. (refl, dropped_cuts q s had has a xs before rows f l NoMemory tt);
      no_fault = λ side e. lack_no_fault side e;
      stays = record { reader = refl; all = λ e. absurd (lack_not_all e); fault = λ side e. absurd (lack_not_fault side e) };
    })

    -- it is there
    pub block_counts : NotesOn before rows mid.lasts l → CountsBlock before rows first a (record mid { lasts = l; number = a.number + 1 })
    block_counts noted = subst (λ (n : Cutter). CountsBlock before rows first a (record n { lasts = l; number = a.number + 1 })) (sym k.same) (record {
      near = k.near;
      cuts = λ q s had has xs f.
          let b = behind q s had has a xs before rows f in
          let is = k.first_is q s.task xs b f.back in
          let back : LooksBack q s.task (xs ++ rows) (a.number + 1) l = noted q s.task xs a.number b f.whole (k.back q s.task xs b f.back) (own_fit q s had has a xs before rows f) f.few in
          (is, given_cuts q s had has a xs before rows f l back (is_near q s had has a xs before rows f first is k.near));
      ended = refl;
      reader = refl;
    })
