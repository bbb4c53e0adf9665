use Rattle.std.proofs.Common.{◌≡◌, ◌<◌, ◌+◌, map, Result, Ok, Err, OnOk, OnErr, ◌∙◌, ap, sym, subst, arith}
use Rattle.std.specs.List.{AllByRecursion}
use Rattle.saber_plan.specs.Rows.{stamp}
use Rattle.saber_rows.specs.HeldRows.{IsRanked}
use Rattle.saber_rows.specs.declared.waiting.Rank.{Rank}
use Rattle.saber_rows.proofs.Ranks.{put_in_time, put_all, before_more}
use Rattle.saber_rows.proofs.waiting.Waiting.insert.Goals as goal

by_result : {X E A B : Type 0} (r : Result X E) (P : Type 0) → OnOk r A → OnErr r B → (A → P) → (B → P) → P
by_result (Ok x) P a b f g = f a
by_result (Err e) P a b f g = g b

pub returns-clause-ok : goal.returns-clause-ok
returns-clause-ok c =
    let rank : Rank = record { stamp = c.stamp_of-stamp.result; line = c.args.line } in
    ap (λ es. map (λ e. e.1) es) c.in_ok-insert.ensures.entries
    ∙ put_in_time rank c.args.row (c.stamp_of-stamp.ensures ∙ ap stamp c.as_slice.ensures) c.args.self.now.rows.entries c.args.self.now.ranked c.requires

pub returns-clause-before : goal.returns-clause-before
returns-clause-before c =
    let rank : Rank = record { stamp = c.stamp_of-stamp.result; line = c.args.line } in
    subst (AllByRecursion (λ e. e.0.line < c.args.line + 1)) (sym c.in_ok-insert.ensures.entries)
    (put_all rank c.args.row (c.stamp_of-stamp.ensures ∙ ap stamp c.as_slice.ensures) (λ e. e.0.line < c.args.line + 1) c.args.self.now.rows.entries (omega arith) (before_more c.args.line c.args.self.now.rows.entries c.requires) c.requires)

pub invariant_of-self : goal.invariant_of-self
invariant_of-self c =
    let rank : Rank = record { stamp = c.stamp_of-stamp.result; line = c.args.line } in
    let own : c.stamp_of-stamp.result ≡ stamp c.args.row.values = c.stamp_of-stamp.ensures ∙ ap stamp c.as_slice.ensures in
    record {
      ranked = by_result c.insert.result (AllByRecursion IsRanked c.insert.new.self.entries) c.insert.ensures.entries c.insert.ensures.err
          (λ e. subst (AllByRecursion IsRanked) (sym e) (put_all rank c.args.row own IsRanked c.args.self.now.rows.entries own c.args.self.now.ranked c.requires))
          (λ e. subst (AllByRecursion IsRanked) (sym e) c.args.self.now.ranked);
    }
