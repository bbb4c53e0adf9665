-- What a draft has of its task's input.
use Rattle.std.specs.Prelude.{◌≡◌, ◌++◌, List}
use Rattle.saber_plan.specs.declared.rows.Row.{Row}
use Rattle.saber_plan.specs.Trees.{Tree}
use Rattle.saber_plan.specs.Windows.{mark_after, placed_after, closed_count}
use Rattle.saber_plan.specs.Answers.{frame}
use Rattle.saber_fragment.specs.Drafts.{Sight}
use Rattle.saber_join.specs.Keeping.{NoneLies}
use Rattle.saber_join.specs.declared.draft.JoinDraft.{JoinDraft}

-- all of it, but for rows in front that lie in no window which is open before the task's own
pub record HasSeen (q : Tree) (d : JoinDraft) (s : Sight) : Type 0 where
  pub passed : List Row
  pub back : s.back ≡ passed ++ d.back
  pub last : (mark_after s.first passed).last ≡ d.last
  pub none : NoneLies (frame q) (closed_count (frame q) s.before) (placed_after s.first passed)
  pub before : d.before ≡ s.before
  pub rows : d.rows ≡ s.rows
  pub ended : d.ended ≡ s.ended
