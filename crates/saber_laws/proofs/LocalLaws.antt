-- Which rows tell what a task gives, its parts apart by kind.
use Rattle.std.proofs.Common.{◌+◌, slice_range, sym, ◌∙◌, ap, le_refl}
use Rattle.saber_plan.specs.Inputs.{first_arrivals}
use Rattle.saber_plan.specs.Windows.{mark_at}
use Rattle.saber_plan.specs.Tasks.{task_start}
use Rattle.saber_plan.specs.Needs.{free}
use Rattle.saber_plan.specs.Shares.{shares_here, handed_here}
use Rattle.saber_laws.specs.Shares.{SharesAreLocal, SharesNeedNoMore, HandedAreLocal, HandedNeedsNoMore}
use Rattle.saber_plan.specs.Facts.Lists.{nothing_between}
use Rattle.saber_laws.proofs.TaskCutLaws.{cut_rises, cuts_rise}
use Rattle.saber_laws.proofs.NeedLaws.{shares_here_is, handed_here_is}
use Rattle.saber_laws.proofs.FreeLaws.{tasks_look_back, free_not_past, free_ended}

pub shares_are_local : SharesAreLocal
shares_are_local q r x y b shape =
    ap (λ l. shares_here q (mark_at r x) l (slice_range r.rows x y) (first_arrivals r y).ended) (sym (nothing_between r.rows x))
    ∙ shares_here_is q b.fits r x x y b.ordered (le_refl x) b.rises (λ e. absurd (shape e)) (λ e. e)

pub handed_are_local : HandedAreLocal
handed_are_local q r x y b shape =
    ap (λ l. handed_here q (mark_at r x) l (slice_range r.rows x y) (first_arrivals r y).ended) (sym (nothing_between r.rows x))
    ∙ handed_here_is q b.fits r x x y b.ordered (le_refl x) b.rises (λ e. absurd (shape e)) (λ e. e)

pub handed_needs_no_more : HandedNeedsNoMore
handed_needs_no_more q n r t h w o = handed_here_is q w r (task_start n r (free q n r t)) (task_start n r t) (task_start n r (t + 1)) o (cuts_rise n r (free q n r t) t (tasks_look_back q n r t h)) (cut_rises n r t) (free_not_past q n r t h) (free_ended q n r t)

pub shares_need_no_more : SharesNeedNoMore
shares_need_no_more q n r t h w o = shares_here_is q w r (task_start n r (free q n r t)) (task_start n r t) (task_start n r (t + 1)) o (cuts_rise n r (free q n r t) t (tasks_look_back q n r t h)) (cut_rises n r t) (free_not_past q n r t h) (free_ended q n r t)
