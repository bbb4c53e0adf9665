-- What a run took of its row files, behind the query's file.
use Rattle.std.proofs.Common.{◌≡◌, ℕ, List, [], ◌∷◌, Option, Some, None, IfSome, refl, ◌∙◌, ap, subst}
use Rattle.saber_io.specs.Outside.{FilesView, after_asking, after_closing}
use Rattle.saber_plan.specs.Sizes.{limits_of}
use Rattle.saber_plan.specs.Trees.{Tree}
use Rattle.saber_words.specs.Commands.{AskedRun}
use Rattle.saber_notes.specs.declared.outcome.InputFile.TheVariants.{Query}
use Rattle.saber_notes.specs.declared.outcome.Outcome.TheVariants.{Done}
use Rattle.saber_cli.specs.Due.{HasRun, row_names}
use Rattle.saber_cli.specs.Uses.{Uses, unasked, unopened, used}
use Rattle.saber_cli.specs.RowFiles.{after_use}
use Rattle.saber_cli.specs.Taken.{TakesOf, TakesRows, TakesWhole}

takes_behind : (r : AskedRun) (q : Tree) (tasks : ℕ) (old mid new : Option FilesView) (ql : Option (List ℕ)) (qf : ℕ) → IfSome old (λ t. HasRun t.contents r q) → mid ≡ after_closing (after_asking old r.query) ql qf → TakesRows q r.sizes.task (limits_of r.sizes) tasks (row_names r) mid new
    → IfSome old (λ t. (u : FilesView) × (new ≡ Some u) × TakesWhole r tasks t u)
takes_behind r q tasks None mid new ql qf h m k = tt
takes_behind r q tasks (Some t) mid new ql qf h m k = (
  _,
  k.told ∙ ap (λ o. after_use o (row_names r) k.given_back) m,
  (
    q,
    h,
    record {
      before = (ql, qf) ∷ [];
      as_many = refl;
      given_back = k.given_back;
      closed = refl;
      takes = subst (λ o. IfSome o (λ (u : FilesView). TakesOf q r.sizes.task (limits_of r.sizes) tasks u.contents (row_names r) k.given_back)) m k.takes;
    },
  ),
)

-- a run over its row files, behind a query's file that was read
pub takes_whole : (r : AskedRun) (q : Tree) (tasks : ℕ) (old mid new : Option FilesView) → IfSome old (λ t. HasRun t.contents r q) → Uses Query r.query Done old mid → TakesRows q r.sizes.task (limits_of r.sizes) tasks (row_names r) mid new
    → IfSome old (λ t. (u : FilesView) × (new ≡ Some u) × TakesWhole r tasks t u)
takes_whole r q tasks old mid new h (unasked e s) k = cc
takes_whole r q tasks old mid new h (unopened e s) k = cc
takes_whole r q tasks old mid new h (used ql qf f c i p s) k = takes_behind r q tasks old mid new ql qf h s k
