use Rattle.std.proofs.Common.{ℕ, Vec, Global, ◌∙◌}
use Rattle.saber_cli.proofs.FileLemmas.{text_front, text_used, text_good, opened_of, on_ok, map_err, rose_some}
use Rattle.saber_cli.proofs.queries.query_text.Goals as goal

pub returns-clause-front : goal.returns-clause-front
returns-clause-front g c = text_front (λ (v : Vec ℕ Global). v.items) c.read_text-text.result _ _ _ c.in-Ok.ensures.opens c.read_text-text.ensures.front

pub returns-clause-uses : goal.returns-clause-uses
returns-clause-uses g c =
    text_used _ c.read_text-text.result _ _ _ _ _ c.read_text-text.ensures.kinds (map_err c.read_text-text.result _ (rose_some _ _ c.in-Ok.ensures.fresh) c.read_text-text.ensures.cause)
    (on_ok c.read_text-text.result (λ e. e ∙ c.in-Ok.ensures.fresh) c.read_text-text.ensures.good) (opened_of _ _ _ _ _ c.in-Ok.ensures.opens c.read_text-text.ensures.takes) (c.in-Ok.ensures.asked (λ e. cc)) c.close_file.ensures.closed

pub returns-clause-read_good : goal.returns-clause-read_good
returns-clause-read_good g c k = text_good c.read_text-text.result _ _ _ _ c.read_text-text.ensures.kinds (on_ok c.read_text-text.result (λ e. e ∙ c.in-Ok.ensures.fresh) c.read_text-text.ensures.good) c.in-Ok.ensures.good c.close_file.ensures.count k
