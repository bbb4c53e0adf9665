use Rattle.std.proofs.Common.{Err, ◌∙◌}
use Rattle.saber_query.proofs.TextLemmas.{parsed_by, means_by}
use Rattle.saber_query.proofs.WholeLemmas.{gives_for}
use Rattle.saber_query.proofs.text.parse_tokens.Goals as goal

pub new-requires : goal.new-requires
new-requires c =
    let (ps, short, lexed, tokens, starts) = c.requires in
    parsed_by c.args.text.now ps _ _ c.in-Ok.select short lexed tokens starts c.in-Ok.ensures.0 c.in-Ok.ensures.1

pub returns-in-Ok : goal.returns-in-Ok
returns-in-Ok c =
    let (ps, short, lexed, tokens, starts) = c.requires in
    means_by c.args.text.now ps _ _ c.in-Ok.select _ short lexed tokens starts c.in-Ok.ensures.0 c.in-Ok.ensures.1 c.new.ensures

pub stopped-requires : goal.stopped-requires
stopped-requires c =
    let (ps, short, lexed, tokens, starts) = c.requires in
    (ps, _, short, lexed, c.deref.ensures.value ∙ starts, c.len-left.ensures, gives_for (Err c.in-Err.stop) _ _ _ tokens c.in-Err.ensures)
