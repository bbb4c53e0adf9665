use Rattle.std.proofs.Common.{map, refl, arith}
use Rattle.saber_query.specs.Words.{IsSyntax, IsDeep}
use Rattle.saber_query.specs.Reading.{token_of, StopsWith}
use Rattle.saber_query.proofs.TextLemmas.{stops_short, stops_at}
use Rattle.saber_query.proofs.text.stopped.Goals as goal

pub start_of_rest-requires : goal.start_of_rest-requires
start_of_rest-requires c =
    let (ps, rest, short, lexed, starts, left, gives) = c.requires in
    let h : StopsWith (IsSyntax 64) (map token_of ps) rest = rw c.in-Syntax.is at gives in
    let k = stops_short (IsSyntax 64) (map token_of ps) rest ps c.args.starts.now refl starts h in
    omega (arith, left, k)

pub start_of_rest-requires-in-Depth : goal.start_of_rest-requires-in-Depth
start_of_rest-requires-in-Depth c =
    let (ps, rest, short, lexed, starts, left, gives) = c.requires in
    let h : StopsWith (IsDeep 64) (map token_of ps) rest = rw c.in-Depth.is at gives in
    let k = stops_short (IsDeep 64) (map token_of ps) rest ps c.args.starts.now refl starts h in
    omega (arith, left, k)

pub returns-in-Syntax : goal.returns-in-Syntax
returns-in-Syntax c =
    let (ps, rest, short, lexed, starts, left, gives) = c.requires in
    let h : StopsWith (IsSyntax 64) (map token_of ps) rest = rw c.in-Syntax.is at gives in
    stops_at (IsSyntax 64) c.args.text.now (map token_of ps) rest ps c.args.starts.now _ _ short lexed refl starts h left c.start_of_rest.ensures

pub returns-in-Depth : goal.returns-in-Depth
returns-in-Depth c =
    let (ps, rest, short, lexed, starts, left, gives) = c.requires in
    let h : StopsWith (IsDeep 64) (map token_of ps) rest = rw c.in-Depth.is at gives in
    stops_at (IsDeep 64) c.args.text.now (map token_of ps) rest ps c.args.starts.now _ _ short lexed refl starts h left c.start_of_rest-in-Depth.ensures
