use Rattle.std.proofs.Common.{◌≡◌, ◌∙◌, ap₂, Bool, List, codes}
use Rattle.clap.specs.Walk.{Row}
use Rattle.clap.specs.Words.{found_of, rows_of}
use Rattle.saber_words.specs.Commands.{sizes_by, threads}
use Rattle.saber_words.specs.Flags.{flag_by}
use Rattle.saber_words.proofs.Values.{first_of-rows}
use Rattle.saber_words.proofs.reading.run.Goals as goal

pub returns-in_err-query : goal.returns-in_err-query
returns-in_err-query c =
    let query = first_of-rows (found_of c.args.values.now) (codes "query") c.get_str.result c.get_str.ensures in
    rw (query, c.in_err-query.was, c.from_residual.ensures)

pub returns-in_err-left : goal.returns-in_err-left
returns-in_err-left c =
    let query = first_of-rows (found_of c.args.values.now) (codes "query") c.get_str.result c.get_str.ensures in
    let left = first_of-rows (found_of c.args.values.now) (codes "left") c.get_str-2.result c.get_str-2.ensures in
    rw (query, c.in_ok-query.was, left, c.in_err-left.was, c.from_residual-in_err-left.ensures)

abbrev flush_by : List Row → Bool
flush_by rows = flag_by (codes "final") rows

pub returns-in_err-sizes : goal.returns-in_err-sizes
returns-in_err-sizes c =
    let query = first_of-rows (found_of c.args.values.now) (codes "query") c.get_str.result c.get_str.ensures in
    let left = first_of-rows (found_of c.args.values.now) (codes "left") c.get_str-2.result c.get_str-2.ensures in
    let rows = rows_of (found_of c.args.values.now) in
    let sizes : c.sizes.result ≡ sizes_by threads rows (flush_by rows) = c.sizes.ensures ∙ ap₂ (λ o f. sizes_by o rows f) c.threads.ensures c.is_given-flush.ensures in
    rw (query, c.in_ok-query.was, left, c.in_ok-left.was, ← sizes, c.in_err-sizes.was, c.from_residual-in_err-sizes.ensures)

pub returns : goal.returns
returns c =
    let query = first_of-rows (found_of c.args.values.now) (codes "query") c.get_str.result c.get_str.ensures in
    let left = first_of-rows (found_of c.args.values.now) (codes "left") c.get_str-2.result c.get_str-2.ensures in
    let right = first_of-rows (found_of c.args.values.now) (codes "right") c.get_str-right.result c.get_str-right.ensures in
    let rows = rows_of (found_of c.args.values.now) in
    let sizes : c.sizes.result ≡ sizes_by threads rows (flush_by rows) = c.sizes.ensures ∙ ap₂ (λ o f. sizes_by o rows f) c.threads.ensures c.is_given-flush.ensures in
    rw (query, c.in_ok-query.was, left, c.in_ok-left.was, right, ← sizes, c.in_ok-sizes.was)
