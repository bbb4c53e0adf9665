use Rattle.std.proofs.Common.{◌≡◌, ◌∙◌, ap, codes, false}
use Rattle.clap.specs.Words.{found_of, rows_of}
use Rattle.saber_words.specs.Commands.{sizes_by, threads}
use Rattle.saber_words.proofs.Values.{first_of-rows}
use Rattle.saber_words.proofs.chain.chain.Goals as goal

pub returns-in_err-first : goal.returns-in_err-first
returns-in_err-first c =
    let first = first_of-rows (found_of c.args.values.now) (codes "first") c.get_str.result c.get_str.ensures in
    rw (first, c.in_err-first.was, c.from_residual.ensures)

pub returns-in_err-second : goal.returns-in_err-second
returns-in_err-second c =
    let first = first_of-rows (found_of c.args.values.now) (codes "first") c.get_str.result c.get_str.ensures in
    let second = first_of-rows (found_of c.args.values.now) (codes "second") c.get_str-2.result c.get_str-2.ensures in
    rw (first, c.in_ok-first.was, second, c.in_err-second.was, c.from_residual-in_err-second.ensures)

pub returns-in_err-left : goal.returns-in_err-left
returns-in_err-left c =
    let first = first_of-rows (found_of c.args.values.now) (codes "first") c.get_str.result c.get_str.ensures in
    let second = first_of-rows (found_of c.args.values.now) (codes "second") c.get_str-2.result c.get_str-2.ensures in
    let left = first_of-rows (found_of c.args.values.now) (codes "left") c.get_str-3.result c.get_str-3.ensures in
    rw (first, c.in_ok-first.was, second, c.in_ok-second.was, left, c.in_err-left.was, c.from_residual-in_err-left.ensures)

pub returns-in_err-sizes : goal.returns-in_err-sizes
returns-in_err-sizes c =
    let first = first_of-rows (found_of c.args.values.now) (codes "first") c.get_str.result c.get_str.ensures in
    let second = first_of-rows (found_of c.args.values.now) (codes "second") c.get_str-2.result c.get_str-2.ensures in
    let left = first_of-rows (found_of c.args.values.now) (codes "left") c.get_str-3.result c.get_str-3.ensures in
    let rows = rows_of (found_of c.args.values.now) in
    let sizes : c.sizes.result ≡ sizes_by threads rows false = c.sizes.ensures ∙ ap (λ o. sizes_by o rows false) c.threads.ensures in
    rw (first, c.in_ok-first.was, second, c.in_ok-second.was, left, c.in_ok-left.was, ← sizes, c.in_err-sizes.was, c.from_residual-in_err-sizes.ensures)

pub returns : goal.returns
returns c =
    let first = first_of-rows (found_of c.args.values.now) (codes "first") c.get_str.result c.get_str.ensures in
    let second = first_of-rows (found_of c.args.values.now) (codes "second") c.get_str-2.result c.get_str-2.ensures in
    let left = first_of-rows (found_of c.args.values.now) (codes "left") c.get_str-3.result c.get_str-3.ensures in
    let right = first_of-rows (found_of c.args.values.now) (codes "right") c.get_str-right.result c.get_str-right.ensures in
    let rows = rows_of (found_of c.args.values.now) in
    let sizes : c.sizes.result ≡ sizes_by threads rows false = c.sizes.ensures ∙ ap (λ o. sizes_by o rows false) c.threads.ensures in
    rw (first, c.in_ok-first.was, second, c.in_ok-second.was, left, c.in_ok-left.was, right, ← sizes, c.in_ok-sizes.was)
