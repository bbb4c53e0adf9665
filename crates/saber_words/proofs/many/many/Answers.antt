use Rattle.std.proofs.Common.{◌≡◌, ◌∙◌, sym, ap, ap₂, List, [], ◌++◌, Bool, codes, Bor}
use Rattle.std.specs.Prelude.{Option}
use Rattle.clap.specs.Walk.{Text, first_of}
use Rattle.clap.specs.Words.{found_of, rows_of}
use Rattle.saber_plan.specs.declared.sizes.Sizes.{Sizes}
use Rattle.saber_words.specs.Commands.{sizes_by}
use Rattle.saber_words.specs.Numbers.{Numeric}
use Rattle.saber_words.specs.Flags.{flag_by}
use Rattle.saber_words.specs.Many.{few_threads, many_with, queries_by, queries_in}
use Rattle.saber_words.proofs.Values.{first_of-rows, texts}
use Rattle.saber_words.proofs.many.many.Goals as goal

pub returns : goal.returns
returns c =
    let found = found_of c.args.values.now in
    let rows = rows_of found in
    let left = first_of-rows found (codes "left") c.get_str.result c.get_str.ensures in
    let none : texts c.new-queries.result.items ≡ [] = ap texts c.new-queries.ensures.items in
    let queries : texts c.take_queries.new.queries.items ≡ queries_by rows =
    c.in_ok-take_queries.ensures ∙ ap₂ (λ (xs : List Text) (names : List (Bor Text)). xs ++ queries_in (texts names) rows) none c.as_slice.ensures in
    let sizes : c.sizes-sizes.result ≡ sizes_by few_threads rows (flag_by (codes "final") rows) =
    c.sizes-sizes.ensures ∙ ap₂ (λ (o : Numeric) (f : Bool). sizes_by o rows f) c.few_threads.ensures c.is_given-flush.ensures in
    c.with.ensures
    ∙ ap (λ (l : Option Text). many_with l (texts c.take_queries.new.queries.items) c.sizes-sizes.result) (sym left)
    ∙ ap (λ (q : List Text). many_with (first_of (codes "left") rows) q c.sizes-sizes.result) queries
    ∙ ap (λ (s : Option Sizes). many_with (first_of (codes "left") rows) (queries_by rows) s) sizes
