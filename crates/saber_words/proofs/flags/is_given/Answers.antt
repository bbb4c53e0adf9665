use Rattle.std.proofs.Common.{◌∙◌, Bool, false, Option, codes, sym, ap}
use Rattle.std.specs.Str.{bytes_eq}
use Rattle.std.specs.Option.{option_map_or}
use Rattle.clap.specs.Walk.{Text}
use Rattle.clap.specs.Words.{found_of}
use Rattle.saber_words.proofs.Values.{now_of, first_of-rows}
use Rattle.saber_words.proofs.flags.is_given.Goals as goal

abbrev is_true : Option Text → Bool
is_true o = option_map_or (λ value. bytes_eq value (codes "true")) o false

pub returns-in-Some : goal.returns-in-Some
returns-in-Some c =
    let read = first_of-rows (found_of c.args.values.now) c.args.name.now c.get_str.result c.get_str.ensures in
    c.eq.ensures ∙ sym (ap is_true (read ∙ ap now_of c.in-Some.is))

pub returns-in-None : goal.returns-in-None
returns-in-None c =
    let read = first_of-rows (found_of c.args.values.now) c.args.name.now c.get_str.result c.get_str.ensures in
    sym (ap is_true (read ∙ ap now_of c.in-None.is))
