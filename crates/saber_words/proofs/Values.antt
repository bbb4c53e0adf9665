-- The values of a subcommand's positionals, as the getters read them.
use Rattle.std.proofs.Common.{◌≡◌, ◌∙◌, sym, List, map, Option, option_map, Bor}
use Rattle.clap.specs.Walk.{Text, first_of}
use Rattle.clap.specs.Words.{first_value, rows_of}
use Rattle.clap.specs.declared.parser.matches.Found.{Found}
use Rattle.clap.proofs.WalkLemmas.{first_value-rows}

abbrev pub now_of : Option (Bor Text) → Option Text
now_of = option_map (λ s. s.now)

-- what a getter read of an id is the first value of its row
pub first_of-rows : (f : Found) (id : Text) (read : Option (Bor Text)) → now_of read ≡ first_value f id → first_of id (rows_of f) ≡ now_of read
first_of-rows f id read is = sym (is ∙ first_value-rows f id)

-- the texts of names
abbrev pub texts : List (Bor Text) → List Text
texts = map (λ name. name.now)
