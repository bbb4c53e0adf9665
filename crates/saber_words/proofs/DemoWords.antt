-- What the words of `demo` come to.
use Rattle.std.proofs.Common.{◌≡◌, ◌∙◌, refl, sym, ap, ap₂, Bool, true, false, codes, List, [], ◌∷◌, None}
use Rattle.std.specs.List.{list_all}
use Rattle.std.specs.Prelude.{Option}
use Rattle.clap.specs.Walk.{Held, Text, Walk, finished, nothing_held, value, walk, walk_from, walked}
use Rattle.clap.specs.Simple.{Shape, built_leaf, inherited}
use Rattle.clap.specs.ValueTests.{accepts}
use Rattle.clap.specs.Kinds.{Kinds, or_else}
use Rattle.clap.specs.Faults.{defaults_fault, step_fault, walk_fault}
use Rattle.clap.proofs.WalkLemmas.{both, walk_stopped}
use Rattle.saber_words.specs.Commands.{Asked, command_of, demo_by, demo_of, demo_shape, is_file_name, saber_shape}
use Rattle.saber_words.specs.Numbers.{parser_of}
use Rattle.saber_words.specs.Demo.{rows, seed}
use Rattle.saber_words.proofs.Parses.{taken_if}
use Rattle.saber_words.proofs.FileNames.{after, at, file_fault, file_walked}
use Rattle.saber_words.proofs.Levels.{answer, by_walk, end_fault, leaf_answer, names, or_else_none, stopped_fault, top}

abbrev demo_level : Shape
demo_level = built_leaf (inherited saber_shape demo_shape)

abbrev demo_answer : Kinds → Held → Option Asked
demo_answer = leaf_answer demo_level demo_by

demo_words : (program : Text) (words : List Text) → command_of (program ∷ codes "demo" ∷ words)
    ≡ demo_answer (walk_fault demo_level [] (at nothing_held 1) words) (walk demo_level.rules [] nothing_held words).held
unfolding walk_fault walked defaults_fault
demo_words program words =
    by_walk program (codes "demo" ∷ words)
    ∙ ap₂ answer (stopped_fault names top (walk_from nothing_held) (codes "demo") [] words) (sym (walk_stopped top.rules names (walk_from nothing_held) (codes "demo") [] words))
    ∙ ap (λ (kinds : Kinds). taken_if kinds (demo_by (finished demo_level.rules (walk demo_level.rules [] nothing_held words).held)))
    (or_else_none (or_else (walk_fault demo_level [] (at nothing_held 1) words) (end_fault demo_level (walk demo_level.rules [] nothing_held words).held false [])))

-- what is held after each of two words
abbrev demo_one : Text → Held
demo_one first = (after demo_level 1 first nothing_held).held

abbrev demo_two : Text → Text → Held
demo_two first second = (after demo_level 2 second (demo_one first)).held

one_number : (first : Text) (a : Bool) → accepts false (parser_of seed) first ≡ a → demo_answer (or_else (step_fault demo_level 1 nothing_held value) []) (demo_one first) ≡ demo_of (first ∷ [])
unfolding walk_fault walked defaults_fault
one_number first true taken = rw taken refl
one_number first false refused = rw refused refl

two_numbers : (first second : Text) (a b : Bool) → accepts false (parser_of seed) first ≡ a → accepts false (parser_of rows) second ≡ b
    → demo_answer (or_else (step_fault demo_level 1 nothing_held value) (or_else (step_fault demo_level 2 (demo_one first) value) [])) (demo_two first second) ≡ demo_of (first ∷ second ∷ [])
unfolding walk_fault walked defaults_fault
two_numbers first second true true x y = rw (x, y) refl
two_numbers first second true false x y = rw (x, y) refl
two_numbers first second false b x y = rw x refl

-- a third word is one too many
no_third : (first second : Text) (a : Bool) (more : Kinds) (end : Held) → accepts false (parser_of seed) first ≡ a
    → demo_answer (or_else (step_fault demo_level 1 nothing_held value) (or_else (step_fault demo_level 2 (demo_one first) value) (or_else (step_fault demo_level 3 (demo_two first second) value) more))) end ≡ None
unfolding walk_fault walked defaults_fault
no_third first second true more end x = rw x refl
no_third first second false more end x = rw x refl

demo_numbers : (words : List Text) → list_all is_file_name words ≡ true
    → demo_answer (walk_fault demo_level [] (at nothing_held 1) words) (walk demo_level.rules [] nothing_held words).held ≡ demo_of words
unfolding walk_fault walked defaults_fault
demo_numbers [] good = refl
demo_numbers (first ∷ []) good =
    let q = both (is_file_name first) _ good in
    ap₂ demo_answer (file_fault demo_level 1 first [] nothing_held q.0) (ap (λ (w : Walk). w.held) (file_walked demo_level 1 first nothing_held q.0))
    ∙ one_number first (accepts false (parser_of seed) first) refl
demo_numbers (first ∷ second ∷ []) good =
    let q = both (is_file_name first) _ good in
    let l = both (is_file_name second) _ q.1 in
    ap₂ demo_answer (file_fault demo_level 1 first (second ∷ []) nothing_held q.0 ∙ ap (or_else (step_fault demo_level 1 nothing_held value)) (file_fault demo_level 2 second [] (demo_one first) l.0))
    (ap (λ (w : Walk). (walked demo_level.rules [] w second).held) (file_walked demo_level 1 first nothing_held q.0)
    ∙ ap (λ (w : Walk). w.held) (file_walked demo_level 2 second (demo_one first) l.0))
    ∙ two_numbers first second (accepts false (parser_of seed) first) (accepts false (parser_of rows) second) refl refl
demo_numbers (first ∷ second ∷ third ∷ more) good =
    let q = both (is_file_name first) _ good in
    let l = both (is_file_name second) _ q.1 in
    let t = both (is_file_name third) _ l.1 in
    let end = (walk demo_level.rules [] nothing_held (first ∷ second ∷ third ∷ more)).held in
    ap (λ (faults : Kinds). demo_answer faults end)
    (file_fault demo_level 1 first (second ∷ third ∷ more) nothing_held q.0 ∙ ap (or_else (step_fault demo_level 1 nothing_held value))
    (file_fault demo_level 2 second (third ∷ more) (demo_one first) l.0 ∙ ap (or_else (step_fault demo_level 2 (demo_one first) value)) (file_fault demo_level 3 third more (demo_two first second) t.0)))
    ∙ no_third first second (accepts false (parser_of seed) first) (walk_fault demo_level [] (after demo_level 3 third (demo_two first second)) more) end refl

pub command_of-demo : (program : Text) (words : List Text) → list_all is_file_name words ≡ true → command_of (program ∷ codes "demo" ∷ words) ≡ demo_of words
command_of-demo program words good = demo_words program words ∙ demo_numbers words good
