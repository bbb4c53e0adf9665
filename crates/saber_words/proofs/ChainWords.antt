-- What the words of `chain` come to.
use Rattle.std.proofs.Common.{◌≡◌, ◌∙◌, refl, sym, ap, ap₂, true, false, codes, List, [], ◌∷◌}
use Rattle.std.specs.List.{list_all}
use Rattle.std.specs.Prelude.{Option}
use Rattle.clap.specs.Walk.{Held, Text, Walk, finished, nothing_held, walk, walk_from, walked}
use Rattle.clap.specs.Simple.{Shape, built_leaf, inherited}
use Rattle.clap.specs.Kinds.{Kinds, or_else}
use Rattle.clap.specs.Faults.{defaults_fault, walk_fault}
use Rattle.clap.proofs.WalkLemmas.{both, walk_stopped}
use Rattle.saber_words.specs.Commands.{Asked, chain_by, chain_of, chain_shape, command_of, is_file_name, saber_shape}
use Rattle.saber_words.proofs.Parses.{taken_if}
use Rattle.saber_words.proofs.FileNames.{after, at, file_fault, file_walked}
use Rattle.saber_words.proofs.Levels.{answer, by_walk, end_fault, leaf_answer, names, or_else_none, stopped_fault, top}

abbrev chain_level : Shape
chain_level = built_leaf (inherited saber_shape chain_shape)

abbrev chain_answer : Kinds → Held → Option Asked
chain_answer = leaf_answer chain_level chain_by

chain_words : (program : Text) (files : List Text) → command_of (program ∷ codes "chain" ∷ files)
    ≡ chain_answer (walk_fault chain_level [] (at nothing_held 1) files) (walk chain_level.rules [] nothing_held files).held
unfolding walk_fault walked defaults_fault
chain_words program files =
    by_walk program (codes "chain" ∷ files)
    ∙ ap₂ answer (stopped_fault names top (walk_from nothing_held) (codes "chain") [] files) (sym (walk_stopped top.rules names (walk_from nothing_held) (codes "chain") [] files))
    ∙ ap (λ (kinds : Kinds). taken_if kinds (chain_by (finished chain_level.rules (walk chain_level.rules [] nothing_held files).held)))
    (or_else_none (or_else (walk_fault chain_level [] (at nothing_held 1) files) (end_fault chain_level (walk chain_level.rules [] nothing_held files).held false [])))

-- the walk goes on with a file name
abbrev on : Walk → Text → Walk
on w file = walked chain_level.rules [] w file

-- what is held after each value
abbrev one : Text → Held
one first = (after chain_level 1 first nothing_held).held

abbrev two : Text → Text → Held
two first second = (after chain_level 2 second (one first)).held

abbrev three : Text → Text → Text → Held
three first second left = (after chain_level 3 left (two first second)).held

abbrev four : Text → Text → Text → Text → Held
four first second left right = (after chain_level 4 right (three first second left)).held

chain_files : (files : List Text) → list_all is_file_name files ≡ true
    → chain_answer (walk_fault chain_level [] (at nothing_held 1) files) (walk chain_level.rules [] nothing_held files).held ≡ chain_of files
unfolding walk_fault walked defaults_fault
chain_files [] good = refl
chain_files (first ∷ []) good =
    let f = both (is_file_name first) _ good in
    ap₂ chain_answer (file_fault chain_level 1 first [] nothing_held f.0) (ap (λ (w : Walk). w.held) (file_walked chain_level 1 first nothing_held f.0))
chain_files (first ∷ second ∷ []) good =
    let f = both (is_file_name first) _ good in
    let s = both (is_file_name second) _ f.1 in
    ap₂ chain_answer (file_fault chain_level 1 first (second ∷ []) nothing_held f.0 ∙ file_fault chain_level 2 second [] (one first) s.0)
    (ap (λ (w : Walk). (on w second).held) (file_walked chain_level 1 first nothing_held f.0)
    ∙ ap (λ (w : Walk). w.held) (file_walked chain_level 2 second (one first) s.0))
chain_files (first ∷ second ∷ left ∷ []) good =
    let f = both (is_file_name first) _ good in
    let s = both (is_file_name second) _ f.1 in
    let l = both (is_file_name left) _ s.1 in
    ap₂ chain_answer
    (file_fault chain_level 1 first (second ∷ left ∷ []) nothing_held f.0 ∙ file_fault chain_level 2 second (left ∷ []) (one first) s.0
    ∙ file_fault chain_level 3 left [] (two first second) l.0)
    (ap (λ (w : Walk). (on (on w second) left).held) (file_walked chain_level 1 first nothing_held f.0)
    ∙ ap (λ (w : Walk). (on w left).held) (file_walked chain_level 2 second (one first) s.0)
    ∙ ap (λ (w : Walk). w.held) (file_walked chain_level 3 left (two first second) l.0))
chain_files (first ∷ second ∷ left ∷ right ∷ []) good =
    let f = both (is_file_name first) _ good in
    let s = both (is_file_name second) _ f.1 in
    let l = both (is_file_name left) _ s.1 in
    let r = both (is_file_name right) _ l.1 in
    ap₂ chain_answer
    (file_fault chain_level 1 first (second ∷ left ∷ right ∷ []) nothing_held f.0 ∙ file_fault chain_level 2 second (left ∷ right ∷ []) (one first) s.0
    ∙ file_fault chain_level 3 left (right ∷ []) (two first second) l.0 ∙ file_fault chain_level 4 right [] (three first second left) r.0)
    (ap (λ (w : Walk). (on (on (on w second) left) right).held) (file_walked chain_level 1 first nothing_held f.0)
    ∙ ap (λ (w : Walk). (on (on w left) right).held) (file_walked chain_level 2 second (one first) s.0)
    ∙ ap (λ (w : Walk). (on w right).held) (file_walked chain_level 3 left (two first second) l.0)
    ∙ ap (λ (w : Walk). w.held) (file_walked chain_level 4 right (three first second left) r.0))
chain_files (first ∷ second ∷ left ∷ right ∷ another ∷ more) good =
    let f = both (is_file_name first) _ good in
    let s = both (is_file_name second) _ f.1 in
    let l = both (is_file_name left) _ s.1 in
    let r = both (is_file_name right) _ l.1 in
    let a = both (is_file_name another) _ r.1 in
    ap (λ (faults : Kinds). chain_answer faults (walk chain_level.rules [] nothing_held (first ∷ second ∷ left ∷ right ∷ another ∷ more)).held)
    (file_fault chain_level 1 first (second ∷ left ∷ right ∷ another ∷ more) nothing_held f.0 ∙ file_fault chain_level 2 second (left ∷ right ∷ another ∷ more) (one first) s.0
    ∙ file_fault chain_level 3 left (right ∷ another ∷ more) (two first second) l.0 ∙ file_fault chain_level 4 right (another ∷ more) (three first second left) r.0
    ∙ file_fault chain_level 5 another more (four first second left right) a.0)

-- file names after `chain`
pub command_of-chain : (program : Text) (files : List Text) → list_all is_file_name files ≡ true → command_of (program ∷ codes "chain" ∷ files) ≡ chain_of files
command_of-chain program files good = chain_words program files ∙ chain_files files good
