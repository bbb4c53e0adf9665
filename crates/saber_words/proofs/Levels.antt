-- What the program and each of its subcommands make of the words.
use Rattle.std.proofs.Common.{◌≡◌, ◌∙◌, refl, sym, ap, ap₂, Bool, true, false, codes, List, [], ◌∷◌, ◌++◌, Option, Some, is_some}
use Rattle.std.specs.List.{list_all}
use Rattle.std.specs.Prelude.{option_and_then}
use Rattle.clap.specs.Walk.{Held, Names, Row, Text, Walk, finished, nothing_held, settled, walk, walk_from, walked}
use Rattle.clap.specs.Simple.{App, Shape, built, built_leaf, entered, inherited, names_of}
use Rattle.clap.specs.Kinds.{Kinds, or_else}
use Rattle.clap.specs.Faults.{check_fault, defaults_fault, entered_fault, settle_fault, walk_fault}
use Rattle.clap.proofs.WalkLemmas.{both, walk_stopped}
use Rattle.saber_words.specs.Commands.{Asked, asked_by, check_by, check_of, check_shape, command_of, is_file_name, is_taken, run_by, run_of, run_shape, saber_app, saber_shape}
use Rattle.saber_words.proofs.Parses.{taken_if}
use Rattle.saber_words.proofs.FileNames.{after, at, file_fault, file_walked}

-- ---- a level

-- the faults after the walk
abbrev pub end_fault : Shape → Held → Bool → Kinds → Kinds
end_fault s end has_subcommand below =
    or_else below (or_else (settle_fault s.rules s.args_override_self end)
    (or_else (defaults_fault (settled s.rules end).rows s.rules) (check_fault s (finished s.rules end) has_subcommand)))

-- the program, built
abbrev pub top : Shape
top = (built saber_app).top

abbrev pub names : Names
names = names_of (built saber_app)

-- what the words of a program are, by the faults and the end of its walk
abbrev pub answer_of : {X : Type 0} → App → (Text × List Row → Option X) → Kinds → Walk → Option X
answer_of app by faults end =
    taken_if (or_else faults (end_fault (built app).top end.held (is_some (entered (built app) end.stopped)) (entered_fault (built app) end.stopped)))
    (option_and_then by (entered (built app) end.stopped))

abbrev pub answer : Kinds → Walk → Option Asked
answer = answer_of saber_app asked_by

pub by_walk : (program : Text) (words : List Text) → command_of (program ∷ words) ≡ answer (walk_fault top names (walk_from nothing_held) words) (walk top.rules names nothing_held words)
unfolding command_of is_taken
by_walk program words = refl

-- what a subcommand is, by the faults and the end of its walk
abbrev pub leaf_answer : {X : Type 0} → Shape → (List Row → Option X) → Kinds → Held → Option X
leaf_answer s by faults end = taken_if (or_else faults (end_fault s end false [])) (by (finished s.rules end))

pub or_else_none : (kinds : Kinds) → or_else kinds [] ≡ kinds
or_else_none [] = refl
or_else_none (kind ∷ kinds) = refl

-- past the subcommand's name the words are left to it
pub stopped_fault : (known : Names) (s : Shape) (w : Walk) (name : Text) (seen words : List Text) → walk_fault s known (record w { stopped = Some (name, seen) }) words ≡ []
unfolding walk_fault walked
stopped_fault known s w name seen [] = refl
stopped_fault known s w name seen (x ∷ xs) = stopped_fault known s w name (seen ++ x ∷ []) xs

abbrev stopped_at : Text → List Text → Walk
stopped_at name words = record (walk_from nothing_held) { stopped = Some (name, words) }

-- ---- `run`

abbrev run_level : Shape
run_level = built_leaf (inherited saber_shape run_shape)

run_words : (program : Text) (files : List Text) → command_of (program ∷ codes "run" ∷ files)
    ≡ leaf_answer run_level run_by (walk_fault run_level [] (at nothing_held 1) files) (walk run_level.rules [] nothing_held files).held
unfolding walk_fault walked defaults_fault
run_words program files =
    by_walk program (codes "run" ∷ files)
    ∙ ap₂ answer (stopped_fault names top (walk_from nothing_held) (codes "run") [] files) (sym (walk_stopped top.rules names (walk_from nothing_held) (codes "run") [] files))
    ∙ ap (λ (kinds : Kinds). taken_if kinds (run_by (finished run_level.rules (walk run_level.rules [] nothing_held files).held)))
    (or_else_none (or_else (walk_fault run_level [] (at nothing_held 1) files) (end_fault run_level (walk run_level.rules [] nothing_held files).held false [])))

-- ---- `check`

abbrev check_level : Shape
check_level = built_leaf (inherited saber_shape check_shape)

check_words : (program : Text) (files : List Text) → command_of (program ∷ codes "check" ∷ files)
    ≡ leaf_answer check_level check_by (walk_fault check_level [] (at nothing_held 1) files) (walk check_level.rules [] nothing_held files).held
unfolding walk_fault walked defaults_fault
check_words program files =
    by_walk program (codes "check" ∷ files)
    ∙ ap₂ answer (stopped_fault names top (walk_from nothing_held) (codes "check") [] files) (sym (walk_stopped top.rules names (walk_from nothing_held) (codes "check") [] files))
    ∙ ap (λ (kinds : Kinds). taken_if kinds (check_by (finished check_level.rules (walk check_level.rules [] nothing_held files).held)))
    (or_else_none (or_else (walk_fault check_level [] (at nothing_held 1) files) (end_fault check_level (walk check_level.rules [] nothing_held files).held false [])))

-- ---- file names

-- what is held after each value of `run`
abbrev run_one : Text → Held
run_one query = (after run_level 1 query nothing_held).held

abbrev run_two : Text → Text → Held
run_two query left = (after run_level 2 left (run_one query)).held

abbrev run_three : Text → Text → Text → Held
run_three query left right = (after run_level 3 right (run_two query left)).held

abbrev run_answer : Kinds → Held → Option Asked
run_answer = leaf_answer run_level run_by

run_files : (files : List Text) → list_all is_file_name files ≡ true
    → run_answer (walk_fault run_level [] (at nothing_held 1) files) (walk run_level.rules [] nothing_held files).held ≡ run_of files
unfolding walk_fault walked defaults_fault
run_files [] good = refl
run_files (query ∷ []) good =
    let q = both (is_file_name query) _ good in
    ap₂ run_answer (file_fault run_level 1 query [] nothing_held q.0) (ap (λ (w : Walk). w.held) (file_walked run_level 1 query nothing_held q.0))
run_files (query ∷ left ∷ []) good =
    let q = both (is_file_name query) _ good in
    let l = both (is_file_name left) _ q.1 in
    ap₂ run_answer (file_fault run_level 1 query (left ∷ []) nothing_held q.0 ∙ file_fault run_level 2 left [] (run_one query) l.0)
    (ap (λ (w : Walk). (walked run_level.rules [] w left).held) (file_walked run_level 1 query nothing_held q.0)
    ∙ ap (λ (w : Walk). w.held) (file_walked run_level 2 left (run_one query) l.0))
run_files (query ∷ left ∷ right ∷ []) good =
    let q = both (is_file_name query) _ good in
    let l = both (is_file_name left) _ q.1 in
    let r = both (is_file_name right) _ l.1 in
    ap₂ run_answer
    (file_fault run_level 1 query (left ∷ right ∷ []) nothing_held q.0 ∙ file_fault run_level 2 left (right ∷ []) (run_one query) l.0
    ∙ file_fault run_level 3 right [] (run_two query left) r.0)
    (ap (λ (w : Walk). (walked run_level.rules [] (walked run_level.rules [] w left) right).held) (file_walked run_level 1 query nothing_held q.0)
    ∙ ap (λ (w : Walk). (walked run_level.rules [] w right).held) (file_walked run_level 2 left (run_one query) l.0)
    ∙ ap (λ (w : Walk). w.held) (file_walked run_level 3 right (run_two query left) r.0))
run_files (query ∷ left ∷ right ∷ one ∷ more) good =
    let q = both (is_file_name query) _ good in
    let l = both (is_file_name left) _ q.1 in
    let r = both (is_file_name right) _ l.1 in
    let o = both (is_file_name one) _ r.1 in
    ap (λ (faults : Kinds). run_answer faults (walk run_level.rules [] nothing_held (query ∷ left ∷ right ∷ one ∷ more)).held)
    (file_fault run_level 1 query (left ∷ right ∷ one ∷ more) nothing_held q.0 ∙ file_fault run_level 2 left (right ∷ one ∷ more) (run_one query) l.0
    ∙ file_fault run_level 3 right (one ∷ more) (run_two query left) r.0 ∙ file_fault run_level 4 one more (run_three query left right) o.0)

abbrev check_answer : Kinds → Held → Option Asked
check_answer = leaf_answer check_level check_by

check_files : (files : List Text) → list_all is_file_name files ≡ true
    → check_answer (walk_fault check_level [] (at nothing_held 1) files) (walk check_level.rules [] nothing_held files).held ≡ check_of files
unfolding walk_fault walked defaults_fault
check_files [] good = refl
check_files (query ∷ []) good =
    let q = both (is_file_name query) _ good in
    ap₂ check_answer (file_fault check_level 1 query [] nothing_held q.0) (ap (λ (w : Walk). w.held) (file_walked check_level 1 query nothing_held q.0))
check_files (query ∷ one ∷ more) good =
    let q = both (is_file_name query) _ good in
    let o = both (is_file_name one) _ q.1 in
    ap (λ (faults : Kinds). check_answer faults (walk check_level.rules [] nothing_held (query ∷ one ∷ more)).held)
    (file_fault check_level 1 query (one ∷ more) nothing_held q.0 ∙ file_fault check_level 2 one more (after check_level 1 query nothing_held).held o.0)

-- file names after `run`, and after `check`
pub command_of-run : (program : Text) (files : List Text) → list_all is_file_name files ≡ true → command_of (program ∷ codes "run" ∷ files) ≡ run_of files
command_of-run program files good = run_words program files ∙ run_files files good

pub command_of-check : (program : Text) (files : List Text) → list_all is_file_name files ≡ true → command_of (program ∷ codes "check" ∷ files) ≡ check_of files
command_of-check program files good = check_words program files ∙ check_files files good
