-- What the words of `many` come to.
use Rattle.std.proofs.Common.{◌≡◌, ◌∙◌, ◌≤◌, ◌<◌, ◌||◌, ◌&&◌, ℕ, arith, length, refl, sym, ap, ap₂, Bool, true, false, cond, codes, List, [], ◌∷◌, Option, Some, None, option_map}
use Rattle.std.specs.List.{list_all}
use Rattle.std.specs.Prelude.{fold}
use Rattle.std.specs.Str.{bytes_eq}
use Rattle.std.proofs.lemmas.Bool.{le-leb, lt-leb}
use Rattle.std.proofs.lemmas.Slice.Eq.{bytes_eq-Decides}
use Rattle.clap.specs.Walk.{Held, Names, Text, Walk, finished, idle, nothing_held, subcommand_met, value, walk, walk_from, walked}
use Rattle.clap.specs.Simple.{Shape, built, built_leaf, inherited, names_of}
use Rattle.clap.specs.Kinds.{Kinds, or_else}
use Rattle.clap.specs.Faults.{defaults_fault, step_fault, turn_fault, walk_fault}
use Rattle.clap.proofs.WalkLemmas.{both, walk_stopped}
use Rattle.saber_words.specs.Commands.{is_file_name, saber_shape}
use Rattle.saber_words.specs.Many.{AskedMany, many_app, many_by, many_in, many_of, many_of_files, many_shape, plain_many}
use Rattle.saber_words.proofs.Parses.{taken_if}
use Rattle.saber_words.proofs.FileNames.{after, at, file_fault, file_walked}
use Rattle.saber_words.proofs.Levels.{answer_of, end_fault, leaf_answer, or_else_none, stopped_fault, top}
use Rattle.saber_words.proofs.OtherWords.{first_fails, other_name, refused_at_once}

-- ---- the program

abbrev names : Names
names = names_of (built many_app)

abbrev answer : Kinds → Walk → Option AskedMany
answer = answer_of many_app many_in

by_walk : (program : Text) (words : List Text) → many_of (program ∷ words) ≡ answer (walk_fault top names (walk_from nothing_held) words) (walk top.rules names nothing_held words)
unfolding many_of
by_walk program words = refl

-- ---- its subcommand

abbrev level : Shape
level = built_leaf (inherited saber_shape many_shape)

abbrev many_answer : Kinds → Held → Option AskedMany
many_answer = leaf_answer level many_by

many_words : (program : Text) (files : List Text) → many_of (program ∷ codes "many" ∷ files)
    ≡ many_answer (walk_fault level [] (at nothing_held 1) files) (walk level.rules [] nothing_held files).held
unfolding walk_fault walked defaults_fault
many_words program files =
    by_walk program (codes "many" ∷ files)
    ∙ ap₂ answer (stopped_fault names top (walk_from nothing_held) (codes "many") [] files) (sym (walk_stopped top.rules names (walk_from nothing_held) (codes "many") [] files))
    ∙ ap (λ (kinds : Kinds). taken_if kinds (many_by (finished level.rules (walk level.rules [] nothing_held files).held)))
    (or_else_none (or_else (walk_fault level [] (at nothing_held 1) files) (end_fault level (walk level.rules [] nothing_held files).held false [])))

-- ---- file names

-- the answer by the words from a position on
abbrev answer_from : ℕ → Held → List Text → Option AskedMany
answer_from position held files = many_answer (walk_fault level [] (at held position) files) (fold (walked level.rules []) (at held position) files).held

-- what is held after a value at a position
abbrev put : ℕ → Text → Held → Held
put position file held = (after level position file held).held

-- a file name goes to the positional, where one takes it
on : (position next : ℕ) (held : Held) (file : Text) (rest : List Text) → is_file_name file ≡ true → step_fault level position held value ≡ [] → after level position file held ≡ at (put position file held) next
    → answer_from position held (file ∷ rest) ≡ answer_from next (put position file held) rest
on position next held file rest name free is =
    let step : walked level.rules [] (at held position) file ≡ at (put position file held) next = file_walked level position file held name ∙ is in
    ap₂ many_answer (file_fault level position file rest held name ∙ ap₂ (λ (k : Kinds) (w : Walk). or_else k (walk_fault level [] w rest)) free is)
    (ap (λ (w : Walk). (fold (walked level.rules []) w rest).held) step)

-- what is held after each value
abbrev one : Text → Held
one l = put 1 l nothing_held

abbrev two : Text → Text → Held
two l a = put 2 a (one l)

abbrev three : Text → Text → Text → Held
three l a b = put 3 b (two l a)

abbrev four : Text → Text → Text → Text → Held
four l a b c = put 4 c (three l a b)

abbrev five : Text → Text → Text → Text → Text → Held
five l a b c d = put 5 d (four l a b c)

abbrev six : Text → Text → Text → Text → Text → Text → Held
six l a b c d e = put 6 e (five l a b c d)

abbrev seven : Text → Text → Text → Text → Text → Text → Text → Held
seven l a b c d e f = put 7 f (six l a b c d e)

abbrev eight : Text → Text → Text → Text → Text → Text → Text → Text → Held
eight l a b c d e f g = put 8 g (seven l a b c d e f)

abbrev nine : Text → Text → Text → Text → Text → Text → Text → Text → Text → Held
nine l a b c d e f g h = put 9 h (eight l a b c d e f g)

-- a ninth query is one too many
too_many : (l : Text) (queries : List Text) → 8 < length queries → many_of_files (l ∷ queries) ≡ None
too_many l queries past =
    let first : 1 ≤ length queries = omega (arith, past) in
    ap₂ (λ (some few : Bool). cond (some && few) (Some (plain_many l queries)) None) (le-leb 1 (length queries) first) (lt-leb (length queries) 8 past)

-- the words behind so many file names
after_nine : (l a b c d e f g h : Text) (files : List Text) → list_all is_file_name files ≡ true → answer_from 10 (nine l a b c d e f g h) files ≡ many_of_files (l ∷ a ∷ b ∷ c ∷ d ∷ e ∷ f ∷ g ∷ h ∷ files)
unfolding walk_fault walked defaults_fault
after_nine l a b c d e f g h [] good = refl
after_nine l a b c d e f g h (file ∷ more) good =
    let name = both (is_file_name file) _ good in
    let end : Held = (fold (walked level.rules []) (at (nine l a b c d e f g h) 10) (file ∷ more)).held in
    let many : 8 < length (a ∷ b ∷ c ∷ d ∷ e ∷ f ∷ g ∷ h ∷ file ∷ more) = omega arith in
    let refused : many_answer (or_else (step_fault level 10 (nine l a b c d e f g h) value) (walk_fault level [] (after level 10 file (nine l a b c d e f g h)) more)) end ≡ None = refl in
    ap (λ (faults : Kinds). many_answer faults end) (file_fault level 10 file more (nine l a b c d e f g h) name.0) ∙ refused ∙ sym (too_many l (a ∷ b ∷ c ∷ d ∷ e ∷ f ∷ g ∷ h ∷ file ∷ more) many)

after_eight : (l a b c d e f g : Text) (files : List Text) → list_all is_file_name files ≡ true → answer_from 9 (eight l a b c d e f g) files ≡ many_of_files (l ∷ a ∷ b ∷ c ∷ d ∷ e ∷ f ∷ g ∷ files)
unfolding walk_fault walked defaults_fault
after_eight l a b c d e f g [] good = refl
after_eight l a b c d e f g (h ∷ files) good =
    let name = both (is_file_name h) _ good in
    on 9 10 (eight l a b c d e f g) h files name.0 refl refl ∙ after_nine l a b c d e f g h files name.1

after_seven : (l a b c d e f : Text) (files : List Text) → list_all is_file_name files ≡ true → answer_from 8 (seven l a b c d e f) files ≡ many_of_files (l ∷ a ∷ b ∷ c ∷ d ∷ e ∷ f ∷ files)
unfolding walk_fault walked defaults_fault
after_seven l a b c d e f [] good = refl
after_seven l a b c d e f (g ∷ files) good =
    let name = both (is_file_name g) _ good in
    on 8 9 (seven l a b c d e f) g files name.0 refl refl ∙ after_eight l a b c d e f g files name.1

after_six : (l a b c d e : Text) (files : List Text) → list_all is_file_name files ≡ true → answer_from 7 (six l a b c d e) files ≡ many_of_files (l ∷ a ∷ b ∷ c ∷ d ∷ e ∷ files)
unfolding walk_fault walked defaults_fault
after_six l a b c d e [] good = refl
after_six l a b c d e (f ∷ files) good =
    let name = both (is_file_name f) _ good in
    on 7 8 (six l a b c d e) f files name.0 refl refl ∙ after_seven l a b c d e f files name.1

after_five : (l a b c d : Text) (files : List Text) → list_all is_file_name files ≡ true → answer_from 6 (five l a b c d) files ≡ many_of_files (l ∷ a ∷ b ∷ c ∷ d ∷ files)
unfolding walk_fault walked defaults_fault
after_five l a b c d [] good = refl
after_five l a b c d (e ∷ files) good =
    let name = both (is_file_name e) _ good in
    on 6 7 (five l a b c d) e files name.0 refl refl ∙ after_six l a b c d e files name.1

after_four : (l a b c : Text) (files : List Text) → list_all is_file_name files ≡ true → answer_from 5 (four l a b c) files ≡ many_of_files (l ∷ a ∷ b ∷ c ∷ files)
unfolding walk_fault walked defaults_fault
after_four l a b c [] good = refl
after_four l a b c (d ∷ files) good =
    let name = both (is_file_name d) _ good in
    on 5 6 (four l a b c) d files name.0 refl refl ∙ after_five l a b c d files name.1

after_three : (l a b : Text) (files : List Text) → list_all is_file_name files ≡ true → answer_from 4 (three l a b) files ≡ many_of_files (l ∷ a ∷ b ∷ files)
unfolding walk_fault walked defaults_fault
after_three l a b [] good = refl
after_three l a b (c ∷ files) good =
    let name = both (is_file_name c) _ good in
    on 4 5 (three l a b) c files name.0 refl refl ∙ after_four l a b c files name.1

after_two : (l a : Text) (files : List Text) → list_all is_file_name files ≡ true → answer_from 3 (two l a) files ≡ many_of_files (l ∷ a ∷ files)
unfolding walk_fault walked defaults_fault
after_two l a [] good = refl
after_two l a (b ∷ files) good =
    let name = both (is_file_name b) _ good in
    on 3 4 (two l a) b files name.0 refl refl ∙ after_three l a b files name.1

after_one : (l : Text) (files : List Text) → list_all is_file_name files ≡ true → answer_from 2 (one l) files ≡ many_of_files (l ∷ files)
unfolding walk_fault walked defaults_fault
after_one l [] good = refl
after_one l (a ∷ files) good =
    let name = both (is_file_name a) _ good in
    on 2 3 (one l) a files name.0 refl refl ∙ after_two l a files name.1

many_files : (files : List Text) → list_all is_file_name files ≡ true → answer_from 1 nothing_held files ≡ many_of_files files
unfolding walk_fault walked defaults_fault
many_files [] good = refl
many_files (l ∷ files) good =
    let name = both (is_file_name l) _ good in
    on 1 2 nothing_held l files name.0 refl refl ∙ after_one l files name.1

-- file names after `many`
pub many_of-files : (program : Text) (files : List Text) → list_all is_file_name files ≡ true → many_of (program ∷ codes "many" ∷ files) ≡ many_of_files files
many_of-files program files good = many_words program files ∙ many_files files good

-- ---- another first word

none_met : (word : Text) → (word ≡ codes "many" → ⊥) → subcommand_met names idle word ≡ None
none_met word many = ap met (other_name (codes "many") word many)
  where
    met : Bool → Option Text
    met b = option_map (λ (s : Text × List Text). s.0) (cond (b || false) (Some (codes "many", [])) None)

-- after `--` a word is a value, and without one the subcommand is missing
dashes_fail : (program word : Text) (rest : List Text) → word ≡ 45 ∷ 45 ∷ [] → many_of (program ∷ word ∷ rest) ≡ None
unfolding walk_fault walked defaults_fault
dashes_fail program word rest is = ap (λ (w : Text). many_of (program ∷ w ∷ rest)) is ∙ by_walk program ((45 ∷ 45 ∷ []) ∷ rest) ∙ go rest
  where
    go : (rest : List Text) → answer (walk_fault top names (walk_from nothing_held) ((45 ∷ 45 ∷ []) ∷ rest)) (walk top.rules names nothing_held ((45 ∷ 45 ∷ []) ∷ rest)) ≡ None
    go [] = refl
    go (x ∷ more) = refl

-- words whose first is not `many` are not this command
pub many_of-other : (program word : Text) (rest : List Text) → (word ≡ codes "many" → ⊥) → many_of (program ∷ word ∷ rest) ≡ None
unfolding walk_fault
many_of-other program word rest many = go (bytes_eq word (45 ∷ 45 ∷ [])) refl
  where
    go : (b : Bool) → bytes_eq word (45 ∷ 45 ∷ []) ≡ b → many_of (program ∷ word ∷ rest) ≡ None
    go true is = dashes_fail program word rest ((bytes_eq-Decides word (45 ∷ 45 ∷ [])).0 is)
    go false is = by_walk program (word ∷ rest) ∙ refused_at_once (turn_fault top names (at nothing_held 1) word) _ _ _ (first_fails names word (none_met word many) is)
