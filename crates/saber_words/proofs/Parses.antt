-- What the two answers of a parse by `clap` say of the words.
use Rattle.std.proofs.Common.{◌≡◌, ◌∙◌, refl, sym, ap, subst, true, List, [], ◌∷◌, Option, Some, None, Err, IfOk, option_map, inl, inr}
use Rattle.std.specs.Prelude.{if◌then◌else◌, option_and_then}
use Rattle.std.specs.Option.{ok_or}
use Rattle.clap.specs.Walk.{Row, Text}
use Rattle.clap.specs.Simple.{App, HasMatchesOf, is_simple, subcommand_of, subcommand_rows_of}
use Rattle.clap.specs.Kinds.{HasKind, Kinds}
use Rattle.clap.specs.Faults.{fault_of, is_simple_and_free}
use Rattle.clap.specs.Values.{kind_of}
use Rattle.clap.specs.declared.error.Error.{Error}
use Rattle.clap.specs.declared.error.kind.ErrorKind.TheVariants.{OutOfMemory}
use Rattle.clap.specs.declared.parser.matches.ArgMatches.{ArgMatches}
use Rattle.saber_words.specs.declared.commands.WordsFault.TheVariants.{Usage}
use Rattle.saber_words.specs.Commands.{asked_by, command_of, is_faultless, is_taken, saber_app}
use Rattle.saber_words.specs.Many.{many_app, many_in, many_of}

-- a value, where there is no fault
abbrev pub taken_if : {X : Type 0} → Kinds → Option X → Option X
taken_if kinds x = if is_faultless kinds then x else None

-- what the words ask for, where the program takes them: by the name of its subcommand and the values of that one's arguments
abbrev pub asked_for : {X : Type 0} → App → (Text × List Row → Option X) → List Text → Option X
asked_for app by words = taken_if (fault_of app words) (option_and_then by (subcommand_of app words))

-- a parse that succeeds met the subcommand that asks for it
pub asked_for-met : {X : Type 0} (app a : App) (by : Text × List Row → Option X) (words : List Text) (m : ArgMatches) → is_simple app ≡ true → is_simple_and_free app ≡ true → a ≡ app
    → (is_simple_and_free a ≡ true → fault_of a words ≡ []) → HasMatchesOf a words m → asked_for app by words ≡ option_and_then by (subcommand_rows_of m)
asked_for-met app a by words m simple free is fault met =
    let taken : fault_of app words ≡ [] = subst (λ (b : App). is_simple_and_free b ≡ true → fault_of b words ≡ []) is fault free in
    let rows : subcommand_rows_of m ≡ subcommand_of app words = (subst (λ (b : App). HasMatchesOf b words m) is met simple).1 in
    ap (λ (k : Kinds). taken_if k (option_and_then by (subcommand_of app words))) taken ∙ ap (option_and_then by) (sym rows)

-- a parse that fails, and not for memory, is one of words that ask for nothing
pub asked_for-refused : {X : Type 0} (app a : App) (by : Text × List Row → Option X) (words : List Text) (e : Error) → is_simple_and_free app ≡ true → a ≡ app
    → (is_simple_and_free a ≡ true → HasKind (fault_of a words) e) → (kind_of e ≡ OutOfMemory → ⊥) → asked_for app by words ≡ None
asked_for-refused app a by words e free is kinds memory = go (fault_of app words) (subst (λ (b : App). is_simple_and_free b ≡ true → HasKind (fault_of b words) e) is kinds free)
  where
    go : (k : Kinds) → HasKind k e → taken_if k (option_and_then by (subcommand_of app words)) ≡ None
    go [] h = elim h [ inl short ↦ absurd (memory short) | inr none ↦ absurd none ]
    go (x ∷ xs) h = refl

-- what was read of the matches is what the words ask for, or shows that they ask for nothing
pub read_of : {X Y : Type 0} (asked : X → Y) (words : Option Y) (read : Option X) (sub : Option Y) → words ≡ sub → option_map asked read ≡ sub
    → IfOk (ok_or read Usage) (λ x. words ≡ Some (asked x)) × (ok_or read Usage ≡ Err Usage → words ≡ None)
read_of asked words None sub is same = (tt, λ _. is ∙ sym same)
read_of asked words (Some x) sub is same = (is ∙ sym same, λ bad. cc)

-- ---- of the program

pub command_of-met : (a : App) (words : List Text) (m : ArgMatches) → a ≡ saber_app → (is_simple_and_free a ≡ true → fault_of a words ≡ []) → HasMatchesOf a words m
    → command_of words ≡ option_and_then asked_by (subcommand_rows_of m)
unfolding command_of is_taken
command_of-met a words m is fault met = asked_for-met saber_app a asked_by words m refl refl is fault met

pub command_of-refused : (a : App) (words : List Text) (e : Error) → a ≡ saber_app → (is_simple_and_free a ≡ true → HasKind (fault_of a words) e) → (kind_of e ≡ OutOfMemory → ⊥)
    → command_of words ≡ None
unfolding command_of is_taken
command_of-refused a words e is kinds memory = asked_for-refused saber_app a asked_by words e refl is kinds memory

-- ---- of the program with `many` alone

pub many_of-met : (a : App) (words : List Text) (m : ArgMatches) → a ≡ many_app → (is_simple_and_free a ≡ true → fault_of a words ≡ []) → HasMatchesOf a words m
    → many_of words ≡ option_and_then many_in (subcommand_rows_of m)
unfolding many_of
many_of-met a words m is fault met = asked_for-met many_app a many_in words m refl refl is fault met

pub many_of-refused : (a : App) (words : List Text) (e : Error) → a ≡ many_app → (is_simple_and_free a ≡ true → HasKind (fault_of a words) e) → (kind_of e ≡ OutOfMemory → ⊥)
    → many_of words ≡ None
unfolding many_of
many_of-refused a words e is kinds memory = asked_for-refused many_app a many_in words e refl is kinds memory
