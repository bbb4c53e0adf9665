-- A first word that is neither `run` nor `check` nor `demo` nor `chain`.
use Rattle.std.proofs.Common.{◌≡◌, ◌∙◌, ◌||◌, ℕ, refl, sym, ap, ap₂, Bool, true, false, cond, codes, length, List, [], ◌∷◌, Option, Some, None, option_map}
use Rattle.std.specs.Option.{option_map_or}
use Rattle.std.specs.Str.{bytes_eq, chars}
use Rattle.std.specs.Prelude.{slice_get}
use Rattle.std.proofs.lemmas.Slice.Eq.{bytes_eq-Decides}
use Rattle.clap.specs.Lexer.{long_of, short_of}
use Rattle.clap.specs.Walk.{Names, Text, after_flag, bundle_met, bundle_step, idle, long_or_other, nothing_held, plain, short_or_plain, subcommand_met, subcommand_or_other, trailing, walk, walk_from, walked}
use Rattle.clap.specs.Kinds.{Kinds, or_else}
use Rattle.clap.specs.Faults.{bundle_fault, bundle_step_fault, defaults_fault, flag_word_fault, flags_fault, other_fault, step_fault, turn_fault, walk_fault}
use Rattle.saber_words.specs.Commands.{command_of, is_faultless}
use Rattle.saber_words.proofs.Parses.{taken_if}
use Rattle.saber_words.proofs.FileNames.{at}
use Rattle.saber_words.proofs.Levels.{answer, by_walk, names, top}

-- words are refused where the first turn of the walk has a fault
pub refused_at_once : {X : Type 0} (turn later ending : Kinds) (x : Option X) → is_faultless turn ≡ false → taken_if (or_else (or_else turn later) ending) x ≡ None
refused_at_once [] later ending x bad = cc
refused_at_once (kind ∷ kinds) later ending x bad = refl

-- no subcommand has another name
pub other_name : (known word : Text) → (word ≡ known → ⊥) → bytes_eq known word ≡ false
other_name known word other = go (bytes_eq known word) (bytes_eq-Decides known word).0
  where
    go : (b : Bool) → (b ≡ true → known ≡ word) → b ≡ false
    go true same = absurd (other (sym (same refl)))
    go false same = refl

none_met : (word : Text) → (word ≡ codes "run" → ⊥) → (word ≡ codes "check" → ⊥) → (word ≡ codes "demo" → ⊥) → (word ≡ codes "chain" → ⊥) → subcommand_met names idle word ≡ None
none_met word run check demo chain =
    ap₂ (λ (a b : Bool). met a b (bytes_eq (codes "demo") word) (bytes_eq (codes "chain") word)) (other_name (codes "run") word run) (other_name (codes "check") word check)
    ∙ ap₂ (λ (c d : Bool). met false false c d) (other_name (codes "demo") word demo) (other_name (codes "chain") word chain)
  where
    met : Bool → Bool → Bool → Bool → Option Text
    met a b c d =
        option_map (λ (s : Text × List Text). s.0)
        (cond (a || false) (Some (codes "run", [])) (cond (b || false) (Some (codes "check", [])) (cond (c || false) (Some (codes "demo", [])) (cond (d || false) (Some (codes "chain", [])) None))))

-- ---- the fault of the first word, step by step; no positional of the program takes a value

by_name : Text → Option Text → Kinds
by_name word met =
    let step = subcommand_or_other [] met idle 1 word nothing_held in
    or_else (other_fault top met word nothing_held) (step_fault top 1 step.0 step.1)

by_dashes : Text → Bool → Kinds
by_dashes word dashes =
    let step = cond dashes (nothing_held, trailing 1) (long_or_other [] idle word (long_of word) nothing_held) in
    or_else (cond dashes [] (flag_word_fault [] false (long_of word) word nothing_held)) (step_fault top 1 step.0 step.1)

by_long : Text → Option (Text × Option Text) → Kinds
by_long word long =
    let step = long_or_other [] idle word long nothing_held in
    or_else (flag_word_fault [] false long word nothing_held) (step_fault top 1 step.0 step.1)

by_short : Text → Option Text → Kinds
by_short word short =
    let step = short_or_plain [] idle word short nothing_held in
    or_else (option_map_or (λ flags. bundle_fault [] false flags nothing_held) short []) (step_fault top 1 step.0 step.1)

by_flag : Text → Text → ℕ → Option ℕ → Kinds
by_flag word flags n flag =
    let met = bundle_step [] flag flags 0 plain nothing_held (bundle_met [] n) in
    let step = after_flag [] idle word met.0 met.1 in
    or_else (bundle_step_fault [] false flag flags 0 nothing_held (flags_fault [] false n)) (step_fault top 1 step.0 step.1)

flag_fails : (word flags : Text) (n : ℕ) (flag : Option ℕ) → is_faultless (by_flag word flags n flag) ≡ false
unfolding by_flag
flag_fails word flags n None = refl
flag_fails word flags n (Some x) = refl

short_fails : (word : Text) (short : Option Text) → is_faultless (by_short word short) ≡ false
unfolding by_short by_flag flags_fault bundle_met
short_fails word None = refl
short_fails word (Some []) = refl
short_fails word (Some (x ∷ xs)) = flag_fails word (x ∷ xs) (length xs) (slice_get (chars (x ∷ xs)) 0)

long_fails : (word : Text) (long : Option (Text × Option Text)) → is_faultless (by_long word long) ≡ false
unfolding by_long by_short
long_fails word None = short_fails word (short_of word)
long_fails word (Some p) = refl

-- the first turn has a fault, but for `--`
pub first_fails : (known : Names) (word : Text) → subcommand_met known idle word ≡ None → bytes_eq word (45 ∷ 45 ∷ []) ≡ false
    → is_faultless (turn_fault top known (at nothing_held 1) word) ≡ false
unfolding by_name by_dashes by_long
first_fails known word none dashes =
    ap (λ (met : Option Text). is_faultless (by_name word met)) none
    ∙ ap (λ (b : Bool). is_faultless (by_dashes word b)) dashes
    ∙ long_fails word (long_of word)

-- after `--` a word is a value, and without one the subcommand is missing
dashes_fail : (program word : Text) (rest : List Text) → word ≡ 45 ∷ 45 ∷ [] → command_of (program ∷ word ∷ rest) ≡ None
unfolding walk_fault walked defaults_fault
dashes_fail program word rest is = ap (λ (w : Text). command_of (program ∷ w ∷ rest)) is ∙ by_walk program ((45 ∷ 45 ∷ []) ∷ rest) ∙ go rest
  where
    go : (rest : List Text) → answer (walk_fault top names (walk_from nothing_held) ((45 ∷ 45 ∷ []) ∷ rest)) (walk top.rules names nothing_held ((45 ∷ 45 ∷ []) ∷ rest)) ≡ None
    go [] = refl
    go (x ∷ more) = refl

-- words whose first asks for no subcommand are no command
pub command_of-other : (program word : Text) (rest : List Text) → (word ≡ codes "run" → ⊥) → (word ≡ codes "check" → ⊥) → (word ≡ codes "demo" → ⊥) → (word ≡ codes "chain" → ⊥) → command_of (program ∷ word ∷ rest) ≡ None
unfolding walk_fault
command_of-other program word rest run check demo chain = go (bytes_eq word (45 ∷ 45 ∷ [])) refl
  where
    go : (b : Bool) → bytes_eq word (45 ∷ 45 ∷ []) ≡ b → command_of (program ∷ word ∷ rest) ≡ None
    go true is = dashes_fail program word rest ((bytes_eq-Decides word (45 ∷ 45 ∷ [])).0 is)
    go false is = by_walk program (word ∷ rest) ∙ refused_at_once (turn_fault top names (at nothing_held 1) word) _ _ _ (first_fails names word (none_met word run check demo chain) is)
