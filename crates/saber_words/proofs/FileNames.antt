-- What `clap` makes of a word that is a file name.
use Rattle.std.proofs.Common.{◌≡◌, ◌∙◌, ◌==◌, ◌&&◌, ℕ, refl, sym, ap, ap₂, Bool, true, false, not, cond, List, [], ◌∷◌, Option, Some, None, true≢false}
use Rattle.std.specs.Option.{option_map_or}
use Rattle.std.specs.Str.{bytes_eq}
use Rattle.std.specs.Prelude.{option_and_then}
use Rattle.clap.specs.Lexer.{long_of, long_of_rest, short_of, short_of_rest, strip_byte}
use Rattle.clap.specs.Walk.{Held, Rule, Step, Text, Walk, after_step, arg_by_index, idle, long_or_other, short_or_plain, to_positional, trailing, value, walked, word_met}
use Rattle.clap.specs.Simple.{Shape}
use Rattle.clap.specs.Kinds.{or_else}
use Rattle.clap.specs.Faults.{bundle_fault, flag_word_fault, step_fault, walk_fault, word_fault}
use Rattle.saber_words.specs.Commands.{is_file_name}

-- it is not `--`, and neither a long flag nor a short one
no_dashes : (word : Text) → is_file_name word ≡ true → bytes_eq word (45 ∷ 45 ∷ []) ≡ false
no_dashes [] name = refl
no_dashes (x ∷ []) name = elim (x == 45) as (λ b. (b && false) ≡ false) [ true ↦ refl | false ↦ refl ]
no_dashes (x ∷ y ∷ ys) name = go (x == 45) name
  where
    go : (b : Bool) → not b ≡ true → (b && bytes_eq (y ∷ ys) (45 ∷ [])) ≡ false
    go true bad = absurd (true≢false (sym bad))
    go false name = refl

no_long : (word : Text) → is_file_name word ≡ true → long_of word ≡ None
no_long [] name = refl
no_long (x ∷ []) name =
    elim (x == 45) as (λ b. option_and_then long_of_rest (option_and_then (strip_byte 45) (cond b (Some []) None)) ≡ None) [ true ↦ refl | false ↦ refl ]
no_long (x ∷ y ∷ ys) name = go (x == 45) name
  where
    go : (b : Bool) → not b ≡ true → option_and_then long_of_rest (option_and_then (strip_byte 45) (cond b (Some (y ∷ ys)) None)) ≡ None
    go true bad = absurd (true≢false (sym bad))
    go false name = refl

no_short : (word : Text) → is_file_name word ≡ true → short_of word ≡ None
no_short [] name = refl
no_short (x ∷ []) name = elim (x == 45) as (λ b. option_and_then short_of_rest (cond b (Some []) None) ≡ None) [ true ↦ refl | false ↦ refl ]
no_short (x ∷ y ∷ ys) name = go (x == 45) name
  where
    go : (b : Bool) → not b ≡ true → option_and_then short_of_rest (cond b (Some (y ∷ ys)) None) ≡ None
    go true bad = absurd (true≢false (sym bad))
    go false name = refl

-- the walk between two words, at this position
abbrev pub at : Held → ℕ → Walk
at h position = record { held = h; waiting = idle; position = position; is_trailing = false; stopped = None }

-- and after a value there
abbrev pub after : Shape → ℕ → Text → Held → Walk
after s position word h = to_positional s.rules (arg_by_index s.rules position) word (at h position) h

-- it is a value
file_met : (rules : List Rule) (position : ℕ) (word : Text) (h : Held) → is_file_name word ≡ true → word_met rules [] false idle position word h ≡ (h, value)
file_met rules position word h name =
    ap (λ (b : Bool). cond b (h, trailing position) (long_or_other rules idle word (long_of word) h)) (no_dashes word name)
    ∙ ap (λ (o : Option (Text × Option Text)). long_or_other rules idle word o h) (no_long word name)
    ∙ ap (λ (o : Option Text). short_or_plain rules idle word o h) (no_short word name)

-- so it goes to the positional
pub file_walked : (s : Shape) (position : ℕ) (word : Text) (h : Held) → is_file_name word ≡ true → walked s.rules [] (at h position) word ≡ after s position word h
unfolding walked
file_walked s position word h name = ap (λ (met : Held × Step). after_step s.rules word (at h position) met.0 met.1) (file_met s.rules position word h name)

-- it is no call for help, and names no flag that the command lacks
file_passes : (s : Shape) (word : Text) (h : Held) → is_file_name word ≡ true → word_fault s [] false idle word h ≡ []
file_passes s word h name =
    ap (λ (b : Bool). cond b [] (flag_word_fault s.rules s.args_override_self (long_of word) word h)) (no_dashes word name)
    ∙ ap (λ (o : Option (Text × Option Text)). flag_word_fault s.rules s.args_override_self o word h) (no_long word name)
    ∙ ap (λ (o : Option Text). option_map_or (λ flags. bundle_fault s.rules s.args_override_self flags h) o []) (no_short word name)

-- so its one fault may be that no positional takes it
pub file_fault : (s : Shape) (position : ℕ) (word : Text) (rest : List Text) (h : Held) → is_file_name word ≡ true
    → walk_fault s [] (at h position) (word ∷ rest) ≡ or_else (step_fault s position h value) (walk_fault s [] (after s position word h) rest)
unfolding walk_fault
file_fault s position word rest h name =
    ap₂ or_else
    (ap₂ or_else (file_passes s word h name) (ap (λ (met : Held × Step). step_fault s position met.0 met.1) (file_met s.rules position word h name)))
    (ap (λ (w : Walk). walk_fault s [] w rest) (file_walked s position word h name))
