-- What calls on sources, sinks and files do (this project's rule).
use Rattle.std.specs.Prelude.{◌≡◌, ℕ, List, [], ◌∷◌, ◌++◌, Option, Some, option_map, IfSome, if◌then◌else◌, ◌==◌}
use Rattle.std.specs.List.{find}
use Rattle.std.specs.Str.{bytes_eq}
use Rattle.saber_plan.specs.Outputs.{raised_count}

-- what was left: these bytes, and then what is left now
abbrev pub left_before : List ℕ → Option (List ℕ) → Option (List ℕ)
left_before bytes rest = option_map (λ r. bytes ++ r) rest

-- nothing was left, where it tells
abbrev pub EndsEmpty : Option (List ℕ) → Type 0
EndsEmpty left = IfSome left (λ bytes. bytes ≡ [])

-- a source that was given back: what it had left, and its count of faults
abbrev pub Closed : Type 0
Closed = Option (List ℕ) × ℕ

-- what files tell: contents by name, the names asked for in order, the sources given back in order
pub record FilesView : Type 0 where
  pub contents : List (List ℕ × List ℕ)
  pub asked : List (List ℕ)
  pub closed : List Closed

-- the bytes under a name, if it is there; the first where it is there twice
abbrev pub content_in : List (List ℕ × List ℕ) → List ℕ → Option (List ℕ)
content_in contents name = option_map (λ e. e.1) (find (λ e. bytes_eq e.0 name) contents)

-- a name was asked for
abbrev pub after_asking : Option FilesView → List ℕ → Option FilesView
after_asking told name = option_map (λ t. record { contents = t.contents; asked = t.asked ++ name ∷ []; closed = t.closed }) told

-- a source with so much left and so many faults was given back
abbrev pub after_closing : Option FilesView → Option (List ℕ) → ℕ → Option FilesView
after_closing told left faults = option_map (λ t. record { contents = t.contents; asked = t.asked; closed = t.closed ++ (left, faults) ∷ [] }) told

-- the count after a source with these faults was given back
abbrev pub raised_faults : ℕ → ℕ → ℕ
raised_faults count faults = if faults == 0 then count else raised_count count

-- a source that was opened has left what is there under the name
abbrev pub OpensIn : List (List ℕ × List ℕ) → List ℕ → Option (List ℕ) → Type 0
OpensIn contents name left = (bytes : List ℕ) × (content_in contents name ≡ Some bytes) × (left ≡ Some bytes)

-- the same, where the files tell
abbrev pub Opens : Option FilesView → List ℕ → Option (List ℕ) → Type 0
Opens told name left = IfSome told (λ t. OpensIn t.contents name left)
