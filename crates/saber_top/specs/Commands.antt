-- Which words ask for several queries over one input, and what each of them is asked.
use Rattle.std.specs.Prelude.{◌≡◌, ℕ, List, [], ◌∷◌, ◌++◌, Bool, true, false, Some, None, codes, map}
use Rattle.std.specs.Str.{bytes_eq}
use Rattle.saber_words.specs.Commands.{AskedRun}
use Rattle.saber_words.specs.Many.{AskedMany, many_of, out_name}

-- the second word, behind the program's name, is `many`
abbrev pub is_many : List (List ℕ) → Bool
is_many [] = false
is_many (program ∷ []) = false
is_many (program ∷ second ∷ more) = bytes_eq second (codes "many")

-- a fact of what the words ask for, if they are `many`
abbrev pub IfMany : List (List ℕ) → (AskedMany → Type 0) → Type 0
IfMany ws P = is_many ws ≡ true → (m : AskedMany) → many_of ws ≡ Some m → P m

-- the run of one of the queries alone: over the same file, with the same sizes
abbrev pub alone : AskedMany → List ℕ → AskedRun
alone m query = record { query = query; left = m.left; right = None; sizes = m.sizes }

-- the files that are opened, in their order: the queries' and then the left one
abbrev pub many_names : AskedMany → List (List ℕ)
many_names m = m.queries ++ m.left ∷ []

-- the files that the answers of these queries go to, in their order
abbrev pub out_names : List (List ℕ) → List (List ℕ)
out_names queries = map out_name queries
