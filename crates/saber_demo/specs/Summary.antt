-- What is told of a text (this project's rule): how many rows it is of, its lines, its bytes, and its last line.
use Rattle.std.specs.Prelude.{ℕ, List, [], ◌∷◌, ◌++◌, ◌==◌, length, codes, decimal, count_by}
use Rattle.saber_plan.specs.Rows.{Line, lines_of}

-- a name, a number, and LF
abbrev pub entry : List ℕ → ℕ → List ℕ
entry name n = name ++ decimal n ++ 10 ∷ []

-- the content of the last of some lines; where there is none, `-`
abbrev pub last_content : List Line → List ℕ
last_content [] = codes "-"
last_content (l ∷ []) = l.content
last_content (l ∷ m ∷ ls) = last_content (m ∷ ls)

-- how many line feeds a text has
abbrev pub feeds : List ℕ → ℕ
feeds text = count_by (λ b. b == 10) text

-- four lines on a text that some rows gave
unfoldable pub summary : ℕ → List ℕ → List ℕ
summary rows text = entry (codes "rows ") rows ++ entry (codes "lines ") (feeds text) ++ entry (codes "bytes ") (length text)
    ++ codes "last " ++ last_content (lines_of text) ++ 10 ∷ []
