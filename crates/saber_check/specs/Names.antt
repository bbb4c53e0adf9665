-- Which names stand for what.
use Rattle.std.specs.Prelude.{ℕ, List, [], ◌∷◌, bytes_eq, Bool, false, not, ◌&&◌, ◌||◌, if◌then◌else◌, Option, Some, None}
use Rattle.std.specs.Option.{option_map_or}
use Rattle.saber_query.specs.declared.tree.Decl.{Decl}
use Rattle.saber_query.specs.declared.tree.Column.{Column}
use Rattle.saber_query.specs.Trees.{Query}

-- the same bytes
abbrev pub same : List ℕ → List ℕ → Bool
same a b = bytes_eq a b

-- whether the name is among these
abbrev pub among : List ℕ → List (List ℕ) → Bool
among n [] = false
among n (m ∷ ms) = same m n || among n ms

-- whether the stream of this name has the column; none where no stream is declared so. The first of two declarations of a name counts.
abbrev pub declares : List Decl → List ℕ → List ℕ → Option Bool
declares [] s n = None
declares (d ∷ ds) s n = if same d.name s then Some (same d.first n || among n d.more) else declares ds s n

-- all declarations in order
abbrev pub decls : Query → List Decl
decls q = q.decl ∷ q.decls

-- the names of its columns in order
abbrev pub names : Decl → List (List ℕ)
names d = d.first ∷ d.more

-- whether a stream is declared with this name
abbrev pub names_stream : List Decl → List ℕ → Bool
names_stream [] s = false
names_stream (d ∷ ds) s = same d.name s || names_stream ds s

-- whether a declaration has this name
abbrev pub is_declared : Query → List ℕ → Bool
is_declared q s = names_stream (decls q) s

-- whether the stream is declared and has the column
abbrev pub has : Query → List ℕ → List ℕ → Bool
has q s n = option_map_or (λ b. b) (declares (decls q) s n) false

-- whether the stream is declared and lacks the column
abbrev pub lacks : Query → List ℕ → List ℕ → Bool
lacks q s n = option_map_or not (declares (decls q) s n) false

-- whether FROM names the stream
abbrev pub is_from : Query → List ℕ → Bool
is_from q s = same q.from.name s || option_map_or (λ f. same f.name s) q.second false

-- whether the column is one of the first stream of FROM, and of the second
abbrev pub in_first : Query → List ℕ → Bool
in_first q n = has q q.from.name n

abbrev pub in_second : Query → List ℕ → Bool
in_second q n = option_map_or (λ f. has q f.name n) q.second false

-- whether the second stream of FROM has this name
abbrev pub is_second : Query → List ℕ → Bool
is_second q s = option_map_or (λ f. same f.name s) q.second false

-- the name is that of a column of the first stream of FROM: a qualified name says that stream, an unqualified one is a column of no other
abbrev pub is_of_first : Query → Column → Bool
is_of_first q c = option_map_or (λ n. same q.from.name c.first && in_first q n) c.second (in_first q c.first && not (in_second q c.first))

-- the name is that of a column of the second
abbrev pub is_of_second : Query → Column → Bool
is_of_second q c = option_map_or (λ n. is_second q c.first && in_second q n) c.second (in_second q c.first && not (in_first q c.first))

-- the first part of a qualified name isn't a stream of FROM
abbrev pub is_unknown_stream : Query → Column → Bool
is_unknown_stream q c = option_map_or (λ n. not (is_from q c.first)) c.second false

-- an unqualified name is a column of no declared stream of FROM; the second part of a qualified name is no column of its declared stream
abbrev pub is_unknown_column : Query → Column → Bool
is_unknown_column q c = option_map_or (λ n. is_from q c.first && lacks q c.first n) c.second (not (in_first q c.first || in_second q c.first))

-- an unqualified name is a column of both streams
abbrev pub is_ambiguous : Query → Column → Bool
is_ambiguous q c = option_map_or (λ n. false) c.second (in_first q c.first && in_second q c.first)
