-- Sources, sinks and files in memory, as their callers see them. Reads, writes and opens are numbered from 1 (this project's rule).
use Rattle.std.specs.Prelude.{◌≡◌, ℕ, ◌-◌, min, List, [], ◌∷◌, ◌++◌, length, map, take, Option, Some, IsSomeAnd, option_map, unwrap_or, slice_get, ◌==◌}
use Rattle.std.specs.List.{find}
use Rattle.std.specs.Str.{bytes_eq}
use Rattle.saber_io.specs.Outside.{Closed, FilesView}
use Rattle.saber_plan.specs.Outputs.{raised_count}

-- a source: its bytes left, the most that each read gives by its number, the numbers of the reads that fail, how many reads were made, how many failed
pub record SourceState : Type 0 where
  pub left : List ℕ
  pub cuts : List ℕ
  pub fails : List ℕ
  pub reads : ℕ
  pub faults : ℕ

-- of so many bytes, those that the cut for a read lets through; past the list all
abbrev pub within_cut : List ℕ → ℕ → ℕ → ℕ
within_cut cuts number size = min (unwrap_or (slice_get cuts (number - 1)) size) size

-- how many bytes the next read gives into a buffer of this size, if it doesn't fail
abbrev pub read_size : SourceState → ℕ → ℕ
read_size source size = within_cut source.cuts (raised_count source.reads) (min (length source.left) size)

-- a sink: its bytes, the numbers of the writes that fail with the bytes that each still lets out, how many writes were made, how many failed
pub record SinkState : Type 0 where
  pub written : List ℕ
  pub fails : List (ℕ × ℕ)
  pub writes : ℕ
  pub faults : ℕ

-- how many bytes the write with this number still lets out, if it fails
abbrev pub let_out : List (ℕ × ℕ) → ℕ → Option ℕ
let_out fails number = option_map (λ f. f.1) (find (λ f. f.0 == number) fails)

-- a sink whose next write failed: the write is counted, and of this piece only what its fault lets out is written
abbrev pub CutsShort : SinkState → SinkState → List ℕ → Type 0
CutsShort old new piece = IsSomeAnd (let_out old.fails (raised_count old.writes)) (λ out. new ≡ record old {
  written = old.written ++ take out piece;
  writes = raised_count old.writes;
  faults = raised_count old.faults;
})

-- a file: its name and bytes, and the cuts and fails of the source that it gives
pub record FileState : Type 0 where
  pub name : List ℕ
  pub bytes : List ℕ
  pub cuts : List ℕ
  pub fails : List ℕ

-- files: the files, the numbers of the opens that fail, how many opens were made, the faults, the names asked for, the sources given back
pub record FilesState : Type 0 where
  pub files : List FileState
  pub fails : List ℕ
  pub opens : ℕ
  pub faults : ℕ
  pub asked : List (List ℕ)
  pub closed : List SourceState

-- the first file of this name
abbrev pub file_named : List FileState → List ℕ → Option FileState
file_named files name = find (λ f. bytes_eq f.name name) files

-- files whose next open failed: the open is counted, and this name was asked for
abbrev pub failed_open : FilesState → List ℕ → FilesState
failed_open files name = record files {
  opens = raised_count files.opens;
  faults = raised_count files.faults;
  asked = files.asked ++ name ∷ [];
}

-- a file's source before its first read
abbrev pub opened_file : FileState → SourceState
opened_file file = record { left = file.bytes; cuts = file.cuts; fails = file.fails; reads = 0; faults = 0 }

-- a file as the outside tells of it
abbrev pub content_of : FileState → List ℕ × List ℕ
content_of file = (file.name, file.bytes)

-- a source given back, as the outside tells of it
abbrev pub closed_of : SourceState → Closed
closed_of source = (Some source.left, source.faults)

-- what files in memory tell
abbrev pub told_of : FilesState → FilesView
told_of files = record { contents = map content_of files.files; asked = files.asked; closed = map closed_of files.closed }
