-- Files in memory by their names.
use Rattle.std.proofs.Common.{◌≡◌, ℕ, List, Option, Some, None, map, find, option_map, string_bytes, refl, ap, sym, ◌∙◌}
use Rattle.std.specs.Str.{bytes_eq}
use Rattle.saber_io.specs.declared.files.MemFile.{MemFile}
use Rattle.saber_io.specs.Outside.{content_in, OpensIn}
use Rattle.saber_io.specs.Memory.{FileState, SourceState, file_named, opened_file, content_of}
use Rattle.saber_io.specs.Files.{file_of}
use Rattle.saber_io.proofs.Finds.{find-map}

-- the bytes of a content are those of its file
bytes_of-content : (o : Option FileState) → option_map (λ e. e.1) (option_map content_of o) ≡ option_map (λ f. f.bytes) o
bytes_of-content None = refl
bytes_of-content (Some f) = refl

-- the content under a name is that of the first file of this name
pub content_in-map : (files : List FileState) (name : List ℕ) → content_in (map content_of files) name ≡ option_map (λ f. f.bytes) (file_named files name)
content_in-map files name = rw (find-map (λ e. bytes_eq e.0 name) content_of files) (bytes_of-content (file_named files name))

-- a source that was opened over a file has left what the file has
left-opened : (o : Option FileState) (source : SourceState) → option_map opened_file o ≡ Some source → (bytes : List ℕ) × (option_map (λ f. f.bytes) o ≡ Some bytes) × (Some source.left ≡ Some bytes)
left-opened None source e = (source.left, ap (option_map (λ s. s.left)) e, refl)
left-opened (Some f) source e = (f.bytes, refl, sym (ap (option_map (λ s. s.left)) e))

-- a source over the first file of a name has left what is there under this name
pub opens-first : (files : List FileState) (name : List ℕ) (source : SourceState) → option_map opened_file (file_named files name) ≡ Some source → OpensIn (map content_of files) name (Some source.left)
opens-first files name source e =
    let found = left-opened (file_named files name) source e in
    (found.0, content_in-map files name ∙ found.1, found.2)

-- the first file of a name, among the files that are held
pub file_named-map : (files : List MemFile) (name : List ℕ) → file_named (map file_of files) name ≡ option_map file_of (find (λ f. bytes_eq (string_bytes f.name) name) files)
file_named-map files name = find-map (λ f. bytes_eq f.name name) file_of files
