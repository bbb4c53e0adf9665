-- How files in memory hold what their callers see.
use Rattle.std.specs.Prelude.{List, [], ◌∷◌, ◌++◌, Option, Some, None, string_bytes}
use Rattle.std.specs.declared.alloc.Global.{Global}
use Rattle.std.specs.declared.boxed.Box.{Box}
use Rattle.saber_io.specs.declared.files.MemFile.{MemFile}
use Rattle.saber_io.specs.declared.files.Place.{Place, Place-F, fold-Place, out-Place}
use Rattle.saber_io.specs.Memory.{SourceState, FileState}

-- a file as its callers see it
abbrev pub file_of : MemFile → FileState
file_of f = record { name = string_bytes f.name; bytes = f.bytes.items; cuts = f.cuts.items; fails = f.fails.items }

-- the source at a place
abbrev pub source_at : Place → SourceState
source_at place = (out-Place place).source

-- the sources of earlier places
abbrev pub earlier : Option (Box (List SourceState) Global) → List SourceState
earlier None = []
earlier (Some b) = b.value

-- the sources before a place, and its own
abbrev place_step : Place-F (List SourceState) → List SourceState
place_step p = earlier p.before ++ p.source ∷ []

-- the sources up to a place, in the order in which they were given back
abbrev pub places_of : Place → List SourceState
places_of = fold-Place (List SourceState) place_step

-- the sources up to the last place, if there is one
abbrev pub all_places : Option (Box Place Global) → List SourceState
all_places None = []
all_places (Some b) = places_of b.value
