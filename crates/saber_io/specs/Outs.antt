-- Files that are created (this project's rule). Creates are numbered from 1.
use Rattle.std.specs.Prelude.{◌≡◌, ℕ, List, [], ◌∷◌, ◌++◌, map, filter, Option, option_map, IfSome, string_bytes}
use Rattle.std.specs.Str.{bytes_eq}
use Rattle.saber_io.specs.declared.mem_outs.MemFail.{MemFail}
use Rattle.saber_plan.specs.Outputs.{raised_count}
use Rattle.saber_io.specs.Memory.{SinkState}

-- one name more was asked for
abbrev pub after_naming : Option (List (List ℕ)) → List ℕ → Option (List (List ℕ))
after_naming asked name = option_map (λ names. names ++ name ∷ []) asked

-- nothing is written, where it tells
abbrev pub HoldsNothing : Option (List ℕ) → Type 0
HoldsNothing written = IfSome written (λ bytes. bytes ≡ [])

-- files that are created in memory: the numbers of the creates that fail, the writes that fail, how many creates there were, how many failed,
-- the names asked for
pub record OutsState : Type 0 where
  pub fails : List ℕ
  pub writes : List MemFail
  pub creates : ℕ
  pub faults : ℕ
  pub asked : List (List ℕ)

-- the writes to a file of this name that fail: their numbers, each with the bytes that it still lets out
abbrev pub fails_of : List MemFail → List ℕ → List (ℕ × ℕ)
fails_of writes name = map (λ f. (f.write, f.out)) (filter (λ f. bytes_eq (string_bytes f.name) name) writes)

-- such a file, before its first write
abbrev pub created_file : OutsState → List ℕ → SinkState
created_file outs name = record { written = []; fails = fails_of outs.writes name; writes = 0; faults = 0 }

-- files of which one more was asked for
abbrev pub one_asked : OutsState → List ℕ → OutsState
one_asked outs name = record outs { creates = raised_count outs.creates; asked = outs.asked ++ name ∷ [] }

-- and it couldn't be created
abbrev pub one_failed : OutsState → List ℕ → OutsState
one_failed outs name = record (one_asked outs name) { faults = raised_count outs.faults }
