-- The adapters over the real outside, as their callers see them.
use Rattle.std.specs.Prelude.{ℕ}

-- a sink over a writer: the writer, how often it has failed, and how many writes there were
pub record WriterState (W : Type 0) : Type 0 where
  pub writer : W
  pub faults : ℕ
  pub writes : ℕ

-- a sink over a file: how often it has failed, and how many writes there were
pub record Counts : Type 0 where
  pub faults : ℕ
  pub writes : ℕ

-- files that are created: how often one was asked for, and how often it couldn't be created
pub record OutCounts : Type 0 where
  pub creates : ℕ
  pub faults : ℕ
