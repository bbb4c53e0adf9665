-- The limits of a run's sizes (this project's own rule).
use Rattle.std.specs.Prelude.{◌≤◌, ◌^◌, ℕ}
use Rattle.saber_plan.specs.declared.sizes.Sizes.{Sizes}

-- a task has 1 to 65,536 rows, the ring 1 to 1,024 cells; up to 64 threads work beside the caller; a file
-- has 1 to 2^40 lines, and timestamps that fall by at most 2^40
pub record SizesFit (s : Sizes) : Type 0 where
  pub task : (1 ≤ s.task) × (s.task ≤ 2 ^ 16)
  pub ring : (1 ≤ s.ring) × (s.ring ≤ 2 ^ 10)
  pub threads : s.threads ≤ 64
  pub lines : (1 ≤ s.max_lines) × (s.max_lines ≤ 2 ^ 40)
  pub slack : s.slack ≤ 2 ^ 40

-- how many lines each file of a run may have, and by how much its timestamps may fall
pub record FileLimits : Type 0 where
  pub most : ℕ
  pub slack : ℕ

abbrev pub limits_of : Sizes → FileLimits
limits_of s = record { most = s.max_lines; slack = s.slack }
