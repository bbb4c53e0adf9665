-- Pauses, as their callers see them (this project's rule).
use Rattle.std.specs.Prelude.{ℕ}
use Rattle.saber_pause.specs.declared.Pause.{Pause}

-- how often in a row there was nothing to do; it stands at 70, where each further pause is the longest
abbrev pub idle_times : Pause → ℕ
idle_times p = p.idle
