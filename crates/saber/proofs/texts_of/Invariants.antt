use Rattle.std.proofs.Common.{◌≡◌, ◌++◌, drop, map, List, ℕ, Bor}
use Rattle.std.specs.Prelude.{string_bytes}
use Rattle.saber.proofs.texts_of.Given as goal

abbrev pub invariant-loop-text : goal.invariant-loop-text
invariant-loop-text l = map (λ (w : Bor (List ℕ)). w.now) l.words.items ++ map string_bytes (drop l.text-index l.texts) ≡ map string_bytes l.texts
