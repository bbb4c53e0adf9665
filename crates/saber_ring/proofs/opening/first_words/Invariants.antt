use Rattle.std.proofs.Common.{◌≡◌, ◌+◌, ◌<◌, length, ℕ, ◌*◌, get_or}
use Rattle.saber_ring.proofs.opening.first_words.Given as goal

abbrev pub invariant-loop-i : goal.invariant-loop-i
invariant-loop-i l = (length l.words.items ≡ 2 * l.size + 1) × (get_or l.words.items 0 0 ≡ 0) × ((b : ℕ) → b < l.i → get_or l.words.items (b + 1) 0 ≡ 8 * b) × ((b : ℕ) → b < l.i → get_or l.words.items (b + 1 + l.size) 0 ≡ 4 * b) × (l.cells ≡ l.size)
