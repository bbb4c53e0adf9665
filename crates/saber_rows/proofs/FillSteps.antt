-- What a read makes of a turn.
use Rattle.std.proofs.Common.{◌≡◌, ◌≤◌, ◌<◌, ℕ, ◌+◌, ◌-◌, ◌*◌, List, length, Bool, true, false, if◌then◌else◌, Option, is_some, refl, sym, subst, ap, arith, length-append}
use Rattle.saber_io.specs.Outside.{EndsEmpty}
use Rattle.saber_rows.specs.Buffer.{Gains}
use Rattle.saber_rows.specs.declared.ends.RowEnd.TheVariants.{ReadFault}
use Rattle.saber_rows.specs.declared.ends.Stop.TheVariants.{Failed}
use Rattle.saber_rows.specs.declared.lines.Turn.TheVariants as turns
use Rattle.saber_rows.specs.Reader.{Reader}
use Rattle.saber_rows.specs.Turns.{Turned, IsDrained, work_left}
use Rattle.saber_rows.proofs.ReadSteps.{with_held, came, saw_end}
use Rattle.saber_rows.proofs.Chains.{drained_needs}
use Rattle.saber_rows.proofs.FedReads.{none_gained}

-- less room is less to do
less_room : (lines old new ended over : ℕ) → new < old → lines + new + ended + over < lines + old + ended + over
less_room lines old new ended over less = omega (arith, less)

-- and so is the end, once it is seen
less_end : (lines room over : ℕ) (ended : Bool) → ended ≡ false → lines + room + 0 + over < lines + room + (if ended then 0 else 1) + over
less_end lines room over true e = cc
less_end lines room over false e = omega arith

-- bytes came
pub came_turned : (r : Reader) (held : List ℕ) (had has : Option (List ℕ)) (n : ℕ) → IsDrained r → 1 ≤ n → Gains n r.held held had has → Turned turns.Again r (with_held r held r.ended) had has
came_turned r held had has n d some g = record {
  gives = came r held had has n d.unended g;
  falls = less_room ((r.rules.most - r.place.lines) * 16384) (8193 - length r.held) (8193 - length held) (if r.ended then 0 else 1) (if is_some r.over then 0 else 1) less;
  place = (refl, omega arith);
  rules = refl;
} where
  longer : length held ≡ length r.held + n
  longer = omega (arith, ap length g.behind, length-append r.held g.taken, g.count)

  few : length r.held ≤ 4097
  few = d.few

  less : 8193 - length held < 8193 - length r.held
  less = omega (arith, longer, few, some)

-- none did, so the source is at its end
pub end_turned : (r : Reader) (held : List ℕ) (had has : Option (List ℕ)) (n : ℕ) → IsDrained r → n ≡ 0 → Gains n r.held held had has → EndsEmpty had → Turned turns.Again r (with_held r held true) had has
end_turned r held had has n d zero g empty = record {
  gives = saw_end r held had has n zero d.unended g empty;
  falls = subst (λ xs. work_left (with_held r xs true) < work_left r) (sym kept) falls;
  place = (refl, omega arith);
  rules = refl;
} where
  kept : held ≡ r.held
  kept = none_gained r.held held had has (subst (λ k. Gains k r.held held had has) zero g)

  falls : work_left (with_held r r.held true) < work_left r
  falls = less_end ((r.rules.most - r.place.lines) * 16384) (8193 - length r.held) (if is_some r.over then 0 else 1) r.ended d.unended

-- the read failed
pub fault_turned : (r : Reader) (held : List ℕ) (had has : Option (List ℕ)) → IsDrained r → held ≡ r.held → has ≡ had → Turned (turns.Stop (Failed ReadFault)) r (with_held r held r.ended) had has
fault_turned r held had has d kept still = record {
  gives = (ap (λ xs. with_held r xs r.ended) kept, still, drained_needs r d);
  falls = tt;
  place = tt;
  rules = refl;
}
