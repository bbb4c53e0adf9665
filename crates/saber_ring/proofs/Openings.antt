-- A ring in which nothing was filled keeps the rule.
use Rattle.std.proofs.Common.{◌≡◌, ℕ, Bool, false, zero, suc, ◌+◌, ◌*◌, ◌%◌, ◌<◌, ◌≤◌, List, [], ◌∷◌, map, length, sym, refl, ap, ◌∙◌, subst, mod-lt, arith}
use Rattle.std.proofs.Math.Nat.{mod-eq_of_lt}
use mathlib.Core.Option.{some, some-injective, some-ne-none}
use lib.ListN.{get_elem?}
use Rattle.std.specs.Prelude.{Option, Some, slice_index, replicate, None}
use Rattle.atomic_table.specs.Table.{opening}
use Rattle.saber_ring.specs.declared.view.SlotValue.{SlotValue}
use Rattle.saber_ring.specs.declared.view.SlotValue.TheVariants.{Empty}
use Rattle.saber_ring.specs.declared.view.Entry.{Entry}
use Rattle.saber_ring.specs.declared.view.Entry.TheVariants.{Claim, Deposit, Take, Give}
use Rattle.saber_ring.specs.declared.view.FillState.TheVariants.{Waiting}
use Rattle.saber_ring.specs.declared.view.View.{View}
use Rattle.saber_ring.proofs.PhaseFacts.{blank_read, false_true, idle_taken}
use Rattle.saber_ring.specs.Shows.{idle, blank, free, RingState, Knows, Shows, due, times, total, start, first_view}
use Rattle.saber_ring.specs.Opening.{Begins, IsOpen, first_values}

empties : {A : Type 0} (x : A) (n i : ℕ) → i < n → get_elem? (map some (replicate n x)) i ≡ some (some x)
empties x zero i l = absurd (omega arith)
empties x (suc n) zero l = refl
empties x (suc n) (suc i) l = empties x n i (omega arith)

empties_long : {A : Type 0} (x : A) (n : ℕ) → length (map some (replicate n x)) ≡ n
empties_long x zero = refl
empties_long x (suc n) = let p = empties_long x n in omega arith

module _ {T R P S : Type 0} (is_told : T → ℕ → Type 0) (upto : T → ℕ → T) (needs : T → ℕ → ℕ) (is_rows : T → ℕ → R → Type 0) (is_piece : T → ℕ → P → Type 0) (is_stage : T → ℕ → Bool → S → Type 0) (whole : (told : T) (d : ℕ) → is_told told d → upto told d ≡ told) where
  pub opens : (size : ℕ) (told : T) (words : List ℕ) (values : List (SlotValue R P S)) (stage : S) → 0 < size → size ≤ 1024 → is_told told 0 → is_stage told 0 false stage → IsOpen size words → values ≡ first_values size stage
      → Shows is_told upto needs is_rows is_piece is_stage size (opening words values (start told))
  opens size told words values stage some_cell few first runs words_are is =
      let b : RingState T = record { assembled = 0; given = 0; filled = 0; turn = free false; lead = 0; out = 0; told = told; fill = Waiting; phase = λ _. idle; block = λ _. blank } in
      let same : upto told 0 ≡ told = whole told 0 first in
      subst (λ (xs : List (SlotValue R P S)). Shows is_told upto needs is_rows is_piece is_stage size (opening words xs (start told))) (sym is) (
        b,
        record {
          shape = record {
            some_cell = some_cell;
            few_cells = few;
            words_wide = words_are.0;
            homes_wide = (let e : SlotValue R P S = Empty in let p = empties_long e (2 * size) in omega arith);
            assembled_given = omega arith;
            given_filled = omega arith;
            filled_room = omega arith;
            filled_end = omega arith;
            told = first;
            led = omega arith;
            alive = refl;
            each_task = λ u. (omega arith);
            each_word = λ t lo hi. let e : t % size ≡ t = mod-eq_of_lt (omega arith) in ap (λ (k : ℕ). slice_index words (k + 1)) e ∙ words_are.2 t (omega arith) ∙ (omega arith);
            turn_is = words_are.1;
            turn_fits = (refl, λ e. absurd cc);
            each_seat = seats b same;
          };
          home = record {
            taken_cell = λ m e. absurd (idle_taken m e);
            each_cell = λ t lo hi. let l = mod-lt t some_cell in home_of stage (t % size) (omega arith);
            stage = (stage, refl, subst (λ (z : T). is_stage z 0 false stage) (sym same) runs);
          };
          blocks = record {
            room = omega arith;
            each_block = λ u. (omega arith);
            in_hand = tt;
            each_block_word = λ u lo hi. let e : u % size ≡ u = mod-eq_of_lt (omega arith) in ap (λ (k : ℕ). slice_index words (k + 1 + size)) e ∙ words_are.3 u (omega arith) ∙ (omega arith);
            each_block_home = λ u lo hi. let l = mod-lt u some_cell in let e : u % size + 1 + size ≡ u % size + size + 1 = omega arith in ap (get_elem? (map some (first_values {R = R} {P = P} size stage))) e ∙ home_of stage (u % size + size) (omega arith);
          };
          count = none_counted;
        },
      )
    where
      home_of : (stage : S) (i : ℕ) → i < 2 * size → get_elem? (map some (first_values {R = R} {P = P} size stage)) (i + 1) ≡ some (some Empty)
      home_of stage i l = let e : i + 1 ≡ suc i = omega arith in ap (get_elem? (map some (first_values size stage))) e ∙ empties Empty (2 * size) i l

      seats : (b : RingState T) → upto told 0 ≡ told → (j : ℕ) (v : View T) → get_elem? (start told ∷ []) j ≡ some v → Knows upto (record { assembled = 0; given = 0; filled = 0; turn = free false; lead = 0; out = 0; told = told; fill = Waiting; phase = λ _. idle; block = λ _. blank }) j v
      seats b same zero v e = subst (Knows upto (record { assembled = 0; given = 0; filled = 0; turn = free false; lead = 0; out = 0; told = told; fill = Waiting; phase = λ _. idle; block = λ _. blank }) 0) (some-injective (start told) v e) record {
        job = λ u e. cc;
        turn = λ p e. cc;
        block = λ u e. blank_read 0 e;
        lead = (refl, refl, refl, refl, refl);
        seen = (omega arith, λ e. absurd (false_true e));
        found = tt;
        base = sym same;
      }
      seats b same (suc j) v e = absurd (some-ne-none v (sym e))

      none_counted : (e : Entry) → total (λ (v : View T). times e v.own) (start told ∷ []) ≡ due (record { assembled = 0; given = 0; filled = 0; turn = free false; lead = 0; out = 0; told = told; fill = Waiting; phase = λ _. idle; block = λ _. blank }) e
      none_counted (Claim t) = refl
      none_counted (Deposit t m) = refl
      none_counted (Take t) = refl
      none_counted (Give t) = refl

  -- the same, with the token that names the data
  pub opens_named : (size : ℕ) (named token : Option T) (words : List ℕ) (values : List (SlotValue R P S)) (stage : S) → token ≡ named → 0 < size → size ≤ 1024 → Begins is_told is_stage stage named → IsOpen size words → values ≡ first_values size stage
      → Shows is_told upto needs is_rows is_piece is_stage size (opening words values (first_view token))
  opens_named size None token words values stage says some_cell few begins words_are is = absurd begins
  opens_named size (Some told) token words values stage says some_cell few begins words_are is =
      subst (λ (o : Option T). Shows is_told upto needs is_rows is_piece is_stage size (opening words values (first_view o))) (sym says) (opens size told words values stage some_cell few begins.0 begins.1 words_are is)
