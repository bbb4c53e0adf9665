-- Splitting and joining seats keep the rule.
use Rattle.std.proofs.Common.{◌≡◌, ◌≢◌, ℕ, Bool, true, false, ◌+◌, ◌-◌, ◌<◌, ◌≤◌, ⊎_elim, List, [], ◌∷◌, ◌++◌, length, set, sym, refl, ap, ◌∙◌, subst, le_refl, arith, length-set, length-append}
use mathlib.Core.Option.{some}
use lib.ListN.{get_elem?}
use Rattle.std.specs.Prelude.{Option, Some, None}
use Rattle.atomic_table.specs.Table.{State, Splits, Joins}
use Rattle.atomic_table.proofs.Lists.{at_set, set_here, set_else}
use Rattle.saber_ring.specs.declared.view.SlotValue.{SlotValue}
use Rattle.saber_ring.specs.declared.view.TurnState.{TurnState}
use Rattle.saber_ring.specs.declared.view.TurnState.TheVariants.{Open, TookPiece, TookMark, WonStopped, Leaving}
use Rattle.saber_ring.specs.declared.view.View.{View}
use Rattle.saber_ring.specs.declared.view.Lead.{Lead}
use Rattle.saber_ring.proofs.PhaseFacts.{false_true, or_says}
use Rattle.saber_ring.specs.Shows.{taken, RingTurn, free, won_by, is_halted, RingState, Fits, TurnFits, HasJob, HasTurn, HasLead, IsLive, live, total, Knows, Counts, ShowsAs, Shows, times, same}
use Rattle.saber_ring.proofs.Puts.{at_length, at_end, total_at, total_set, total_append}
use Rattle.saber_ring.proofs.BlockFrames.{blocks_stay, no_reader}
use Rattle.saber_ring.proofs.Moves.{held_below, state_room}
use Rattle.saber_ring.specs.Seats.{more_out, less_out, parting, newcomer, joined}
use Rattle.std.proofs.Math.Nat.{max-le}
use Rattle.saber_ring.proofs.Frames.{empty_stays, fits_stay, knows_stay, stage_stays, live_base}
use Rattle.saber_ring.proofs.Counts.{one, due_kept}

module _ {T R P S : Type 0} (is_told : T → ℕ → Type 0) (upto : T → ℕ → T) (needs : T → ℕ → ℕ) (is_rows : T → ℕ → R → Type 0) (is_piece : T → ℕ → P → Type 0) (is_stage : T → ℕ → Bool → S → Type 0) (size : ℕ) where
  abbrev St : Type 0
  St = State (SlotValue R P S) (View T)

  abbrev Rule : St → Type 0
  Rule = Shows is_told upto needs is_rows is_piece is_stage size

  abbrev As : St → RingState T → Type 0
  As s b = ShowsAs is_told upto needs is_rows is_piece is_stage size s b

  abbrev alive_of : View T → ℕ
  alive_of v = live v.base

  rests_more : (b b' : RingState T) (n n' : ℕ) → n ≤ n' → b'.assembled ≡ b.assembled → b'.given ≡ b.given → b'.phase ≡ b.phase → (x : RingTurn) → TurnFits b n x → TurnFits b' n' x
  rests_more b b' n n' le k g sp x r = go x r
    where
      phase : (m : Bool) → b.phase b.given ≡ taken m → b'.phase b'.given ≡ taken m
      phase m e = (λ i. sp i (g i)) ∙ e

      go : (x : RingTurn) → TurnFits b n x → TurnFits b' n' x
      go (free y) r = (k ∙ r.0 ∙ sym g, λ e. let t = r.1 e in (t.0, phase t.0 t.1))
      go (won_by j Open) r = omega (arith, r)
      go (won_by j TookPiece) r = (let l = r.0 in omega arith, phase false r.1)
      go (won_by j TookMark) r = (let l = r.0 in omega arith, phase true r.1)
      go (won_by j WonStopped) r = (let l = r.0 in omega arith, (r.1.0, phase r.1.0 r.1.1))
      go (won_by j Leaving) r = (let l = r.0 in omega arith, phase false r.1)

  holder_below : (b : RingState T) (n j : ℕ) (p : TurnState) → TurnFits b n (won_by j p) → j < n
  holder_below b n j Open r = r
  holder_below b n j TookPiece r = r.0
  holder_below b n j TookMark r = r.0
  holder_below b n j WonStopped r = r.0
  holder_below b n j Leaving r = r.0

  -- the views alone change
  reviewed : (s : St) (b : RingState T) (views' : List (View T)) (out' : ℕ) → As s b → length s.views ≤ length views' → total alive_of views' ≡ out' + 1 → ((j : ℕ) (v : View T) → get_elem? views' j ≡ some v → Knows upto (record b { out = out' }) j v) → Counts (record b { out = out' }) views'
      → Rule record { words = s.words; homes = s.homes; views = views' }
  reviewed s b views' out' sh more alive seats count = let k = sh.shape in let b' : RingState T = record b { out = out' } in (
    b',
    record {
      shape = record {
        some_cell = k.some_cell;
        few_cells = k.few_cells;
        words_wide = k.words_wide;
        homes_wide = k.homes_wide;
        assembled_given = k.assembled_given;
        given_filled = k.given_filled;
        filled_room = k.filled_room;
        filled_end = k.filled_end;
        told = k.told;
        led = (let l = k.led in omega arith);
        alive = alive;
        each_task = λ u. fits_stay size b b' (length s.views) (length views') u (b.phase u) more (λ a _. a) (λ a. a) (λ a. a) (λ a. a)
            (λ m e. subst (Fits size b (length s.views) u) e (k.each_task u)) (k.each_task u);
        each_word = k.each_word;
        turn_is = k.turn_is;
        turn_fits = rests_more b b' (length s.views) (length views') more refl refl refl b.turn k.turn_fits;
        each_seat = seats;
      };
      home = record { taken_cell = λ m e. empty_stays is_told upto needs is_rows is_piece is_stage size s (record { words = s.words; homes = s.homes; views = views' }) b b' refl refl b.turn (sh.home.taken_cell m e); each_cell = sh.home.each_cell; stage = stage_stays is_told upto needs is_rows is_piece is_stage size s (record { words = s.words; homes = s.homes; views = views' }) b b' refl refl refl refl b.turn sh.home.stage };
      blocks = blocks_stay is_told upto needs is_rows is_piece is_stage size s (record { words = s.words; homes = s.homes; views = views' }) b b.assembled b.given out' b.turn b.phase sh.blocks sh.blocks.room (λ _ _ _ _ e. e) (λ _ _. refl) (λ _ _. refl);
      count = count;
    },
  )

  -- nothing but the number of seats changes for another seat
  knows_out : (s : St) (b : RingState T) (out' j : ℕ) (v : View T) → As s b → j ≢ b.lead → Knows upto b j v → Knows upto (record b { out = out' }) j v
  knows_out s b out' j v sh ne k = let b' : RingState T = record b { out = out' } in
      knows_stay upto b b' j v (λ _. ((λ e. e), λ e. e)) (λ _ _. refl) (λ u. ((λ e. e), λ e. (e, held_below is_told upto needs is_rows is_piece is_stage size b s sh u j e)))
      (λ p. ((λ e. e), λ e. (e, refl, state_room is_told upto needs is_rows is_piece is_stage size b s sh b.turn refl j p e, λ m was. was))) refl (λ e. absurd (ne e)) (le_refl b.assembled) (λ e. e) k

  pub splits : (id : ℕ) (v : View T) (l : Lead T) → v.lead ≡ Some l → IsLive v → Splits Rule id v (parting v) (newcomer v.base)
  splits id v l is_lead alive s r at =
      let b = r.0 in let sh = r.1 in let k = sh.shape in let mine = k.each_seat id v at in let lead = subst (HasLead upto b id) is_lead mine.lead in let n : ℕ = length s.views in
      let b' : RingState T = record b { out = b.out + 1 } in let w : View T = parting v in let new : View T = newcomer v.base in let set_views : List (View T) = set s.views id w in
      let long : length set_views ≡ n = length-set s.views id w in
      reviewed s b (set_views ++ new ∷ []) (b.out + 1) sh (let p = length-append set_views (new ∷ []) in omega arith)
      (let p = total_append alive_of set_views (new ∷ []) in let q = total_set alive_of s.views id v w at in let a = k.alive in omega arith)
      (λ j u e. ⊎_elim (λ (x : get_elem? set_views j ≡ some u).
      ⊎_elim (λ (y : (j ≡ id) × (w ≡ u)). subst (λ (z : ℕ × View T). Knows upto b' z.0 z.1) (λ i. (sym y.0 i, y.1 i)) record {
        job = mine.job;
        turn = mine.turn;
        block = mine.block;
        lead = subst (λ (o : Option (Lead T)). HasLead upto b' id (more_out o)) (sym is_lead) (lead.0, lead.1, lead.2, ap (λ (z : ℕ). z + 1) lead.3, lead.4);
        seen = mine.seen;
        found = mine.found;
        base = live_base upto b b' id v w (λ _ _. refl) alive refl mine.base;
      })
      (λ (y : (j ≢ id) × (get_elem? s.views j ≡ some u)). knows_out s b (b.out + 1) j u sh (λ same. y.0 (same ∙ sym lead.0)) (k.each_seat j u y.1)) (at_set s.views id j w u x))
      (λ (x : (j ≡ length set_views) × (new ≡ u)). subst (λ (z : ℕ × View T). Knows upto b' z.0 z.1) (λ i. (sym (x.0 ∙ long) i, x.1 i)) record {
        job = λ t held_n. (let f = subst (Fits size b n t) held_n (k.each_task t) in let z = f.2 in omega arith);
        turn = λ p e. (let z = holder_below b n n p (subst (TurnFits b n) e k.turn_fits) in omega arith);
        block = no_reader is_told upto needs is_rows is_piece is_stage size s b sh.blocks n (λ t held_n. (let f = subst (Fits size b n t) held_n (k.each_task t) in let z = f.2 in omega arith));
        lead = (λ e. (let z = k.led in omega arith));
        seen = (omega arith, λ e. absurd (false_true e));
        found = tt;
        base = live_base upto b b' id v new (λ _ _. refl) alive refl mine.base;
      }) (at_end set_views new u j e))
      (λ e. let p = total_append (λ (u : View T). times e u.own) set_views (new ∷ []) in let q = total_set (λ (u : View T). times e u.own) s.views id v w at in let c = sh.count e in let d = due_kept b b' refl e in omega arith)

  pub joins : (id other : ℕ) (v w : View T) (l : Lead T) → v.lead ≡ Some l → IsLive v → IsLive w → w.job ≡ None → w.turn ≡ None → Joins Rule id v other w (joined v w) (newcomer None)
  joins id other v w l is_lead alive alive_too no_job no_turn s r at apart at_other =
      let b = r.0 in let sh = r.1 in let k = sh.shape in let mine = k.each_seat id v at in let lead = subst (HasLead upto b id) is_lead mine.lead in let n : ℕ = length s.views in
      let out' : ℕ = b.out - 1 in let b' : RingState T = record b { out = out' } in let both : View T = joined v w in let views₁ : List (View T) = set s.views id both in let spent : View T = newcomer None in let views₂ : List (View T) = set views₁ other spent in
      let long : length views₂ ≡ n = length-set views₁ other spent ∙ length-set s.views id both in
      let was : get_elem? s.views other ≡ some w = sym (set_else s.views id other both apart) ∙ at_other in
      let theirs = k.each_seat other w was in let no_job' : HasJob upto b other None = subst (HasJob upto b other) no_job theirs.job in let no_turn' : HasTurn upto b other None = subst (HasTurn upto b other) no_turn theirs.turn in
      let here : get_elem? views₂ id ≡ some both = set_else views₁ other id spent (λ e. apart (sym e)) ∙ set_here s.views id both (at_length s.views id v at) in
      let one_live = total_at alive_of views₂ id both here in
      let a₁ = total_set alive_of s.views id v both at in let a₂ = total_set alive_of views₁ other w spent at_other in let a₀ = k.alive in
      reviewed s b views₂ out' sh (omega arith) (omega arith)
      (λ j u e. ⊎_elim (λ (x : (j ≡ other) × (spent ≡ u)). subst (λ (z : ℕ × View T). Knows upto b' z.0 z.1) (λ i. (sym x.0 i, x.1 i)) record {
        job = no_job';
        turn = no_turn';
        block = no_reader is_told upto needs is_rows is_piece is_stage size s b sh.blocks other no_job';
        lead = (λ same. apart (same ∙ sym lead.0));
        seen = (omega arith, λ e. absurd (false_true e));
        found = tt;
        base = (refl, refl, refl);
      })
      (λ (x : (j ≢ other) × (get_elem? views₁ j ≡ some u)). ⊎_elim (λ (y : (j ≡ id) × (both ≡ u)). subst (λ (z : ℕ × View T). Knows upto b' z.0 z.1) (λ i. (sym y.0 i, y.1 i)) record {
        job = mine.job;
        turn = mine.turn;
        block = mine.block;
        lead = subst (λ (o : Option (Lead T)). HasLead upto b' id (less_out o)) (sym is_lead) (lead.0, lead.1, lead.2, ap (λ (z : ℕ). z - 1) lead.3, lead.4);
        seen = (max-le mine.seen.0 theirs.seen.0, or_says v.stopped w.stopped (is_halted b.turn) mine.seen.1 theirs.seen.1);
        found = mine.found;
        base = live_base upto b b' id v both (λ _ _. refl) alive refl mine.base;
      })
      (λ (y : (j ≢ id) × (get_elem? s.views j ≡ some u)). knows_out s b out' j u sh (λ same. y.0 (same ∙ sym lead.0)) (k.each_seat j u y.1)) (at_set s.views id j both u x.1)) (at_set views₁ other j spent u e))
      (λ e. let p = total_set (λ (u : View T). times e u.own) s.views id v both at in let q = total_set (λ (u : View T). times e u.own) views₁ other w spent at_other in let t = total_append (λ (y : _). one (same e y)) v.own w.own in
      let c = sh.count e in let d = due_kept b b' refl e in omega arith)
