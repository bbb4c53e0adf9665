-- Each kind of step keeps the rule.
use Rattle.std.proofs.Common.{◌^◌, ◌≡◌, ◌≢◌, ℕ, Bool, true, false, eqb, zero, suc, ◌-◌, ◌+◌, ◌*◌, ◌%◌, ◌<◌, ◌≤◌, List, [], ◌∷◌, length, get_or, set, sym, refl, ap, ◌∙◌, subst, mod-lt, le_refl, arith, length-set, get_or-set_other}
use lib.Seq.{set-get_or}
use Rattle.std.proofs.Math.Path.{transport}
use Rattle.std.proofs.Math.Nat.{mod-eq_of_lt}
use mathlib.Core.Logic.{dite}
use mathlib.Core.Option.{none, some}
use mathlib.Core.Option as maybe
use native.Mathlib.Decide.{ℕ_discrete, dec_le}
use lib.ListN.{get_elem?}
use prog.Atomic.{either}
use Rattle.std.specs.Prelude.{Option, Some, None, slice_index}
use Rattle.atomic_table.specs.Table.{State, Me, Act, keeps, takes, gives, step, rest, put_back, stepped, carried_after, Valid, Allows}
use Rattle.atomic_table.proofs.Lists.{one_turn, exchanged, set_here, set_else}
use Rattle.saber_ring.specs.declared.view.SlotValue.{SlotValue}
use Rattle.saber_ring.specs.declared.view.SlotValue.TheVariants.{Empty}
use Rattle.saber_ring.specs.declared.view.TurnState.{TurnState}
use Rattle.saber_ring.specs.declared.view.TurnState.TheVariants.{Open, TookPiece, TookMark, WonStopped, Leaving}
use Rattle.saber_ring.specs.declared.view.Entry.TheVariants.{Claim, Deposit}
use Rattle.saber_ring.specs.declared.view.View.{View}
use Rattle.saber_ring.specs.declared.view.Lead.{Lead}
use Rattle.saber_ring.specs.declared.view.HeldTask.{HeldTask}
use Rattle.saber_ring.specs.declared.view.HeldTurn.{HeldTurn}
use Rattle.saber_ring.specs.Shows.{RingPhase, idle, ready, held, done, taken, past, number_of, RingTurn, free, won_by, turn_word, RingState, Fits, TurnFits, knows_next, begun_of, RingBlock, blank, coming, kept, read_by, told_with, first_of_task, BlockFits, FillFits, BlockHome, oldest, HasJob, HasBlock, HasTurn, HasLead, HasBase, IsLive, live, Sees, HasFound, Knows, AtHome, Counts, ShowsAs, Shows, times, claims_of, deposits_of, takes_of, gives_of}
use Rattle.saber_ring.specs.Plays.{looked, led, more_filled, missing, with_job, without_job, claims, fills, sees_cell, deposits}
use Rattle.saber_ring.proofs.Alone.{shows_ready, own_all}
use Rattle.saber_ring.proofs.Puts.{put, at_put, put_here, put_else, at_length}
use Rattle.saber_ring.proofs.PhaseFacts.{same_done, not_done, odd_done, number_done, done_small, ready_done, idle_done, held_done, window_has, number_small, number_2, found, ready_taken, ready_held, held_same, idle_taken, idle_held, some_same, held_taken, done_held, done_taken}
use Rattle.saber_ring.proofs.BlockFrames.{BlocksOf, FitsAt, blocks_low, cell_low}
use Rattle.saber_ring.specs.declared.view.FillState.{FillState}
use Rattle.saber_ring.specs.declared.view.FillState.TheVariants.{Waiting, Begun, Stored}
use Rattle.saber_ring.proofs.Frames.{two_cells, TakenCell, empty_stays, fits_stay, knows_stay, cell_step, home_step, stage_stays, stage_told, ordered, seats_stay, alive_set, live_base, job_stays, turn_stays, TurnOn}
use Rattle.saber_ring.proofs.Counts.{counts_same, counts_more, due_same, due_claim, due_deposit}

module _ {T R P S : Type 0} (is_told : T → ℕ → Type 0) (upto : T → ℕ → T) (needs : T → ℕ → ℕ) (is_rows : T → ℕ → R → Type 0) (is_piece : T → ℕ → P → Type 0) (is_stage : T → ℕ → Bool → S → Type 0) (size : ℕ) where
  abbrev pub St : Type 0
  St = State (SlotValue R P S) (View T)

  abbrev pub M : Type 0
  M = Me (SlotValue R P S) (View T)

  abbrev pub Rule : St → Type 0
  Rule = Shows is_told upto needs is_rows is_piece is_stage size

  abbrev pub As : St → RingState T → Type 0
  As s b = ShowsAs is_told upto needs is_rows is_piece is_stage size s b

  -- a task needs no block of a later one
  abbrev pub Early : Type 0
  Early = (told : T) (d t : ℕ) → is_told told d → t ≤ d → needs (upto told t) t ≤ t

  abbrev pub Goes : St → ℕ → ℕ → M → (ℕ → M → Type 0) → ℕ → Type 0
  Goes s k id me then x = (w : View T) × (a : Act (SlotValue R P S)) × Valid s.homes me.1 a × Rule (stepped s k x id me.1 w a) × then (get_or s.words k 0) (w, carried_after me.1 a)

  -- the task of the window whose cell this word is
  pub at_cell : (s : St) (b : RingState T) (sh : As s b) (i t p : ℕ) → i ≡ t % size + 1 → p ≤ 7 → slice_index s.words i ≡ 8 * t + p → (b.given ≤ t) × (t < b.given + size) × (number_of (b.phase t) ≡ p)
  at_cell s b sh i t p at small is =
      let w = window_has t size b.given sh.shape.some_cell in let u : ℕ = w.0 in let f : ℕ = number_of (b.phase u) in
      let word : slice_index s.words i ≡ 8 * u + f = ap (slice_index s.words) (at ∙ ap (λ (k : ℕ). k + 1) (sym w.3)) ∙ sh.shape.each_word u w.1 w.2 in
      let fd = found u t f p (number_small (b.phase u)) small (sym word ∙ is) in
      (subst (λ (k : ℕ). b.given ≤ k) fd.0 w.1, subst (λ (k : ℕ). k < b.given + size) fd.0 w.2, ap (λ (k : ℕ). number_of (b.phase k)) (sym fd.0) ∙ fd.1)

  -- a word that shows no done task
  pub no_find : (b : RingState T) (j : ℕ) (x : Option (HeldTurn T)) (n t p : ℕ) → n ≡ 8 * t + p → p < 4 → HasFound upto b j x n
  no_find b j None n t p is small = tt
  no_find b j (Some h) n t p is small = λ opened m e. absurd (not_done n t h.behind p m is small e)

  beyond_words : (ws : List ℕ) (i : ℕ) → length ws ≤ i → get_or ws i 0 ≡ 0
  beyond_words [] i le = refl
  beyond_words (w ∷ ws) zero le = absurd (omega arith)
  beyond_words (w ∷ ws) (suc i) le = beyond_words ws i (omega arith)

  -- what a holder finds in a word, it finds in the ring
  pub word_found : (s : St) (b : RingState T) → As s b → (i id : ℕ) (v : View T) → i ≤ size → get_elem? s.views id ≡ some v → HasFound upto b id v.turn (get_or s.words i 0)
  word_found s b sh i id v low at = go v.turn (sh.shape.each_seat id v at).turn
    where
      n : ℕ
      n = get_or s.words i 0

      shows_odd : (k j : ℕ) (g : TurnState) → g ≡ Open → turn_word k (won_by j g) ≡ 2 * k + 1
      shows_odd k j g is = ap (λ (z : TurnState). turn_word k (won_by j z)) is

      cell_found : (h : HeldTurn T) (m : Bool) → 0 < i → i < length s.words → n ≡ 8 * h.behind + number_of (done m) → b.phase h.behind ≡ done m
      cell_found h m pos in_words e =
          let k = sh.shape in let wide = k.words_wide in let few : i - 1 < size = omega arith in let same : (i - 1) % size ≡ i - 1 = mod-eq_of_lt few in
          let w = window_has (i - 1) size b.given k.some_cell in let u : ℕ = w.0 in let f : ℕ = number_of (b.phase u) in let at_u = w.3 in let cell : i ≡ u % size + 1 = omega arith in
          let word : n ≡ 8 * u + f = ap (λ (z : ℕ). get_or s.words z 0) cell ∙ k.each_word u w.1 w.2 in
          let q = found u h.behind f (number_of (done m)) (number_small (b.phase u)) (done_small m) (sym word ∙ e) in ap b.phase (sym q.0) ∙ number_done (b.phase u) m q.1

      go : (x : Option (HeldTurn T)) → HasTurn upto b id x → HasFound upto b id x n
      go None has = tt
      go (Some h) has = λ opened m e. dite (ℕ_discrete i 0)
          (λ zero_th. absurd (odd_done n b.assembled h.behind m (ap (λ (z : ℕ). get_or s.words z 0) zero_th ∙ sh.shape.turn_is ∙ ap (turn_word b.assembled) has.0 ∙ shows_odd b.assembled id h.state opened) e))
          (λ ne. dite (dec_le (length s.words) i) (λ far. absurd (not_done n 0 h.behind 0 m (beyond_words s.words i far) (omega arith) e)) (λ near. cell_found h m (omega arith) (omega arith) e))

  -- a seat that only looks knows as much
  pub knows_looked : (b : RingState T) (j : ℕ) (v w : View T) → w.job ≡ v.job → w.block ≡ v.block → w.turn ≡ v.turn → w.lead ≡ v.lead → w.base ≡ v.base → w.own ≡ v.own → Sees b w.seen w.stopped → HasFound upto b j w.turn w.saw.word → Knows upto b j v → Knows upto b j w
  knows_looked b j v w job block turn lead base own seen finds k = record {
    job = subst (HasJob upto b j) (sym job) k.job;
    turn = subst (HasTurn upto b j) (sym turn) k.turn;
    block = subst (HasBlock upto b j) (sym block) k.block;
    lead = subst (HasLead upto b j) (sym lead) k.lead;
    seen = seen;
    found = finds;
    base = transport (λ i. HasBase upto b j (sym base i) (sym job i) (sym turn i) (sym own i)) k.base;
  }

  -- a step that changes no word and no slot leaves the state of the ring
  pub looked_by : (s : St) (b : RingState T) (id : ℕ) (v w : View T) → As s b → get_elem? s.views id ≡ some v → w.job ≡ v.job → w.block ≡ v.block → w.turn ≡ v.turn → w.lead ≡ v.lead → w.base ≡ v.base → w.own ≡ v.own → HasFound upto b id w.turn w.saw.word → Sees b w.seen w.stopped
      → As record { words = s.words; homes = s.homes; views = set s.views id w } b
  looked_by s b id v w sh at job block turn lead base own finds seen =
      let long : length (set s.views id w) ≡ length s.views = length-set s.views id w in let k = sh.shape in
      record {
        shape = record {
          some_cell = k.some_cell;
          few_cells = k.few_cells;
          words_wide = k.words_wide;
          homes_wide = k.homes_wide;
          assembled_given = k.assembled_given;
          given_filled = k.given_filled;
          filled_room = k.filled_room;
          filled_end = k.filled_end;
          told = k.told;
          led = subst (λ (n : ℕ). b.lead < n) (sym long) k.led;
          alive = alive_set is_told upto needs is_rows is_piece is_stage size s.views id v w at base ∙ k.alive;
          each_task = λ u. subst (λ (n : ℕ). Fits size b n u (b.phase u)) (sym long) (k.each_task u);
          each_word = k.each_word;
          turn_is = k.turn_is;
          turn_fits = subst (λ (n : ℕ). TurnFits b n b.turn) (sym long) k.turn_fits;
          each_seat = seats_stay is_told upto needs is_rows is_piece is_stage size b b s.views id w (knows_looked b id v w job block turn lead base own seen finds (k.each_seat id v at)) (λ j u _ h. h) k.each_seat;
        };
        home = record { taken_cell = sh.home.taken_cell; each_cell = sh.home.each_cell; stage = sh.home.stage };
        blocks = record { room = sh.blocks.room; each_block = sh.blocks.each_block; in_hand = sh.blocks.in_hand; each_block_word = sh.blocks.each_block_word; each_block_home = sh.blocks.each_block_home };
        count = counts_same b b s.views id v w at own (λ e. refl) sh.count;
      }

  -- a look at the word of a cell or of the turn
  pub looked_as : (s : St) (b : RingState T) (i id : ℕ) (v w : View T) → As s b → i ≤ size → get_elem? s.views id ≡ some v → w.job ≡ v.job → w.block ≡ v.block → w.turn ≡ v.turn → w.lead ≡ v.lead → w.base ≡ v.base → w.own ≡ v.own → w.saw.word ≡ get_or s.words i 0 → Sees b w.seen w.stopped
      → As record { words = s.words; homes = s.homes; views = set s.views id w } b
  looked_as s b i id v w sh low at job block turn lead base own word seen =
      looked_by s b id v w sh at job block turn lead base own (subst (λ (z : Option (HeldTurn T) × ℕ). HasFound upto b id z.0 z.1) (λ q. (sym turn q, sym word q)) (word_found s b sh i id v low at)) seen

  pub looks : (s : St) (b : RingState T) (i id : ℕ) (cs : List (ℕ × SlotValue R P S)) (v w : View T) → As s b → i ≤ size → get_elem? s.views id ≡ some v → w.job ≡ v.job → w.block ≡ v.block → w.turn ≡ v.turn → w.lead ≡ v.lead → w.base ≡ v.base → w.own ≡ v.own → w.saw.word ≡ get_or s.words i 0 → Sees b w.seen w.stopped
      → Rule (stepped s i (get_or s.words i 0) id cs w keeps)
  looks s b i id cs v w sh low at job block turn lead base own word seen =
      subst (λ (ws : List ℕ). Rule record { words = ws; homes = s.homes; views = set s.views id w }) (sym (set-get_or s.words i 0)) (b, looked_as s b i id v w sh low at job block turn lead base own word seen)

  pub rests_put : (b : RingState T) (n t : ℕ) (ph : RingPhase) → ((m : Bool) → b.phase t ≢ taken m) → (x : RingTurn) → TurnFits b n x → TurnFits (record b { phase = put b.phase t ph }) n x
  rests_put b n t ph not x r = go x r
    where
      stays : (m : Bool) → b.phase b.given ≡ taken m → put b.phase t ph b.given ≡ taken m
      stays m e = put_else b.phase t ph b.given (λ same. not m (ap b.phase (sym same) ∙ e)) ∙ e

      go : (x : RingTurn) → TurnFits b n x → TurnFits (record b { phase = put b.phase t ph }) n x
      go (free y) r = (r.0, λ e. let k = r.1 e in (k.0, stays k.0 k.1))
      go (won_by j Open) r = r
      go (won_by j TookPiece) r = (r.0, stays false r.1)
      go (won_by j TookMark) r = (r.0, stays true r.1)
      go (won_by j WonStopped) r = (r.0, (r.1.0, stays r.1.0 r.1.1))
      go (won_by j Leaving) r = (r.0, stays false r.1)

  -- what a turn_now of another seat says
  pub state_room : (b : RingState T) (s : St) → As s b → (x : RingTurn) → b.turn ≡ x → (j : ℕ) (p : TurnState) → x ≡ won_by j p → b.given + knows_next p ≤ b.filled
  state_room b s sh x is j p e = let k = sh.shape in go p (is ∙ e)
    where
      lies : (m : Bool) → b.phase b.given ≡ taken m → b.given < b.filled
      lies m e = (subst (Fits size b (length s.views) b.given) e (sh.shape.each_task b.given)).1

      go : (p : TurnState) → b.turn ≡ won_by j p → b.given + knows_next p ≤ b.filled
      go Open e = let l = sh.shape.given_filled in omega arith
      go TookPiece e = let r = subst (TurnFits b (length s.views)) e sh.shape.turn_fits in let l = lies false r.1 in omega arith
      go TookMark e = let r = subst (TurnFits b (length s.views)) e sh.shape.turn_fits in let l = lies true r.1 in omega arith
      go WonStopped e = let r = subst (TurnFits b (length s.views)) e sh.shape.turn_fits in let l = lies r.1.0 r.1.1 in omega arith
      go Leaving e = let r = subst (TurnFits b (length s.views)) e sh.shape.turn_fits in let l = lies false r.1 in omega arith

  pub held_below : (b : RingState T) (s : St) → As s b → (u j : ℕ) → b.phase u ≡ held j → u < b.filled
  held_below b s sh u j e = (subst (Fits size b (length s.views) u) e (sh.shape.each_task u)).1

  -- a task that the seat doesn't hold, before and after
  pub job_put : (b : RingState T) (s : St) (sh : As s b) (t : ℕ) (ph : RingPhase) (j : ℕ) → b.phase t ≢ held j → ph ≢ held j → (u : ℕ) → (put b.phase t ph u ≡ held j → b.phase u ≡ held j) × (b.phase u ≡ held j → (put b.phase t ph u ≡ held j) × (u < b.filled))
  job_put b s sh t ph j before after u = (
    at_put b.phase t ph (λ y z. z ≡ held j → b.phase y ≡ held j) u (λ _ e. absurd (after e)) (λ _ e. e),
    λ e. (put_else b.phase t ph u (λ same. before (ap b.phase (sym same) ∙ e)) ∙ e, held_below b s sh u j e),
  )

  -- the slot of a taken cell, where the task of another cell moves to ph
  taken_after : (s : St) (b : RingState T) → As s b → (s' : St) (t : ℕ) (ph : RingPhase) → b.given ≤ t → t < b.given + size → ((m : Bool) → ph ≢ taken m) → ((j : ℕ) → j ≢ t % size + 1 → get_elem? s'.homes j ≡ get_elem? s.homes j)
      → TakenCell is_told upto needs is_rows is_piece is_stage size s' (record b { phase = put b.phase t ph })
  taken_after s b sh s' t ph lo hi fresh else m e = dite (ℕ_discrete b.given t)
      (λ same. absurd (fresh m (sym (ap (put b.phase t ph) same ∙ put_here b.phase t ph) ∙ e)))
      (λ ne. let pos = sh.shape.some_cell in let apart : b.given % size ≢ t % size = two_cells b.given t b.given size (le_refl b.given) (omega arith) lo hi ne in
      empty_stays is_told upto needs is_rows is_piece is_stage size s s' b (record b { phase = put b.phase t ph }) refl (else (b.given % size + 1) (λ q. apart (omega arith))) b.turn (sh.home.taken_cell m (sym (put_else b.phase t ph b.given ne) ∙ e)))

  -- a step that moves the cell of t to ph, and nothing else of the ring
  pub cell_turns : (s : St) (b : RingState T) (sh : As s b) (homes' : List (maybe.Option (SlotValue R P S))) (id t i x : ℕ) (v₀ w : View T) (ph : RingPhase) → get_elem? s.views id ≡ some v₀ → w.base ≡ v₀.base → i ≡ t % size + 1 → x ≡ 8 * t + number_of ph → b.given ≤ t → t < b.given + size
      → ((m : Bool) → b.phase t ≢ taken m) → ((m : Bool) → b.phase t ≢ done m) → ((m : Bool) → ph ≢ taken m) → Fits size b (length s.views) t ph → ((j : ℕ) → j ≢ id → (b.phase t ≢ held j) × (ph ≢ held j)) → ((u j : ℕ) → b.block u ≡ read_by j → b.phase t ≢ held j)
      → Knows upto (record b { phase = put b.phase t ph }) id w
      → length homes' ≡ length s.homes → ((j : ℕ) → j ≢ i → get_elem? homes' j ≡ get_elem? s.homes j) → AtHome upto is_rows is_piece is_stage b.told (get_elem? homes' i) t ph
      → Counts (record b { phase = put b.phase t ph }) (set s.views id w) → As record { words = set s.words i x; homes = homes'; views = set s.views id w } (record b { phase = put b.phase t ph })
  cell_turns s b sh homes' id t i x v₀ w ph is_v base cell is lo hi not never fresh fit others readers mine wide else home count =
      let b' : RingState T = record b { phase = put b.phase t ph } in let s' : St = record { words = set s.words i x; homes = homes'; views = set s.views id w } in let k = sh.shape in
      let here : b'.phase t ≡ ph = put_here b.phase t ph in
      let window : (u : ℕ) → u ≢ t → b'.given ≤ u → u < b'.given + size → (b.given ≤ u) × (u < b.given + size) × (b'.phase u ≡ b.phase u) = λ u ne a z. (a, z, put_else b.phase t ph u ne) in
      let apart : 0 ≢ i = λ e. omega arith in
      record {
        shape = cell_step is_told upto needs is_rows is_piece is_stage size s b b' homes' id t i x v₀ w k is_v base refl cell (is ∙ ap (λ (z : RingPhase). 8 * t + number_of z) (sym here)) wide lo hi window
            (ordered is_told upto needs is_rows is_piece is_stage size s b k) refl (λ u. at_put b.phase t ph (λ v y. Fits size b (length s.views) v y) u (λ _. fit) (λ _. k.each_task u)) refl (rests_put b (length s.views) t ph not b.turn k.turn_fits) mine
            (λ j v ne kn. let o = others j ne in knows_stay upto b b' j v (λ _. ((λ e. e), λ e. e)) (λ _ _. refl)
            (job_put b s sh t ph j o.0 o.1) (λ p. ((λ e. e), λ e. (e, refl, state_room b s sh b.turn refl j p e, λ m was. put_else b.phase t ph b.given (λ same. never m (ap b.phase (sym same) ∙ was)) ∙ was))) refl (λ _. (refl, refl, refl, refl)) (le_refl b.assembled) (λ e. e) kn);
        home = home_step is_told upto needs is_rows is_piece is_stage size s s' b b' t k sh.home (λ j ne. else j (λ e. ne (e ∙ cell))) lo hi window (λ _ _. refl)
            (subst (λ (y : ℕ × RingPhase). AtHome upto is_rows is_piece is_stage b.told (get_elem? homes' y.0) t y.1) (λ n. (cell n, sym here n)) home)
            (stage_stays is_told upto needs is_rows is_piece is_stage size s s' b b' refl refl refl (else 0 apart) b.turn sh.home.stage)
            (taken_after s b sh s' t ph lo hi fresh (λ j ne. else j (λ e. ne (e ∙ cell))));
        blocks = blocks_low is_told upto needs is_rows is_piece is_stage size s b b.assembled b.given b.out b.turn b'.phase i x homes' (set s.views id w) sh.blocks sh.blocks.room
            (λ u j v reads e. put_else b.phase t ph v (λ same. readers u j reads (ap b.phase (sym same) ∙ e)) ∙ e) (cell_low i t size cell k.some_cell) else;
        count = count;
      }

  late_filled : (b : RingState T) (n u : ℕ) (ph : RingPhase) → 2 < number_of ph → Fits size b n u ph → u < b.filled
  late_filled b n u idle l f = absurd (omega arith)
  late_filled b n u ready l f = f.1
  late_filled b n u (held j) l f = f.1
  late_filled b n u (done m) l f = f.1
  late_filled b n u (taken m) l f = f.1
  late_filled b n u past l f = absurd (omega arith)

  pub lead_put : (b : RingState T) (j t : ℕ) (ph : RingPhase) → b.filled ≢ t → (x : Option (Lead T)) → HasLead upto b j x → HasLead upto (record b { phase = put b.phase t ph }) j x
  lead_put b j t ph ne None h = h
  lead_put b j t ph ne (Some l) h = (h.0, h.1, h.2, h.3, h.4)

  -- a word past READY(t) shows that t was filled
  word_past : (s : St) (b : RingState T) (sh : As s b) (i t : ℕ) → i ≡ t % size + 1 → 8 * t + 2 < slice_index s.words i → t < b.filled
  word_past s b sh i t at more =
      let k = sh.shape in let w = window_has t size b.given k.some_cell in let u : ℕ = w.0 in let f : ℕ = number_of (b.phase u) in let small : f ≤ 7 = number_small (b.phase u) in
      let word : slice_index s.words i ≡ 8 * u + f = ap (slice_index s.words) (at ∙ ap (λ (k : ℕ). k + 1) (sym w.3)) ∙ k.each_word u w.1 w.2 in let lo : b.given ≤ u = w.1 in let hi : u < b.given + size = w.2 in
      dite (ℕ_discrete u t) (λ same. subst (λ (z : ℕ). z < b.filled) same (late_filled b (length s.views) u (b.phase u) (omega arith) (k.each_task u)))
      (λ ne. dite (dec_le (t + size) u) (λ far. let l = k.given_filled in omega arith) (λ near. absurd (ne (sym (one_turn t u size (omega arith) (omega arith) (sym w.3))))))

  -- claim
  pub claimed_at : (s : St) (b : RingState T) (sh : As s b) (id t i x : ℕ) (me : M) → get_elem? s.views id ≡ some me.0 → i ≡ t % size + 1 → x ≡ 8 * t + 3 → slice_index s.words i ≡ 8 * t + 2 → me.0.job ≡ None → IsLive me.0
      → (t < b.filled) × (get_elem? s.homes i ≡ some (some Empty))
      × As (record { words = set s.words i x; homes = set s.homes i none; views = set s.views id (with_job me.0 i (slice_index s.words i) (record { task = t; told = upto b.told (t + 1) })) }) (record b { phase = put b.phase t (held id) })
      × (b.given ≤ t) × (b.phase t ≡ ready)
  claimed_at s b sh id t i x me at cell is was idle_seat alive =
      let c = at_cell s b sh i t 2 cell (omega arith) was in let k = sh.shape in let phase : b.phase t ≡ ready = number_2 (b.phase t) c.2 in
      let room = subst (Fits size b (length s.views) t) phase (k.each_task t) in
      let h = subst (AtHome upto is_rows is_piece is_stage b.told (get_elem? s.homes (t % size + 1)) t) phase (sh.home.each_cell t c.0 c.1) in
      let w : View T = with_job me.0 i (slice_index s.words i) (record { task = t; told = upto b.told (t + 1) }) in let b' : RingState T = record b { phase = put b.phase t (held id) } in
      let mine = k.each_seat id me.0 at in let no_job : HasJob upto b id None = subst (HasJob upto b id) idle_seat mine.job in
      let not_taken : (m : Bool) → b.phase t ≢ taken m = λ m e. ready_taken m (sym phase ∙ e) in let never : (m : Bool) → b.phase t ≢ done m = λ m e. ready_done m (sym phase ∙ e) in
      let below : b.filled ≢ t = λ e. (let l = room.1 in omega arith) in (
        room.1,
        ap (get_elem? s.homes) cell ∙ h,
        cell_turns s b sh (set s.homes i none) id t i x me.0 w (held id) at refl cell is c.0 c.1 not_taken never (held_taken id) (room.0, room.1, at_length s.views id me.0 at)
            (λ j ne. ((λ e. ready_held j (sym phase ∙ e)), λ e. ne (held_same id j e))) (λ u j _ e. ready_held j (sym phase ∙ e))
            record {
              job = (put_here b.phase t (held id), refl, λ u. at_put b.phase t (held id) (λ y z. z ≡ held id → y ≡ t) u (λ e _. refl) (λ _ e. absurd (no_job u e)));
              turn = mine.turn;
              block = mine.block;
              lead = lead_put b id t (held id) below me.0.lead mine.lead;
              seen = mine.seen;
              found = no_find (record b { phase = put b.phase t (held id) }) id me.0.turn (slice_index s.words i) t 2 was (omega arith);
              base = live_base upto b b' id me.0 w (λ _ _. refl) alive refl mine.base;
            }
            (length-set s.homes i none) (λ j ne. set_else s.homes i j none ne) tt
            (counts_more b b' s.views id me.0 w (Claim t) at refl (due_claim b t (held id) (ap (λ (z : RingPhase). claims_of z + 1) phase) (λ m. ap (deposits_of m) phase) (ap takes_of phase) (ap gives_of phase)) sh.count),
        c.0,
        phase,
      )

  -- the fixed data of a live seat
  pub base_is : ((told : T) (d j k : ℕ) → is_told told d → k ≤ j → j ≤ d → upto (upto told j) k ≡ upto told k) → (s : St) (b : RingState T) → As s b → (id : ℕ) (v : View T) → get_elem? s.views id ≡ some v → IsLive v → (j : ℕ) → j ≤ b.filled → v.base ≡ Some (upto (upto b.told j) 0)
  base_is again s b sh id v at alive j le = go v.base alive (sh.shape.each_seat id v at).base
    where
      go : (x : Option T) → live x ≡ 1 → HasBase upto b id x v.job v.turn v.own → x ≡ Some (upto (upto b.told j) 0)
      go None e h = absurd (omega arith)
      go (Some x) e h = ap (λ (z : T). Some z) (h ∙ sym (again b.told b.filled j 0 sh.shape.told (omega arith) le))

  pub claims_cell : Early → ((told : T) (d j k : ℕ) → is_told told d → k ≤ j → j ≤ d → upto (upto told j) k ≡ upto told k) → (slots id : ℕ) (me : M) (i t old new : ℕ) → i ≡ t % size + 1 → old ≡ 8 * t + 2 → new ≡ 8 * t + 3 → me.0.job ≡ None → IsLive me.0 → Allows Rule slots id me i (λ n. either (eqb n old) new n) (claims upto needs (step slots i old new none) me)
  claims_cell early again slots id me i t old new cell first second idle_seat alive s r wide at _ = let n : ℕ = get_or s.words i 0 in let then = claims upto needs (step slots i old new none) me in
      exchanged n old new (Goes s i id me then)
      (λ hit. let c = claimed_at s r.0 r.1 id t i new me at cell second (hit ∙ first) idle_seat alive in let last = r.1.shape.filled_end in let below = c.0 in (
        with_job me.0 i n (record { task = t; told = upto r.0.told (t + 1) }),
        takes i Empty,
        c.1,
        (record r.0 { phase = put r.0.phase t (held id) }, c.2),
        (λ u is. let same : u ≡ t = omega arith in ((λ _. (upto r.0.told (t + 1), (omega arith), λ k. (with_job me.0 i n (record { task = sym same k; told = upto r.0.told (t + 1) }), (i, Empty) ∷ me.1), base_is again s r.0 r.1 id me.0 at alive (t + 1) (omega arith), λ l lead out. (let q = (subst (HasLead upto r.0 id) lead (r.1.shape.each_seat id me.0 at).lead).2 in omega arith, ap (λ (z : ℕ). times (Claim z) me.0.own) same ∙ own_all is_told upto needs is_rows is_piece is_stage size s r.0 id me.0 l r.1 (at, lead, out, alive) (Claim t) ∙ ap claims_of c.4), ap (λ (z : ℕ). upto (upto r.0.told (t + 1)) (z + 1)) same ∙ again r.0.told r.0.filled (t + 1) (t + 1) r.1.shape.told (le_refl (t + 1)) (omega arith), subst (λ (z : ℕ). needs (upto (upto r.0.told (t + 1)) z) z ≤ z) (sym same) (subst (λ (z : T). needs z t ≤ t) (sym (again r.0.told r.0.filled (t + 1) t r.1.shape.told (omega arith) (omega arith))) (early r.0.told r.0.filled t r.1.shape.told (omega arith))))), λ miss. absurd (miss hit))),
      ))
      (λ miss. (
        missing me.0 i n,
        keeps,
        tt,
        looks s r.0 i id me.1 me.0 (missing me.0 i n) r.1 (cell_low i t size cell r.1.shape.some_cell) at refl refl refl refl refl refl refl (r.1.shape.each_seat id me.0 at).seen,
        λ u is. (
          (λ hit. absurd (miss hit)),
          λ _. (
            refl,
            (λ more. let same : u ≡ t = omega arith in let past = word_past s r.0 r.1 i t cell (omega arith) in let last = r.1.shape.filled_end in omega arith),
            (λ l lead alone lt none_yet. let same : u ≡ t = omega arith in miss (ap (λ (z : ℕ). get_or s.words z 0) cell ∙ shows_ready is_told upto needs is_rows is_piece is_stage size s r.0 id me.0 l r.1 (at, lead, alone, alive) t (omega arith) (ap (λ (z : ℕ). times (Claim z) me.0.own) (sym same) ∙ none_yet) ∙ sym first)),
          ),
        ),
      ))

  -- the first seat looks at a cell
  pub looks_at_cell : (slots id : ℕ) (me : M) (i t : ℕ) → i ≡ t % size + 1 → Allows Rule slots id me i (λ n. n) (sees_cell (step slots i 0 0 none) me)
  looks_at_cell slots id me i t cell s r wide at _ = let n : ℕ = get_or s.words i 0 in
      (looked me.0 i n, keeps, tt, looks s r.0 i id me.1 me.0 (looked me.0 i n) r.1 (cell_low i t size cell r.1.shape.some_cell) at refl refl refl refl refl refl refl (r.1.shape.each_seat id me.0 at).seen, refl)

  -- the task is done now
  done_found : (b : RingState T) (id : ℕ) (x : Option (HeldTurn T)) (t n : ℕ) (m : Bool) → n ≡ 8 * t + number_of (done m) → HasFound upto (record b { phase = put b.phase t (done m) }) id x n
  done_found b id None t n m is = tt
  done_found b id (Some h) t n m is = λ opened k e. let q = same_done t h.behind m k (sym is ∙ e) in subst (λ (z : ℕ × Bool). put b.phase t (done m) z.0 ≡ done z.1) (λ i. (q.0 i, q.1 i)) (put_here b.phase t (done m))

  -- deposit, with what lies in the slot then
  pub deposited_at : (s : St) (b : RingState T) (sh : As s b) (id t i new : ℕ) (me : M) (x : HeldTask T) (m : Bool) (y : SlotValue R P S) → get_elem? s.views id ≡ some me.0 → me.0.job ≡ Some x → me.0.block ≡ None → t ≡ x.task → i ≡ t % size + 1 → new ≡ 8 * t + number_of (done m) → IsLive me.0
      → ((told : T) → upto told (t + 1) ≡ x.told → AtHome upto is_rows is_piece is_stage told (some (some y)) t (done m))
      → As record { words = set s.words i new; homes = set s.homes i (some y); views = set s.views id (without_job me.0 i new t m) } (record b { phase = put b.phase t (done m) })
  deposited_at s b sh id t i new me x m y at is_job no_block is_t cell is alive home =
      let k = sh.shape in let mine = k.each_seat id me.0 at in let job = subst (HasJob upto b id) is_job mine.job in
      let phase : b.phase t ≡ held id = ap b.phase is_t ∙ job.0 in let room = subst (Fits size b (length s.views) t) phase (k.each_task t) in let last = k.filled_room in let hi : t < b.given + size = (let l = room.1 in omega arith) in
      let w : View T = without_job me.0 i new t m in let b' : RingState T = record b { phase = put b.phase t (done m) } in
      let near : i < length s.homes = (let r = mod-lt t k.some_cell in let q = k.homes_wide in omega arith) in
      cell_turns s b sh (set s.homes i (some y)) id t i new me.0 w (done m) at refl cell is room.0 hi (λ n e. held_taken id n (sym phase ∙ e)) (λ n e. held_done id n (sym phase ∙ e)) (done_taken m) (room.0, room.1)
      (λ j ne. ((λ e. ne (held_same id j (sym phase ∙ e))), done_held m j)) (λ u j reads e. subst (HasBlock upto b id) no_block mine.block u (reads ∙ ap read_by (held_same id j (sym phase ∙ e))))
      record {
        job = λ u. at_put b.phase t (done m) (λ z ph. ph ≢ held id) u (λ _. done_held m id) (λ ne e. ne (job.2 u e ∙ sym is_t));
        turn = mine.turn;
        block = mine.block;
        lead = lead_put b id t (done m) (λ e. (let l = room.1 in omega arith)) me.0.lead mine.lead;
        seen = mine.seen;
        found = done_found b id me.0.turn t new m is;
        base = live_base upto b b' id me.0 w (λ _ _. refl) alive refl mine.base;
      }
      (length-set s.homes i (some y)) (λ j ne. set_else s.homes i j (some y) ne)
      (subst (λ (z : maybe.Option (maybe.Option (SlotValue R P S))). AtHome upto is_rows is_piece is_stage b.told z t (done m)) (sym (set_here s.homes i (some y) near)) (home b.told (ap (λ (z : ℕ). upto b.told (z + 1)) is_t ∙ sym job.1)))
      (counts_more b b' s.views id me.0 w (Deposit t m) at refl (due_deposit b t (done m) m (ap claims_of phase) (λ n. ap (deposits_of n) phase) (λ n. refl) (ap takes_of phase) (ap gives_of phase)) sh.count)

  pub deposits_cell : (slots id : ℕ) (me : M) (i new : ℕ) (x : HeldTask T) (m : Bool) (y : SlotValue R P S) → i ≡ x.task % size + 1 → new ≡ 8 * x.task + number_of (done m) → me.0.job ≡ Some x → me.0.block ≡ None → me.1 ≡ (i, y) ∷ rest me.1 → IsLive me.0
      → ((told : T) → upto told (x.task + 1) ≡ x.told → AtHome upto is_rows is_piece is_stage told (some (some y)) x.task (done m)) → Allows Rule slots id me i (λ n. new) (λ _. deposits m (step slots i new 0 none) me new)
  deposits_cell slots id me i new x m y cell is is_job no_block has alive home s r wide at _ = (
    without_job me.0 i new x.task m,
    gives,
    tt,
    subst (λ (cs : List (ℕ × SlotValue R P S)). Rule record { words = set s.words i new; homes = put_back s.homes cs; views = set s.views id (without_job me.0 i new x.task m) }) (sym has)
        (record r.0 { phase = put r.0.phase x.task (done m) }, deposited_at s r.0 r.1 id x.task i new me x m y at is_job no_block refl cell is alive home),
    λ x' is'. let e : x ≡ x' = some_same x x' (sym is_job ∙ is') in λ k. (without_job me.0 i new (e k).task m, rest me.1),
  )

  idle_next : (b : RingState T) (n u : ℕ) (ph : RingPhase) → u ≡ b.filled → b.given ≤ b.filled → Fits size b n u ph → ph ≡ idle
  idle_next b n u idle e g f = refl
  idle_next b n u ready e g f = let l = f.1 in absurd (omega arith)
  idle_next b n u (held j) e g f = let l = f.1 in absurd (omega arith)
  idle_next b n u (done m) e g f = let l = f.1 in absurd (omega arith)
  idle_next b n u (taken m) e g f = let l = f.1 in absurd (omega arith)
  idle_next b n u past e g f = absurd (omega (arith, f))

  -- the facts of the first seat whose next block is at home
  pub stored_facts : Early → (s : St) (b : RingState T) (sh : As s b) (id : ℕ) (v : View T) (l : Lead T) (told' : T) → get_elem? s.views id ≡ some v → v.lead ≡ Some l → l.fill ≡ Stored told'
      → (l.filled ≡ b.filled) × (b.fill ≡ Stored told') × (b.phase b.filled ≡ idle) × (b.filled < b.given + size) × (b.block b.filled ≡ kept) × is_told told' (b.filled + 1) × ((k : ℕ) → k ≤ b.filled → upto told' k ≡ upto b.told k)
  stored_facts early s b sh id v l told' at is_lead is_stored =
      let k = sh.shape in let lead = subst (HasLead upto b id) is_lead (k.each_seat id v at).lead in let fill : b.fill ≡ Stored told' = sym lead.4 ∙ is_stored in
      let hand = subst (λ (f : FillState T). FillFits is_told upto b.filled b.told b.block f) fill sh.blocks.in_hand in let room = subst (λ (f : FillState T). begun_of f b.filled ≤ first_of_task upto needs b.told b.assembled + size) fill sh.blocks.room in
      let low = early b.told b.filled b.assembled k.told (let a = k.assembled_given in let z = k.given_filled in omega arith) in let g = k.assembled_given in
      (lead.2, fill, idle_next b (length s.views) b.filled (b.phase b.filled) refl k.given_filled (k.each_task b.filled), omega arith, hand.0, hand.1, hand.2)

  -- the blocks once the next task is filled
  blocks_filled : (s s' : St) (b : RingState T) (t : ℕ) (told' : T) → As s b → b.fill ≡ Stored told' → t ≡ b.filled → b.phase t ≡ idle → ((n : ℕ) → n ≤ b.filled → upto told' n ≡ upto b.told n) → b.assembled ≤ b.filled → ((i : ℕ) → size < i → slice_index s'.words i ≡ slice_index s.words i) → s'.homes ≡ s.homes
      → BlocksOf is_told upto needs is_rows is_piece is_stage size s' (record { assembled = b.assembled; given = b.given; filled = b.filled + 1; turn = b.turn; lead = b.lead; out = b.out; told = told'; fill = Waiting; phase = put b.phase t ready; block = b.block })
  blocks_filled s s' b t told' sh fill d phase same le words homes = let old = sh.blocks in
      let begun : begun_of b.fill b.filled ≡ b.filled + 1 = ap (λ (f : FillState T). begun_of f b.filled) fill in
      let low : oldest size b ≡ b.filled + 1 - size = ap (λ (z : ℕ). z - size) begun in
      record {
        room = (let r = old.room in let e = ap (λ (z : T). needs z b.assembled) (same b.assembled le) in omega arith);
        each_block = λ u. fits u (b.block u) (old.each_block u);
        in_hand = tt;
        each_block_word = λ u lo hi. words (u % size + 1 + size) (omega arith) ∙ old.each_block_word u (omega arith) (omega arith);
        each_block_home = λ u lo hi. subst (λ (z : T × List (maybe.Option (SlotValue R P S))). BlockHome upto is_rows z.0 (get_elem? z.1 (u % size + 1 + size)) u (b.block u)) (λ i. (ap (λ (f : FillState T). told_with f b.told) fill i, sym homes i)) (old.each_block_home u (omega arith) (omega arith));
      }
    where
      fits : (u : ℕ) (x : RingBlock) → FitsAt is_told upto needs is_rows is_piece is_stage size b b.fill b.phase u x → BlockFits upto needs (b.filled + 1) told' Waiting (put b.phase t ready) u x
      fits u blank f = let e = ap (λ (z : FillState T). begun_of z b.filled) fill in omega (arith, f)
      fits u coming f = absurd (begun_stored (sym f.1 ∙ fill))
        where
          begun_stored : Begun ≡ Stored told' → ⊥
          begun_stored e = cc
      fits u kept f = let e = ap (λ (z : FillState T). begun_of z b.filled) fill in omega (arith, f)
      fits u (read_by j) f =
          let v : ℕ = f.1 in let below : v < b.filled = held_below b s sh v j f.2 in
          (omega (arith, f), v, put_else b.phase t ready v (λ q. idle_held j (sym phase ∙ ap b.phase (sym q) ∙ f.2)) ∙ f.2, subst (λ (z : T). needs z v ≤ u) (sym (same v (omega arith))) f.3, f.4)

  -- filled: the cell of the next task is ready, and its block stays at home
  pub filled_at : Early → (s : St) (b : RingState T) (sh : As s b) (id t i new : ℕ) (me : M) (l : Lead T) (told' : T) → get_elem? s.views id ≡ some me.0 → me.0.lead ≡ Some l → l.fill ≡ Stored told' → t ≡ l.filled → i ≡ t % size + 1 → new ≡ 8 * t + 2
      → t < 2 ^ 42 → IsLive me.0
      → (get_or s.words i 0 ≡ 8 * t)
      × As record { words = set s.words i new; homes = s.homes; views = set s.views id (led me.0 i (get_or s.words i 0) (more_filled l told')) } (record { assembled = b.assembled; given = b.given; filled = b.filled + 1; turn = b.turn; lead = b.lead; out = b.out; told = told'; fill = Waiting; phase = put b.phase t ready; block = b.block })
  filled_at early s b sh id t i new me l told' at is_lead is_stored is_t cell is end alive =
      let k = sh.shape in let mine = k.each_seat id me.0 at in let f = stored_facts early s b sh id me.0 l told' at is_lead is_stored in let lead = subst (HasLead upto b id) is_lead mine.lead in let d : t ≡ b.filled = is_t ∙ lead.2 in
      let fill : b.fill ≡ Stored told' = f.1 in let now_told : is_told told' (b.filled + 1) = f.5 in let same : (n : ℕ) → n ≤ b.filled → upto told' n ≡ upto b.told n = f.6 in
      let phase : b.phase t ≡ idle = ap b.phase d ∙ f.2 in let hi : t < b.given + size = (let q = f.3 in omega arith) in let n : ℕ = get_or s.words i 0 in
      let w : View T = led me.0 i n (more_filled l told') in
      let b' : RingState T = record { assembled = b.assembled; given = b.given; filled = b.filled + 1; turn = b.turn; lead = b.lead; out = b.out; told = told'; fill = Waiting; phase = put b.phase t ready; block = b.block } in
      let given_le : b.given ≤ t = (let g = k.given_filled in omega arith) in
      let word : n ≡ 8 * t = ap (λ (z : ℕ). get_or s.words z 0) cell ∙ k.each_word t given_le hi ∙ ap (λ (z : RingPhase). 8 * t + number_of z) phase ∙ (omega arith) in
      let s' : St = record { words = set s.words i new; homes = s.homes; views = set s.views id w } in
      let window : (u : ℕ) → u ≢ t → b'.given ≤ u → u < b'.given + size → (b.given ≤ u) × (u < b.given + size) × (b'.phase u ≡ b.phase u) = λ u ne a z. (a, z, put_else b.phase t ready u ne) in
      let not_held : (j : ℕ) → b.phase t ≢ held j = λ j e. idle_held j (sym phase ∙ e) in let here : put b.phase t ready t ≡ ready = put_here b.phase t ready in
      let turn_on : (j : ℕ) → TurnOn upto b b' j = λ j p. ((λ e. e), λ e. (e, refl, state_room b s sh b.turn refl j p e, λ m was. put_else b.phase t ready b.given (λ q. idle_done m (sym phase ∙ ap b.phase (sym q) ∙ was)) ∙ was)) in
      let low = cell_low i t size cell k.some_cell in let empty = subst (AtHome upto is_rows is_piece is_stage b.told (get_elem? s.homes (t % size + 1)) t) phase (sh.home.each_cell t given_le hi) in (
        word,
        record {
          shape = cell_step is_told upto needs is_rows is_piece is_stage size s b b' s.homes id t i new me.0 w k at refl refl cell (is ∙ ap (λ (z : RingPhase). 8 * t + number_of z) (sym here)) refl given_le hi window
              (k.assembled_given, (let g = k.given_filled in omega arith), (let g = hi in omega arith), (let g = end in omega arith), now_told) refl
              (λ u. at_put b.phase t ready (λ v y. Fits size b' (length s.views) v y) u (λ _. (given_le, (let g = d in omega arith)))
              (λ ne. fits_stay size b b' (length s.views) (length s.views) u (b.phase u) (le_refl (length s.views)) (λ a _. a) (λ a. (omega arith)) (λ a. (omega arith)) (λ a. a)
              (λ m e. let q = subst (Fits size b (length s.views) u) e (k.each_task u) in (q.0, (let g = q.1 in omega arith), q.2)) (k.each_task u)))
              refl (rests_put b (length s.views) t ready (λ m e. idle_taken m (sym phase ∙ e)) b.turn k.turn_fits)
              record {
                job = job_stays upto b b' id me.0.job same (job_put b s sh t ready id (not_held id) (ready_held id)) mine.job;
                turn = turn_stays upto b b' id me.0.turn same (turn_on id) mine.turn;
                block = mine.block;
                lead = (lead.0, refl, ap (λ (z : ℕ). z + 1) lead.2, lead.3, refl);
                seen = mine.seen;
                found = no_find b' id me.0.turn n t 0 (word ∙ (omega arith)) (omega arith);
                base = live_base upto b b' id me.0 w same alive refl mine.base;
              }
              (λ j v ne kn. knows_stay upto b b' j v (λ _. ((λ e. e), λ e. e)) same (job_put b s sh t ready j (not_held j) (ready_held j)) (turn_on j) refl (λ e. absurd (ne (e ∙ sym lead.0))) (le_refl b.assembled) (λ e. e) kn);
          home = home_step is_told upto needs is_rows is_piece is_stage size s s' b b' t k sh.home (λ j ne. refl) given_le hi window same
              (subst (λ (y : RingPhase). AtHome upto is_rows is_piece is_stage told' (get_elem? s.homes (t % size + 1)) t y) (sym here) empty)
              (stage_told is_told upto needs is_rows is_piece is_stage size s s' b b' refl same k.given_filled refl (length s.views) b.turn refl k.turn_fits k.each_task sh.home.stage)
              (taken_after s b sh s' t ready given_le hi ready_taken (λ j ne. refl));
          blocks = blocks_filled s s' b t told' sh fill d phase same (let a = k.assembled_given in let z = k.given_filled in omega arith) (λ j lt. get_or-set_other s.words i j new 0 (λ e. omega arith)) refl;
          count = counts_same b b' s.views id me.0 w at refl (due_same b t ready (put b.phase t ready) refl (ap claims_of phase) (λ m. ap (deposits_of m) phase) (ap takes_of phase) (ap gives_of phase)) sh.count;
        },
      )

  pub fills_cell : Early → (slots id : ℕ) (me : M) (i old new : ℕ) (l : Lead T) (told' : T) → i ≡ l.filled % size + 1 → old ≡ 8 * l.filled → new ≡ 8 * l.filled + 2 → me.0.lead ≡ Some l → l.fill ≡ Stored told' → l.filled < 2 ^ 42 → IsLive me.0
      → Allows Rule slots id me i (λ n. either (eqb n old) new n) (fills (step slots i old new none) me)
  fills_cell early slots id me i old new l told' cell first second is_lead is_stored end alive s r wide at _ =
      let n : ℕ = get_or s.words i 0 in let b = r.0 in let then = fills (step slots i old new none) me in let c = filled_at early s b r.1 id l.filled i new me l told' at is_lead is_stored refl cell second end alive in
      exchanged n old new (Goes s i id me then)
      (λ hit. (
        led me.0 i n (more_filled l told'),
        keeps,
        tt,
        ((record { assembled = b.assembled; given = b.given; filled = b.filled + 1; turn = b.turn; lead = b.lead; out = b.out; told = told'; fill = Waiting; phase = put b.phase l.filled ready; block = b.block }), c.1),
        λ l' told'' is' stored'. let e : l ≡ l' = some_same l l' (sym is_lead ∙ is') in let f : told' ≡ told'' = stored_same told' told'' (sym is_stored ∙ ap (λ (z : Lead T). z.fill) e ∙ stored') in (hit, λ k. (led me.0 i n (more_filled (e k) (f k)), me.1)),
      ))
      (λ miss. absurd (miss (c.0 ∙ sym first)))
    where
      stored_same : (x y : T) → Stored x ≡ Stored y → x ≡ y
      stored_same x y e = cc
