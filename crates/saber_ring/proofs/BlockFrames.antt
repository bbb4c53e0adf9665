-- What stays of the blocks at a step on another word, and what a step on the word of a block leaves.
use Rattle.std.proofs.Common.{◌≡◌, ◌≢◌, ℕ, Bool, ◌+◌, ◌-◌, ◌*◌, ◌%◌, ◌<◌, ◌≤◌, List, length, get_or, set, sym, refl, ap, ◌∙◌, subst, mod-lt, le_refl, arith, length-set, get_or-set_other, get_or-set_same}
use mathlib.Core.Logic.{dite}
use mathlib.Core.Option.{some}
use mathlib.Core.Option as maybe
use native.Mathlib.Decide.{ℕ_discrete}
use lib.ListN.{get_elem?}
use Rattle.std.specs.Prelude.{slice_index}
use Rattle.atomic_table.specs.Table.{State}
use Rattle.saber_ring.specs.declared.view.SlotValue.{SlotValue}
use Rattle.saber_ring.specs.declared.view.FillState.{FillState}
use Rattle.saber_ring.specs.declared.view.TurnState.TheVariants.{Open, TookPiece, TookMark, WonStopped, Leaving}
use Rattle.saber_ring.specs.declared.view.View.{View}
use Rattle.saber_ring.specs.Shows.{RingPhase, held, RingBlock, blank, coming, kept, read_by, block_number, RingTurn, free, won_by, RingState, Fits, TurnFits, begun_of, told_with, first_of_task, BlockFits, FillFits, BlockHome, oldest, Blocks, Knows, ShowsAs}
use Rattle.saber_ring.proofs.Puts.{put, at_put, put_here, put_else}
use Rattle.saber_ring.proofs.Counts.{counts_same}
use Rattle.saber_ring.proofs.Frames.{two_cells, fits_stay, seats_stay, alive_set, home_turn, stage_stays, empty_stays}

-- a cell's place is below those of the blocks
pub cell_low : (i t n : ℕ) → i ≡ t % n + 1 → 0 < n → i ≤ n
cell_low i t n at pos = let l = mod-lt t pos in omega arith

module _ {T R P S : Type 0} (is_told : T → ℕ → Type 0) (upto : T → ℕ → T) (needs : T → ℕ → ℕ) (is_rows : T → ℕ → R → Type 0) (is_piece : T → ℕ → P → Type 0) (is_stage : T → ℕ → Bool → S → Type 0) (size : ℕ) where
  abbrev St : Type 0
  St = State (SlotValue R P S) (View T)

  abbrev As : St → RingState T → Type 0
  As s b = ShowsAs is_told upto needs is_rows is_piece is_stage size s b

  abbrev Values : Type 0
  Values = List (maybe.Option (SlotValue R P S))

  abbrev pub BlocksOf : St → RingState T → Type 0
  BlocksOf s b = Blocks is_told upto needs is_rows size s b

  abbrev pub FitsAt : RingState T → FillState T → (ℕ → RingPhase) → ℕ → RingBlock → Type 0
  FitsAt b f phase u x = BlockFits upto needs b.filled b.told f phase u x

  -- the jobs of readers stay
  abbrev pub ReadersOn : RingState T → (ℕ → RingPhase) → Type 0
  ReadersOn b phase' = (u j t : ℕ) → b.block u ≡ read_by j → b.phase t ≡ held j → phase' t ≡ held j

  block_fits_on : (b : RingState T) (phase' : ℕ → RingPhase) (u : ℕ) → ReadersOn b phase' → (x : RingBlock) → b.block u ≡ x → FitsAt b b.fill b.phase u x → FitsAt b b.fill phase' u x
  block_fits_on b phase' u on blank is f = f
  block_fits_on b phase' u on coming is f = f
  block_fits_on b phase' u on kept is f = f
  block_fits_on b phase' u on (read_by j) is f = (f.0, f.1, on u j f.1 is f.2, f.3, f.4)

  -- a step that touches no block
  pub blocks_stay : (s s' : St) (b : RingState T) (k g o : ℕ) (x : RingTurn) (phase' : ℕ → RingPhase) → BlocksOf s b → begun_of b.fill b.filled ≤ first_of_task upto needs b.told k + size → ReadersOn b phase'
      → ((i : ℕ) → size < i → slice_index s'.words i ≡ slice_index s.words i) → ((i : ℕ) → size < i → get_elem? s'.homes i ≡ get_elem? s.homes i)
      → BlocksOf s' (record b { assembled = k; given = g; out = o; turn = x; phase = phase' })
  blocks_stay s s' b k g o x phase' old room on words homes = record {
    room = room;
    each_block = λ u. block_fits_on b phase' u on (b.block u) refl (old.each_block u);
    in_hand = old.in_hand;
    each_block_word = λ u lo hi. words (u % size + 1 + size) (omega arith) ∙ old.each_block_word u lo hi;
    each_block_home = λ u lo hi. subst (λ (p : maybe.Option (maybe.Option (SlotValue R P S))). BlockHome upto is_rows (told_with b.fill b.told) p u (b.block u)) (sym (homes (u % size + 1 + size) (omega arith))) (old.each_block_home u lo hi);
  }

  -- the same, where one word of a cell or of the turn changes, and values of low slots
  pub blocks_low : (s : St) (b : RingState T) (k g o : ℕ) (x : RingTurn) (phase' : ℕ → RingPhase) (i n : ℕ) (homes' : Values) (views' : List (View T)) → BlocksOf s b → begun_of b.fill b.filled ≤ first_of_task upto needs b.told k + size → ReadersOn b phase'
      → i ≤ size → ((j : ℕ) → j ≢ i → get_elem? homes' j ≡ get_elem? s.homes j)
      → BlocksOf (record { words = set s.words i n; homes = homes'; views = views' }) (record b { assembled = k; given = g; out = o; turn = x; phase = phase' })
  blocks_low s b k g o x phase' i n homes' views' old room on low else =
      blocks_stay s (record { words = set s.words i n; homes = homes'; views = views' }) b k g o x phase' old room on (λ j lt. get_or-set_other s.words i j n 0 (λ e. omega arith)) (λ j lt. else j (λ e. omega arith))

  -- nobody has a block that has no job
  pub no_reader : (s : St) (b : RingState T) → BlocksOf s b → (j : ℕ) → ((t : ℕ) → b.phase t ≢ held j) → (u : ℕ) → b.block u ≢ read_by j
  no_reader s b old j none_held u e = let f = subst (FitsAt b b.fill b.phase u) e (old.each_block u) in none_held f.1 f.2

  abbrev EachBlock : List ℕ → ℕ → (ℕ → RingBlock) → Type 0
  EachBlock words g block = (u : ℕ) → g ≤ u → u < g + size → slice_index words (u % size + 1 + size) ≡ 4 * u + block_number (block u)

  -- a window of blocks that has the old one's but the one that changes
  abbrev pub InWindow : ℕ → ℕ → ℕ → Type 0
  InWindow g g' t = (u : ℕ) → u ≢ t → g' ≤ u → u < g' + size → (g ≤ u) × (u < g + size)

  block_words : (words : List ℕ) (i x t g g' : ℕ) (block : ℕ → RingBlock) (y : RingBlock) → i ≡ t % size + 1 + size → 0 < size → length words ≡ 2 * size + 1 → x ≡ 4 * t + block_number y → g' ≤ t → t < g' + size → InWindow g g' t
      → EachBlock words g block → EachBlock (set words i x) g' (put block t y)
  block_words words i x t g g' block y at pos wide is lo hi window old u a b = dite (ℕ_discrete u t)
      (λ e. subst (λ (k : ℕ). slice_index (set words i x) (k % size + 1 + size) ≡ 4 * k + block_number (put block t y k)) (sym e)
      (let r = mod-lt t pos in let near : t % size + 1 + size < length words = omega arith in subst (λ (k : ℕ). get_or (set words k x) (t % size + 1 + size) 0 ≡ 4 * t + block_number (put block t y t)) (sym at)
      (get_or-set_same words (t % size + 1 + size) x 0 near ∙ is ∙ ap (λ (z : RingBlock). 4 * t + block_number z) (sym (put_here block t y)))))
      (λ ne. let k = window u ne a b in let apart : u % size + 1 + size ≢ i = λ e. two_cells u t g' size a b lo hi ne (omega arith) in
      get_or-set_other words i (u % size + 1 + size) x 0 apart ∙ old u k.0 k.1 ∙ ap (λ (z : RingBlock). 4 * u + block_number z) (sym (put_else block t y u ne)))

  -- the blocks after a step on the word of block t
  pub block_moves : (s : St) (b : RingState T) (homes' : Values) (views' : List (View T)) (t i x : ℕ) (f : FillState T) (y : RingBlock) → 0 < size → length s.words ≡ 2 * size + 1 → BlocksOf s b → i ≡ t % size + 1 + size → x ≡ 4 * t + block_number y
      → begun_of f b.filled - size ≤ t → t < begun_of f b.filled - size + size → InWindow (oldest size b) (begun_of f b.filled - size) t
      → begun_of f b.filled ≤ first_of_task upto needs b.told b.assembled + size
      → ((u : ℕ) → u ≢ t → FitsAt b b.fill b.phase u (b.block u) → FitsAt b f b.phase u (b.block u)) → FitsAt b f b.phase t y → FillFits is_told upto b.filled b.told (put b.block t y) f
      → ((u : ℕ) → u ≢ t → b.block u ≡ kept → upto (told_with f b.told) (u + 1) ≡ upto (told_with b.fill b.told) (u + 1))
      → ((j : ℕ) → j ≢ i → get_elem? homes' j ≡ get_elem? s.homes j) → BlockHome upto is_rows (told_with f b.told) (get_elem? homes' i) t y
      → BlocksOf (record { words = set s.words i x; homes = homes'; views = views' }) (record b { fill = f; block = put b.block t y })
  block_moves s b homes' views' t i x f y pos wide old at is lo hi window room others fit hand same else home = record {
    room = room;
    each_block = λ u. at_put b.block t y (λ v z. FitsAt b f b.phase v z) u (λ _. fit) (λ ne. others u ne (old.each_block u));
    in_hand = hand;
    each_block_word = block_words s.words i x t (oldest size b) (begun_of f b.filled - size) b.block y at pos wide is lo hi window old.each_block_word;
    each_block_home = λ u a z. dite (ℕ_discrete u t)
        (λ e. subst (λ (k : ℕ). BlockHome upto is_rows (told_with f b.told) (get_elem? homes' (k % size + 1 + size)) k (put b.block t y k)) (sym e)
        (subst (λ (k : ℕ × RingBlock). BlockHome upto is_rows (told_with f b.told) (get_elem? homes' k.0) t k.1) (λ n. (at n, sym (put_here b.block t y) n)) home))
        (λ ne. let k = window u ne a z in let apart : u % size + 1 + size ≢ i = λ e. two_cells u t (begun_of f b.filled - size) size a z lo hi ne (omega arith) in
        subst (BlockHome upto is_rows (told_with f b.told) (get_elem? homes' (u % size + 1 + size)) u) (sym (put_else b.block t y u ne))
        (lies u (b.block u) refl ne (else (u % size + 1 + size) apart) (old.each_block_home u k.0 k.1)));
  }
    where
      lies : (u : ℕ) (z : RingBlock) → b.block u ≡ z → u ≢ t → {p p' : maybe.Option (maybe.Option (SlotValue R P S))} → p' ≡ p → BlockHome upto is_rows (told_with b.fill b.told) p u z → BlockHome upto is_rows (told_with f b.told) p' u z
      lies u blank e ne q h = q ∙ h
      lies u coming e ne q h = tt
      lies u kept e ne q h = (h.0, q ∙ h.1, subst (λ (z : T). is_rows z u h.0) (sym (same u ne e)) h.2)
      lies u (read_by j) e ne q h = tt

  -- a block whose state another seat doesn't see changed
  pub block_put : (b : RingState T) (t : ℕ) (y : RingBlock) (j : ℕ) → b.block t ≢ read_by j → y ≢ read_by j → (u : ℕ) → (put b.block t y u ≡ read_by j → b.block u ≡ read_by j) × (b.block u ≡ read_by j → put b.block t y u ≡ read_by j)
  block_put b t y j before after u = (
    at_put b.block t y (λ v z. z ≡ read_by j → b.block v ≡ read_by j) u (λ _ e. absurd (after e)) (λ _ e. e),
    λ e. put_else b.block t y u (λ same. before (ap b.block (sym same) ∙ e)) ∙ e,
  )

  turn_on : (b : RingState T) (f : FillState T) (block' : ℕ → RingBlock) (n : ℕ) (x : RingTurn) → TurnFits b n x → TurnFits (record b { fill = f; block = block' }) n x
  turn_on b f block' n (free y) r = r
  turn_on b f block' n (won_by j Open) r = r
  turn_on b f block' n (won_by j TookPiece) r = r
  turn_on b f block' n (won_by j TookMark) r = r
  turn_on b f block' n (won_by j WonStopped) r = r
  turn_on b f block' n (won_by j Leaving) r = r

  -- a step on the word of block t leaves the rest
  pub block_step : (s : St) (b : RingState T) (sh : As s b) (homes' : Values) (id t i x : ℕ) (v₀ w : View T) (f : FillState T) (y : RingBlock) → get_elem? s.views id ≡ some v₀ → w.base ≡ v₀.base → w.own ≡ v₀.own → i ≡ t % size + 1 + size
      → length homes' ≡ length s.homes → ((j : ℕ) → j ≢ i → get_elem? homes' j ≡ get_elem? s.homes j)
      → BlocksOf (record { words = set s.words i x; homes = homes'; views = set s.views id w }) (record b { fill = f; block = put b.block t y })
      → Knows upto (record b { fill = f; block = put b.block t y }) id w → ((j : ℕ) (v : View T) → j ≢ id → Knows upto b j v → Knows upto (record b { fill = f; block = put b.block t y }) j v)
      → As (record { words = set s.words i x; homes = homes'; views = set s.views id w }) (record b { fill = f; block = put b.block t y })
  block_step s b sh homes' id t i x v₀ w f y is_v base own at wide else blocks mine others =
      let b' : RingState T = record b { fill = f; block = put b.block t y } in let s' : St = record { words = set s.words i x; homes = homes'; views = set s.views id w } in let k = sh.shape in
      let long : length (set s.views id w) ≡ length s.views = length-set s.views id w in let high : size < i = omega arith in
      record {
        shape = record {
          some_cell = k.some_cell;
          few_cells = k.few_cells;
          words_wide = length-set s.words i x ∙ k.words_wide;
          homes_wide = wide ∙ k.homes_wide;
          assembled_given = k.assembled_given;
          given_filled = k.given_filled;
          filled_room = k.filled_room;
          filled_end = k.filled_end;
          told = k.told;
          led = subst (λ (n : ℕ). b.lead < n) (sym long) k.led;
          alive = alive_set is_told upto needs is_rows is_piece is_stage size s.views id v₀ w is_v base ∙ k.alive;
          each_task = λ u. subst (λ (n : ℕ). Fits size b' n u (b.phase u)) (sym long) (fits_stay size b b' (length s.views) (length s.views) u (b.phase u) (le_refl (length s.views)) (λ a _. a) (λ a. a) (λ a. a) (λ a. a) (λ m e. subst (Fits size b (length s.views) u) e (k.each_task u)) (k.each_task u));
          each_word = λ u lo hi. let r = mod-lt u k.some_cell in get_or-set_other s.words i (u % size + 1) x 0 (λ e. omega arith) ∙ k.each_word u lo hi;
          turn_is = get_or-set_other s.words i 0 x 0 (λ e. omega arith) ∙ k.turn_is;
          turn_fits = subst (λ (n : ℕ). TurnFits b' n b.turn) (sym long) (turn_on b f (put b.block t y) (length s.views) b.turn k.turn_fits);
          each_seat = seats_stay is_told upto needs is_rows is_piece is_stage size b b' s.views id w mine others k.each_seat;
        };
        home = home_turn is_told upto needs is_rows is_piece is_stage size s s' b b' k sh.home (λ j lt. else (j + 1) (λ e. omega arith)) refl refl refl
            (stage_stays is_told upto needs is_rows is_piece is_stage size s s' b b' refl refl refl (else 0 (λ e. omega arith)) b.turn sh.home.stage)
            (λ m e. let r = mod-lt b.given k.some_cell in empty_stays is_told upto needs is_rows is_piece is_stage size s s' b b' refl (else (b.given % size + 1) (λ q. omega arith)) b.turn (sh.home.taken_cell m e));
        blocks = blocks;
        count = counts_same b b' s.views id v₀ w is_v own (λ e. refl) sh.count;
      }
