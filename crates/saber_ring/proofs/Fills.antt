-- The steps that put rows into the block of the next task keep the rule, and none can lose.
use Rattle.std.proofs.Common.{◌≡◌, ◌≢◌, ℕ, Bool, true, false, eqb, ◌-◌, ◌+◌, ◌*◌, ◌%◌, ◌<◌, ◌≤◌, List, ◌∷◌, length, get_or, set, sym, refl, ap, ◌∙◌, subst, mod-lt, le_refl, arith, length-set}
use mathlib.Core.Logic.{dite}
use mathlib.Core.Option.{none, some}
use native.Mathlib.Decide.{dec_le}
use native.Mathlib.Nat.{add-mod_right}
use lib.ListN.{get_elem?}
use prog.Atomic.{either}
use Rattle.std.specs.Prelude.{Option, Some, None, nat_lt, if◌then◌else◌}
use Rattle.std.proofs.lemmas.Bool.Decides.{nat_tests}
use Rattle.atomic_table.specs.Table.{State, Me, takes, gives, step, rest, put_back, Allows}
use Rattle.atomic_table.proofs.Lists.{exchanged, set_here, set_else}
use Rattle.saber_ring.specs.declared.view.SlotValue.{SlotValue}
use Rattle.saber_ring.specs.declared.view.SlotValue.TheVariants.{Empty, Rows}
use Rattle.saber_ring.specs.declared.view.FillState.{FillState}
use Rattle.saber_ring.specs.declared.view.FillState.TheVariants.{Waiting, Begun, Stored}
use Rattle.saber_ring.specs.declared.view.View.{View}
use Rattle.saber_ring.specs.declared.view.Lead.{Lead}
use Rattle.saber_ring.specs.declared.view.HeldTurn.{HeldTurn}
use Rattle.saber_ring.specs.Shows.{RingBlock, blank, coming, kept, read_by, block_number, RingState, Fits, begun_of, told_with, first_of_task, FillFits, BlockHome, oldest, HasLead, HasFound, IsLive, ShowsAs, Shows}
use Rattle.saber_ring.specs.Plays.{led, begun, stored, begins, stores, IsSpare, word_before}
use Rattle.saber_ring.proofs.PhaseFacts.{some_same, blank_read, coming_read, kept_read, waiting_begun}
use Rattle.saber_ring.proofs.Puts.{put, put_here}
use Rattle.saber_ring.proofs.Carries.{rows_same}
use Rattle.saber_ring.proofs.Frames.{JobOn, TurnOn, block_stays, knows_stay, live_base}
use Rattle.saber_ring.proofs.BlockFrames.{FitsAt, block_moves, block_put, block_step}
use Rattle.saber_ring.proofs.Moves.{Goes, held_below, state_room}
use Rattle.saber_ring.proofs.Releases.{Rises}

module _ {T R P S : Type 0} (is_told : T → ℕ → Type 0) (upto : T → ℕ → T) (needs : T → ℕ → ℕ) (is_rows : T → ℕ → R → Type 0) (is_piece : T → ℕ → P → Type 0) (is_stage : T → ℕ → Bool → S → Type 0) (size : ℕ) where
  abbrev St : Type 0
  St = State (SlotValue R P S) (View T)

  abbrev M : Type 0
  M = Me (SlotValue R P S) (View T)

  abbrev Rule : St → Type 0
  Rule = Shows is_told upto needs is_rows is_piece is_stage size

  abbrev As : St → RingState T → Type 0
  As s b = ShowsAs is_told upto needs is_rows is_piece is_stage size s b

  abbrev Moved : St → ℕ → ℕ → M → (ℕ → M → Type 0) → ℕ → Type 0
  Moved = Goes is_told upto needs is_rows is_piece is_stage size

  -- what other seats know of jobs and of the turn, where only blocks change
  pub same_jobs_on : (s : St) (b : RingState T) → As s b → (f : FillState T) (block' : ℕ → RingBlock) (j : ℕ) → JobOn upto b (record b { fill = f; block = block' }) j
  same_jobs_on s b sh f block' j u = ((λ e. e), λ e. (e, held_below is_told upto needs is_rows is_piece is_stage size b s sh u j e))

  pub same_turn_on : (s : St) (b : RingState T) → As s b → (f : FillState T) (block' : ℕ → RingBlock) (j : ℕ) → TurnOn upto b (record b { fill = f; block = block' }) j
  same_turn_on s b sh f block' j p = ((λ e. e), λ e. (e, refl, state_room is_told upto needs is_rows is_piece is_stage size b s sh b.turn refl j p e, λ m was. was))

  -- a seat without the turn waits for no piece
  pub no_turn_found : (b : RingState T) (j : ℕ) (x : Option (HeldTurn T)) (n : ℕ) → x ≡ None → HasFound upto b j x n
  no_turn_found b j x n is = subst (λ (z : Option (HeldTurn T)). HasFound upto b j z n) (sym is) tt

  -- the first seat that has room
  room_facts : Rises is_told upto needs is_rows is_piece is_stage size → (s : St) (b : RingState T) (sh : As s b) (id : ℕ) (v : View T) (l : Lead T) → get_elem? s.views id ≡ some v → v.lead ≡ Some l → l.fill ≡ Waiting → l.filled < first_of_task upto needs l.told v.seen + size
      → (l.filled ≡ b.filled) × (b.fill ≡ Waiting) × (b.filled < first_of_task upto needs b.told b.assembled + size)
  room_facts rises s b sh id v l at is_lead waits room =
      let k = sh.shape in let mine = k.each_seat id v at in let lead = subst (HasLead upto b id) is_lead mine.lead in let seen = mine.seen.0 in
      let more = rises b.told b.filled v.seen b.assembled k.told seen (let a = k.assembled_given in let z = k.given_filled in omega arith) in
      let same : first_of_task upto needs l.told v.seen ≡ first_of_task upto needs b.told v.seen = ap (λ (z : T). first_of_task upto needs z v.seen) lead.1 in let d = lead.2 in
      (lead.2, sym lead.4 ∙ waits, omega arith)

  -- the block of the next task was never begun
  not_begun : (b : RingState T) (x : RingBlock) → b.fill ≡ Waiting → FitsAt is_told upto needs is_rows is_piece is_stage size b b.fill b.phase b.filled x → x ≡ blank
  not_begun b blank w f = refl
  not_begun b coming w f = absurd (waiting_begun (sym w ∙ f.1))
  not_begun b kept w f = let e = ap (λ (z : FillState T). begun_of z b.filled) w in absurd (omega (arith, f))
  not_begun b (read_by j) w f = absurd (omega (arith, f))

  -- a block that no task needs from those assembled on has no reader
  unneeded_kept : Rises is_told upto needs is_rows is_piece is_stage size → (s : St) (b : RingState T) (sh : As s b) (u : ℕ) → b.fill ≡ Waiting → u < b.filled → u < first_of_task upto needs b.told b.assembled → b.block u ≡ kept
  unneeded_kept rises s b sh u w below free = go (b.block u) (sh.blocks.each_block u)
    where
      go : (x : RingBlock) → FitsAt is_told upto needs is_rows is_piece is_stage size b b.fill b.phase u x → x ≡ kept
      go blank f = let e = ap (λ (z : FillState T). begun_of z b.filled) w in absurd (omega (arith, f))
      go coming f = let e = f.0 in absurd (omega arith)
      go kept f = refl
      go (read_by j) f =
          let k = sh.shape in let v : ℕ = f.1 in let room = subst (Fits size b (length s.views) v) f.2 (k.each_task v) in let lo = room.0 in let hi = room.1 in let g = k.assembled_given in
          let more = rises b.told b.filled b.assembled v k.told (omega arith) (omega arith) in let first = f.3 in absurd (omega arith)

  -- what lies at the place of the next block
  before_fill : Rises is_told upto needs is_rows is_piece is_stage size → (s : St) (b : RingState T) (sh : As s b) (i : ℕ) → b.fill ≡ Waiting → b.filled < first_of_task upto needs b.told b.assembled + size → i ≡ b.filled % size + 1 + size
      → (get_or s.words i 0 ≡ word_before size b.filled) × ((y : SlotValue R P S) × (get_elem? s.homes i ≡ some (some y)) × IsSpare y)
  before_fill rises s b sh i w room cell = dite (dec_le size b.filled)
      (λ far. let o = old in let u : ℕ = b.filled - size in let is : b.filled ≡ u + size = omega arith in let kept_is = unneeded_kept rises s b sh u w (omega arith) (omega arith) in
      let place : i ≡ u % size + 1 + size = cell ∙ ap (λ (z : ℕ). z % size + 1 + size) is ∙ ap (λ (z : ℕ). z + 1 + size) (add-mod_right u size) in
      let h = subst (BlockHome upto is_rows (told_with b.fill b.told) (get_elem? s.homes (u % size + 1 + size)) u) kept_is (sh.blocks.each_block_home u (omega arith) (omega arith)) in
      let test : nat_lt b.filled size ≡ false = grind (arith, nat_tests) in (
        ap (λ (z : ℕ). get_or s.words z 0) place ∙ sh.blocks.each_block_word u (omega arith) (omega arith) ∙ ap (λ (z : RingBlock). 4 * u + block_number z) kept_is ∙ ap (λ (c : Bool). if c then 4 * b.filled else 4 * (b.filled - size) + 2) (sym test),
        (Rows h.0, ap (get_elem? s.homes) place ∙ h.1, tt),
      ))
      (λ near. let o = old in let u : ℕ = b.filled in let blank_is = not_begun b (b.block u) w (sh.blocks.each_block u) in
      let h = subst (BlockHome upto is_rows (told_with b.fill b.told) (get_elem? s.homes (u % size + 1 + size)) u) blank_is (sh.blocks.each_block_home u (omega arith) (omega arith)) in
      let test : nat_lt b.filled size ≡ true = grind (arith, nat_tests) in let zero : 4 * u + 0 ≡ 4 * u = omega arith in (
        ap (λ (z : ℕ). get_or s.words z 0) cell ∙ sh.blocks.each_block_word u (omega arith) (omega arith) ∙ ap (λ (z : RingBlock). 4 * u + block_number z) blank_is ∙ zero ∙ ap (λ (c : Bool). if c then 4 * b.filled else 4 * (b.filled - size) + 2) (sym test),
        (Empty, ap (get_elem? s.homes) cell ∙ h, tt),
      ))
    where
      old : oldest size b ≡ b.filled - size
      old = ap (λ (z : FillState T). begun_of z b.filled - size) w

  -- the first seat takes the block of the next task
  pub begun_at : Rises is_told upto needs is_rows is_piece is_stage size → (s : St) (b : RingState T) (sh : As s b) (id t i x : ℕ) (me : M) (l : Lead T) → get_elem? s.views id ≡ some me.0 → i ≡ t % size + 1 + size → x ≡ 4 * t + 1 → me.0.lead ≡ Some l → l.filled ≡ t → l.fill ≡ Waiting → l.filled < first_of_task upto needs l.told me.0.seen + size → IsLive me.0 → me.0.turn ≡ None
      → (get_or s.words i 0 ≡ word_before size t) × ((y : SlotValue R P S) × (get_elem? s.homes i ≡ some (some y)) × IsSpare y)
      × As (record { words = set s.words i x; homes = set s.homes i none; views = set s.views id (led me.0 i (get_or s.words i 0) (begun l)) }) (record b { fill = Begun; block = put b.block t coming })
  begun_at rises s b sh id t i x me l at cell is is_lead next waits room alive no_turn =
      let k = sh.shape in let mine = k.each_seat id me.0 at in let lead = subst (HasLead upto b id) is_lead mine.lead in let f = room_facts rises s b sh id me.0 l at is_lead waits room in let d : t ≡ b.filled = sym next ∙ f.0 in let wait = f.1 in let n : ℕ = get_or s.words i 0 in
      let before = before_fill rises s b sh i wait f.2 (cell ∙ ap (λ (z : ℕ). z % size + 1 + size) d) in let pos = k.some_cell in let w : View T = led me.0 i n (begun l) in let b' : RingState T = record b { fill = Begun; block = put b.block t coming } in
      let old : oldest size b ≡ b.filled - size = ap (λ (z : FillState T). begun_of z b.filled - size) wait in
      let was : b.block t ≡ blank = ap b.block d ∙ not_begun b (b.block b.filled) wait (sh.blocks.each_block b.filled) in let unread : (j : ℕ) → b.block t ≢ read_by j = λ j e. blank_read j (sym was ∙ e) in
      let room' = f.2 in (
        before.0 ∙ ap (word_before size) (sym d),
        before.1,
        block_step is_told upto needs is_rows is_piece is_stage size s b sh (set s.homes i none) id t i x me.0 w Begun coming at refl refl cell (length-set s.homes i none) (λ j ne. set_else s.homes i j none ne)
            (block_moves is_told upto needs is_rows is_piece is_stage size s b (set s.homes i none) (set s.views id w) t i x Begun coming pos k.words_wide sh.blocks cell is (omega arith) (omega arith) (λ u ne a z. (omega arith, omega arith)) (omega arith)
            (λ u ne g. begun_fits b u (b.block u) wait (λ e. ne (e ∙ sym d)) g) (d, refl) (ap (put b.block t coming) (sym d) ∙ put_here b.block t coming)
            (λ u ne e. ap (λ (z : FillState T). upto (told_with z b.told) (u + 1)) (sym wait)) (λ j ne. set_else s.homes i j none ne) tt)
            record {
              job = mine.job;
              turn = mine.turn;
              block = block_stays upto b b' id me.0.block (block_put is_told upto needs is_rows is_piece is_stage size b t coming id (unread id) (coming_read id)) mine.block;
              lead = (lead.0, lead.1, lead.2, lead.3, refl);
              seen = mine.seen;
              found = no_turn_found b' id me.0.turn n no_turn;
              base = live_base upto b b' id me.0 w (λ _ _. refl) alive refl mine.base;
            }
            (λ j v ne kn. knows_stay upto b b' j v (block_put is_told upto needs is_rows is_piece is_stage size b t coming j (unread j) (coming_read j)) (λ _ _. refl) (same_jobs_on s b sh Begun (put b.block t coming) j) (same_turn_on s b sh Begun (put b.block t coming) j) refl (λ e. absurd (ne (e ∙ sym lead.0))) (le_refl b.assembled) (λ e. e) kn),
      )
    where
      begun_fits : (b : RingState T) (u : ℕ) (x : RingBlock) → b.fill ≡ Waiting → u ≢ b.filled → FitsAt is_told upto needs is_rows is_piece is_stage size b b.fill b.phase u x → FitsAt is_told upto needs is_rows is_piece is_stage size b Begun b.phase u x
      begun_fits b u blank wait ne f = let e = ap (λ (z : FillState T). begun_of z b.filled) wait in omega (arith, f)
      begun_fits b u coming wait ne f = absurd (ne f.0)
      begun_fits b u kept wait ne f = let e = ap (λ (z : FillState T). begun_of z b.filled) wait in omega (arith, f)
      begun_fits b u (read_by j) wait ne f = f

  pub begins_block : Rises is_told upto needs is_rows is_piece is_stage size → (slots id : ℕ) (me : M) (i old new : ℕ) (l : Lead T) → i ≡ l.filled % size + 1 + size → old ≡ word_before size l.filled → new ≡ 4 * l.filled + 1 → me.0.lead ≡ Some l → l.fill ≡ Waiting → l.filled < first_of_task upto needs l.told me.0.seen + size → IsLive me.0 → me.0.turn ≡ None
      → Allows Rule slots id me i (λ n. either (eqb n old) new n) (begins (step slots i old new none) me)
  begins_block rises slots id me i old new l cell first second is_lead waits room alive no_turn s r wide at _ =
      let n : ℕ = get_or s.words i 0 in let ends = begins (step slots i old new none) me in let c = begun_at rises s r.0 r.1 id l.filled i new me l at cell second is_lead refl waits room alive no_turn in
      exchanged n old new (Moved s i id me ends)
      (λ hit. (
        led me.0 i n (begun l),
        takes i c.1.0,
        c.1.1,
        (record r.0 { fill = Begun; block = put r.0.block l.filled coming }, c.2),
        (λ l' is. let e : l ≡ l' = some_same l l' (sym is_lead ∙ is) in (c.1.0, hit, c.1.2, λ k. (led me.0 i n (begun (e k)), (i, c.1.0) ∷ me.1))),
      ))
      (λ miss. absurd (miss (c.0 ∙ sym first)))

  module _ (filled : T → R → T) (keep : (told : T) (d k : ℕ) (rows : R) → is_told told d → is_told (filled told rows) (d + 1) → is_rows (filled told rows) d rows → k ≤ d → upto (filled told rows) k ≡ upto told k) (whole : (told : T) (d : ℕ) → is_told told d → upto told d ≡ told) where
    -- the rows of the next task are at home
    pub stored_at : (s : St) (b : RingState T) (sh : As s b) (id t i x : ℕ) (me : M) (l : Lead T) (r : R) → get_elem? s.views id ≡ some me.0 → me.0.lead ≡ Some l → l.fill ≡ Begun → t ≡ l.filled → i ≡ t % size + 1 + size → x ≡ 4 * t + 2
        → is_rows (filled l.told r) t r → is_told (filled l.told r) (t + 1) → IsLive me.0 → me.0.turn ≡ None
        → As (record { words = set s.words i x; homes = set s.homes i (some (Rows r)); views = set s.views id (led me.0 i x (stored l (filled l.told r))) }) (record b { fill = Stored (filled l.told r); block = put b.block t kept })
    stored_at s b sh id t i x me l r at is_lead is_begun is_t cell is rows told alive no_turn =
        let k = sh.shape in let mine = k.each_seat id me.0 at in let lead = subst (HasLead upto b id) is_lead mine.lead in let d : t ≡ b.filled = is_t ∙ lead.2 in let told' : T = filled l.told r in let w : View T = led me.0 i x (stored l told') in
        let fill : b.fill ≡ Begun = sym lead.4 ∙ is_begun in let begun_is : begun_of b.fill b.filled ≡ b.filled + 1 = ap (λ (z : FillState T). begun_of z b.filled) fill in let pos = k.some_cell in
        let b' : RingState T = record b { fill = Stored told'; block = put b.block t kept } in
        let was_told : is_told l.told b.filled = subst (λ (z : T). is_told z b.filled) (sym lead.1) k.told in let now_told : is_told told' (b.filled + 1) = subst (λ (z : ℕ). is_told told' (z + 1)) d told in
        let same : (n : ℕ) → n ≤ b.filled → upto told' n ≡ upto b.told n = λ n le. keep l.told b.filled n r was_told now_told (subst (λ (z : ℕ). is_rows told' z r) d rows) le ∙ ap (λ (z : T). upto z n) lead.1 in
        let was : b.block t ≡ coming = ap b.block d ∙ coming_at b b.fill fill sh.blocks.in_hand in let unread : (j : ℕ) → b.block t ≢ read_by j = λ j e. coming_read j (sym was ∙ e) in let room = sh.blocks.room in
        let near : i < length s.homes = (let q = mod-lt t k.some_cell in let z = k.homes_wide in omega arith) in
        block_step is_told upto needs is_rows is_piece is_stage size s b sh (set s.homes i (some (Rows r))) id t i x me.0 w (Stored told') kept at refl refl cell (length-set s.homes i (some (Rows r))) (λ j ne. set_else s.homes i j (some (Rows r)) ne)
        (block_moves is_told upto needs is_rows is_piece is_stage size s b (set s.homes i (some (Rows r))) (set s.views id w) t i x (Stored told') kept pos k.words_wide sh.blocks cell is (omega arith) (omega arith) (λ u ne a z. (omega arith, omega arith)) (omega arith)
        (λ u ne g. stored_fits b told' u (b.block u) begun_is (λ e. ne (e ∙ sym d)) g) (omega arith) (ap (put b.block t kept) (sym d) ∙ put_here b.block t kept, now_told, same)
        (λ u ne e. let below : u < begun_of b.fill b.filled = subst (FitsAt is_told upto needs is_rows is_piece is_stage size b b.fill b.phase u) e (sh.blocks.each_block u) in same (u + 1) (omega arith) ∙ ap (λ (z : FillState T). upto (told_with z b.told) (u + 1)) (sym fill))
        (λ j ne. set_else s.homes i j (some (Rows r)) ne) (r, set_here s.homes i (some (Rows r)) near, subst (λ (z : T). is_rows z t r) (sym (whole told' (t + 1) told)) rows))
        record {
          job = mine.job;
          turn = mine.turn;
          block = block_stays upto b b' id me.0.block (block_put is_told upto needs is_rows is_piece is_stage size b t kept id (unread id) (kept_read id)) mine.block;
          lead = (lead.0, lead.1, lead.2, lead.3, refl);
          seen = mine.seen;
          found = no_turn_found b' id me.0.turn x no_turn;
          base = live_base upto b b' id me.0 w (λ _ _. refl) alive refl mine.base;
        }
        (λ j v ne kn. knows_stay upto b b' j v (block_put is_told upto needs is_rows is_piece is_stage size b t kept j (unread j) (kept_read j)) (λ _ _. refl) (same_jobs_on s b sh (Stored told') (put b.block t kept) j) (same_turn_on s b sh (Stored told') (put b.block t kept) j) refl (λ e. absurd (ne (e ∙ sym lead.0))) (le_refl b.assembled) (λ e. e) kn)
      where
        coming_at : (b : RingState T) (f : FillState T) → f ≡ Begun → FillFits is_told upto b.filled b.told b.block f → b.block b.filled ≡ coming
        coming_at b f is hand = subst (FillFits is_told upto b.filled b.told b.block) is hand

        stored_fits : (b : RingState T) (told' : T) (u : ℕ) (x : RingBlock) → begun_of b.fill b.filled ≡ b.filled + 1 → u ≢ b.filled → FitsAt is_told upto needs is_rows is_piece is_stage size b b.fill b.phase u x → FitsAt is_told upto needs is_rows is_piece is_stage size b (Stored told') b.phase u x
        stored_fits b told' u blank is ne f = omega (arith, f)
        stored_fits b told' u coming is ne f = absurd (ne f.0)
        stored_fits b told' u kept is ne f = omega (arith, f)
        stored_fits b told' u (read_by j) is ne f = f

    pub stores_block : (slots id : ℕ) (me : M) (i new : ℕ) (l : Lead T) (r : R) → i ≡ l.filled % size + 1 + size → new ≡ 4 * l.filled + 2 → me.0.lead ≡ Some l → l.fill ≡ Begun → me.1 ≡ (i, Rows r) ∷ rest me.1
        → is_rows (filled l.told r) l.filled r → is_told (filled l.told r) (l.filled + 1) → IsLive me.0 → me.0.turn ≡ None → Allows Rule slots id me i (λ n. new) (λ _. stores filled (step slots i new 0 none) me new)
    stores_block slots id me i new l r cell is is_lead is_begun has rows told alive no_turn s b wide at _ = (
      led me.0 i new (stored l (filled l.told r)),
      gives,
      tt,
      subst (λ (cs : List (ℕ × SlotValue R P S)). Rule record { words = set s.words i new; homes = put_back s.homes cs; views = set s.views id (led me.0 i new (stored l (filled l.told r))) }) (sym has)
          (record b.0 { fill = Stored (filled l.told r); block = put b.0.block l.filled kept }, stored_at s b.0 b.1 id l.filled i new me l r at is_lead is_begun refl cell is rows told alive no_turn),
      λ l' r' is' has'. let e : l ≡ l' = some_same l l' (sym is_lead ∙ is') in let f : r ≡ r' = rows_same i i r r' (rest me.1) (rest me.1) (sym has ∙ has') in λ k. (led me.0 i new (stored (e k) (filled (e k).told (f k))), rest me.1),
    )
