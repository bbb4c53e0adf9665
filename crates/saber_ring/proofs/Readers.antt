-- The steps on a block that is read keep the rule: a job's need is whole, with each block at home or with one reader.
use Rattle.std.proofs.Common.{◌≡◌, ℕ, Bool, eqb, ◌+◌, ◌*◌, ◌%◌, ◌<◌, ◌≤◌, ◌⊎◌, inl, inr, ⊎_elim, List, ◌∷◌, length, get_or, set, sym, refl, ap, ◌∙◌, subst, mod-lt, le_refl, arith, length-set}
use lib.Seq.{set-get_or}
use mathlib.Core.Logic.{dite}
use mathlib.Core.Option.{none, some}
use native.Mathlib.Decide.{ℕ_discrete}
use lib.ListN.{get_elem?}
use prog.Atomic.{either}
use Rattle.std.specs.Prelude.{Option, Some, None}
use Rattle.atomic_table.specs.Table.{State, Me, keeps, takes, gives, step, stepped, rest, put_back, Allows}
use Rattle.atomic_table.proofs.Lists.{exchanged, set_here, set_else}
use Rattle.saber_ring.specs.declared.view.SlotValue.{SlotValue}
use Rattle.saber_ring.specs.declared.view.SlotValue.TheVariants.{Rows}
use Rattle.saber_ring.specs.declared.view.FillState.{FillState}
use Rattle.saber_ring.specs.declared.view.FillState.TheVariants.{Waiting, Begun, Stored}
use Rattle.saber_ring.specs.declared.view.View.{View}
use Rattle.saber_ring.specs.declared.view.HeldTask.{HeldTask}
use Rattle.saber_ring.specs.Shows.{held, RingBlock, blank, coming, kept, read_by, block_number, RingState, Fits, begun_of, told_with, first_of_task, FillFits, BlockFits, BlockHome, oldest, HasJob, HasBlock, IsLive, live, ShowsAs, Shows}
use Rattle.saber_ring.specs.Seats.{cells_of}
use Rattle.saber_ring.specs.Laws.{HasNeedOf, IsInNeed, IsWhole, FillWord}
use Rattle.saber_ring.specs.Plays.{looked, missing, reading, without_block, sees_block, reads, returns_block, IsOthers}
use Rattle.saber_ring.proofs.PhaseFacts.{some_same, kept_read, read_same, block_2}
use Rattle.saber_ring.proofs.Puts.{put, at_put, put_here, put_else}
use Rattle.saber_ring.proofs.Frames.{knows_stay, live_base}
use Rattle.saber_ring.proofs.BlockFrames.{FitsAt, block_moves, block_put, block_step}
use Rattle.saber_ring.proofs.Alone.{spent, all_alive}
use Rattle.saber_ring.proofs.Endings.{there, no_turns}
use Rattle.saber_ring.proofs.Moves.{Goes, looked_by}
use Rattle.saber_ring.proofs.Turns.{Again}
use Rattle.saber_ring.proofs.Releases.{Rises}
use Rattle.saber_ring.proofs.Fills.{same_jobs_on, same_turn_on, no_turn_found}

pub begun_more : {T : Type 0} (f : FillState T) (d : ℕ) → d ≤ begun_of f d
begun_more Waiting d = le_refl d
begun_more Begun d = omega arith
begun_more (Stored told) d = omega arith

begun_few : {T : Type 0} (f : FillState T) (d : ℕ) → begun_of f d ≤ d + 1
begun_few Waiting d = omega arith
begun_few Begun d = le_refl (d + 1)
begun_few (Stored told) d = le_refl (d + 1)

module _ {T R P S : Type 0} (is_told : T → ℕ → Type 0) (upto : T → ℕ → T) (needs : T → ℕ → ℕ) (is_rows : T → ℕ → R → Type 0) (is_piece : T → ℕ → P → Type 0) (is_stage : T → ℕ → Bool → S → Type 0) (size : ℕ) where
  abbrev St : Type 0
  St = State (SlotValue R P S) (View T)

  abbrev M : Type 0
  M = Me (SlotValue R P S) (View T)

  abbrev Rule : St → Type 0
  Rule = Shows is_told upto needs is_rows is_piece is_stage size

  abbrev As : St → RingState T → Type 0
  As s b = ShowsAs is_told upto needs is_rows is_piece is_stage size s b

  abbrev Moved : St → ℕ → ℕ → M → (ℕ → M → Type 0) → ℕ → Type 0
  Moved = Goes is_told upto needs is_rows is_piece is_stage size

  abbrev Falls : Type 0
  Falls = Rises is_told upto needs is_rows is_piece is_stage size

  abbrev Same : Type 0
  Same = Again is_told upto needs is_rows is_piece is_stage size

  -- a block that a claimed task needs stands in the table
  in_table : Falls → (s : St) (b : RingState T) (sh : As s b) (u v j : ℕ) → b.phase v ≡ held j → first_of_task upto needs b.told v ≤ u → u ≤ v → (u < b.filled) × (oldest size b ≤ u) × (u < oldest size b + size)
  in_table rises s b sh u v j is first le =
      let k = sh.shape in let room = subst (Fits size b (length s.views) v) is (k.each_task v) in let lo = room.0 in let hi = room.1 in let g = k.assembled_given in let more = rises b.told b.filled b.assembled v k.told (omega arith) (omega arith) in
      let last = sh.blocks.room in let begun = begun_more b.fill b.filled in (omega arith, omega arith, omega arith)

  -- it is at home, or with one reader
  needed_block : (s : St) (b : RingState T) (sh : As s b) (u : ℕ) → u < b.filled → (b.block u ≡ kept) ⊎ ((j : ℕ) × (b.block u ≡ read_by j))
  needed_block s b sh u below = go (b.block u) (sh.blocks.each_block u)
    where
      go : (x : RingBlock) → FitsAt is_told upto needs is_rows is_piece is_stage size b b.fill b.phase u x → (x ≡ kept) ⊎ ((j : ℕ) × (x ≡ read_by j))
      go blank f = let more = begun_more b.fill b.filled in absurd (omega (arith, f))
      go coming f = let e = f.0 in absurd (omega arith)
      go kept f = inl refl
      go (read_by j) f = inr (j, refl)

  -- what a seat's job tells
  job_facts : Same → (s : St) (b : RingState T) (sh : As s b) (id : ℕ) (v : View T) (x : HeldTask T) → get_elem? s.views id ≡ some v → v.job ≡ Some x
      → (b.phase x.task ≡ held id) × ((k : ℕ) → k ≤ x.task + 1 → upto x.told k ≡ upto b.told k) × (x.task < b.filled)
  job_facts again s b sh id v x at is =
      let k = sh.shape in let job = subst (HasJob upto b id) is (k.each_seat id v at).job in let room = subst (Fits size b (length s.views) x.task) job.0 (k.each_task x.task) in let hi = room.1 in
      (job.0, (λ n le. ap (λ (z : T). upto z n) job.1 ∙ again b.told b.filled (x.task + 1) n k.told le (omega arith)), room.1)

  -- the data of the blocks at home are those of the filled tasks
  told_as : (s : St) (b : RingState T) (sh : As s b) (k : ℕ) → k ≤ b.filled → upto (told_with b.fill b.told) k ≡ upto b.told k
  told_as s b sh k le = go b.fill sh.blocks.in_hand
    where
      go : (f : FillState T) → FillFits is_told upto b.filled b.told b.block f → upto (told_with f b.told) k ≡ upto b.told k
      go Waiting h = refl
      go Begun h = refl
      go (Stored next) h = h.2 k le

  hand_put : (b : RingState T) (u : ℕ) (y : RingBlock) → u < b.filled → (f : FillState T) → FillFits is_told upto b.filled b.told b.block f → FillFits is_told upto b.filled b.told (put b.block u y) f
  hand_put b u y below Waiting h = tt
  hand_put b u y below Begun h = put_else b.block u y b.filled (λ e. omega arith) ∙ h
  hand_put b u y below (Stored next) h = (put_else b.block u y b.filled (λ e. omega arith) ∙ h.0, h.1, h.2)

  -- the last seat, with no block out, finds none out
  others_out : (s : St) (b : RingState T) (sh : As s b) (id : ℕ) (v : View T) → get_elem? s.views id ≡ some v → IsLive v → (u j : ℕ) → b.block u ≡ read_by j → IsOthers v
  others_out s b sh id v at alive u j is l lead none_out out =
      let k = sh.shape in let f = subst (FitsAt is_told upto needs is_rows is_piece is_stage size b b.fill b.phase u) is (sh.blocks.each_block u) in let room = subst (Fits size b (length s.views) f.1) f.2 (k.each_task f.1) in
      dite (ℕ_discrete j id)
      (λ same. subst (HasBlock upto b id) none_out (k.each_seat id v at).block u (is ∙ ap read_by same))
      (λ ne. let o = there is_told upto needs is_rows is_piece is_stage size s.views j room.2 in let kn = k.each_seat j o.0 o.1 in
      let no = no_turns is_told upto needs is_rows is_piece is_stage size (λ (w : View T). live w.base) s.views id j v o.0 at alive (all_alive is_told upto needs is_rows is_piece is_stage size s b id v l sh (at, lead, out, alive)) o.1 ne in
      subst (HasJob upto b j) (spent is_told upto needs is_rows is_piece is_stage size b j o.0 no kn.base).0 kn.job f.1 f.2)

  -- the word of a block that a job needs
  word_shown : Falls → Same → (s : St) (b : RingState T) (sh : As s b) (id : ℕ) (v : View T) (x : HeldTask T) (u i : ℕ) → get_elem? s.views id ≡ some v → v.job ≡ Some x → IsLive v → first_of_task upto needs x.told x.task ≤ u → u ≤ x.task → i ≡ u % size + 1 + size
      → ((b.block u ≡ kept) × (get_or s.words i 0 ≡ 4 * u + 2)) ⊎ ((get_or s.words i 0 ≡ 4 * u + 3) × IsOthers v)
  word_shown rises again s b sh id v x u i at is alive first le cell =
      let j = job_facts again s b sh id v x at is in let lo : first_of_task upto needs b.told x.task ≤ u = subst (λ (z : T). needs z x.task ≤ u) (j.1 x.task (omega arith)) first in
      let t = in_table rises s b sh u x.task id j.0 lo le in let word = ap (λ (z : ℕ). get_or s.words z 0) cell ∙ sh.blocks.each_block_word u t.1 t.2 in
      ⊎_elim (λ (e : b.block u ≡ kept). inl (e, word ∙ ap (λ (z : RingBlock). 4 * u + block_number z) e))
      (λ (e : (j : ℕ) × (b.block u ≡ read_by j)). inr (word ∙ ap (λ (z : RingBlock). 4 * u + block_number z) e.1, others_out s b sh id v at alive u e.0 e.1))
      (needed_block s b sh u t.0)

  stays_so : (s : St) (b : RingState T) (i id : ℕ) (cs : List (ℕ × SlotValue R P S)) (v w : View T) → As s b → get_elem? s.views id ≡ some v → v.turn ≡ None → w.job ≡ v.job → w.block ≡ v.block → w.turn ≡ v.turn → w.lead ≡ v.lead → w.base ≡ v.base → w.own ≡ v.own → w.seen ≡ v.seen → w.stopped ≡ v.stopped
      → Rule (stepped s i (get_or s.words i 0) id cs w keeps)
  stays_so s b i id cs v w sh at no_turn job block turn lead base own seen stopped =
      let mine = sh.shape.each_seat id v at in
      subst (λ (ws : List ℕ). Rule record { words = ws; homes = s.homes; views = set s.views id w }) (sym (set-get_or s.words i 0)) (
        b,
        looked_by is_told upto needs is_rows is_piece is_stage size s b id v w sh at job block turn lead base own (no_turn_found is_told upto needs is_rows is_piece is_stage size b id w.turn w.saw.word (turn ∙ no_turn))
            ((let a = mine.seen.0 in omega arith), λ e. mine.seen.1 (sym stopped ∙ e)),
      )

  -- a look at a block
  pub looks_at_block : Falls → Same → (slots id : ℕ) (me : M) (i : ℕ) → me.0.turn ≡ None → IsLive me.0 → Allows Rule slots id me i (λ n. n) (sees_block upto needs (step slots i 0 0 none) me)
  looks_at_block rises again slots id me i no_turn alive s r wide at _ =
      let n : ℕ = get_or s.words i 0 in let b = r.0 in let sh = r.1 in let homes = sh.shape.homes_wide in let cells : cells_of slots ≡ size = omega arith in
      let shown : (x : HeldTask T) (u : ℕ) → me.0.job ≡ Some x → first_of_task upto needs x.told x.task ≤ u → u ≤ x.task → i ≡ u % cells_of slots + 1 + cells_of slots → ((b.block u ≡ kept) × (n ≡ 4 * u + 2)) ⊎ ((n ≡ 4 * u + 3) × IsOthers me.0) =
      λ x u job first le place. word_shown rises again s b sh id me.0 x u i at job alive first le (place ∙ ap (λ (z : ℕ). u % z + 1 + z) cells) in
      dite (ℕ_discrete (n % 4) 3)
      (λ out. (
        missing me.0 i n,
        keeps,
        tt,
        stays_so s b i id me.1 me.0 (missing me.0 i n) sh at no_turn refl refl refl refl refl refl refl refl,
        λ x u job first le place.
            ((λ e. absurd (omega arith)), λ ne. ⊎_elim (λ (e : (b.block u ≡ kept) × (n ≡ 4 * u + 2)). absurd (ne e.1)) (λ (e : (n ≡ 4 * u + 3) × IsOthers me.0). (e.0, refl, e.1)) (shown x u job first le place)),
      ))
      (λ not. (
        looked me.0 i n,
        keeps,
        tt,
        stays_so s b i id me.1 me.0 (looked me.0 i n) sh at no_turn refl refl refl refl refl refl refl refl,
        λ x u job first le place.
            ((λ e. refl), λ ne. ⊎_elim (λ (e : (b.block u ≡ kept) × (n ≡ 4 * u + 2)). absurd (ne e.1)) (λ (e : (n ≡ 4 * u + 3) × IsOthers me.0). let q = e.0 in absurd (not (omega arith))) (shown x u job first le place)),
      ))

  -- a block goes to a reader
  pub read_at : Falls → Same → (s : St) (b : RingState T) (sh : As s b) (id u i x : ℕ) (me : M) (h : HeldTask T) → get_elem? s.views id ≡ some me.0 → me.0.job ≡ Some h → me.0.block ≡ None → me.0.turn ≡ None → IsLive me.0 → first_of_task upto needs h.told h.task ≤ u → u ≤ h.task → i ≡ u % size + 1 + size → x ≡ 4 * u + 3 → get_or s.words i 0 ≡ 4 * u + 2
      → (r : R) × is_rows (upto h.told (u + 1)) u r × (get_elem? s.homes i ≡ some (some (Rows r)))
      × As (record { words = set s.words i x; homes = set s.homes i none; views = set s.views id (reading me.0 i (get_or s.words i 0) u) }) (record b { block = put b.block u (read_by id) })
  read_at rises again s b sh id u i x me h at is_job no_block no_turn alive first le cell is was =
      let k = sh.shape in let mine = k.each_seat id me.0 at in let j = job_facts again s b sh id me.0 h at is_job in let lo : first_of_task upto needs b.told h.task ≤ u = subst (λ (z : T). needs z h.task ≤ u) (j.1 h.task (omega arith)) first in
      let t = in_table rises s b sh u h.task id j.0 lo le in let word = ap (λ (z : ℕ). get_or s.words z 0) cell ∙ sh.blocks.each_block_word u t.1 t.2 in
      let kept_is : b.block u ≡ kept = block_2 (b.block u) (omega arith) in let home = subst (BlockHome upto is_rows (told_with b.fill b.told) (get_elem? s.homes (u % size + 1 + size)) u) kept_is (sh.blocks.each_block_home u t.1 t.2) in
      let n : ℕ = get_or s.words i 0 in let w : View T = reading me.0 i n u in let b' : RingState T = record b { fill = b.fill; block = put b.block u (read_by id) } in let below = t.0 in
      let free : HasBlock upto b id None = subst (HasBlock upto b id) no_block mine.block in (
        home.0,
        subst (λ (z : T). is_rows z u home.0) (told_as s b sh (u + 1) (omega arith) ∙ sym (j.1 (u + 1) (omega arith))) home.2,
        ap (get_elem? s.homes) cell ∙ home.1,
        block_step is_told upto needs is_rows is_piece is_stage size s b sh (set s.homes i none) id u i x me.0 w b.fill (read_by id) at refl refl cell (length-set s.homes i none) (λ y ne. set_else s.homes i y none ne)
            (block_moves is_told upto needs is_rows is_piece is_stage size s b (set s.homes i none) (set s.views id w) u i x b.fill (read_by id) k.some_cell k.words_wide sh.blocks cell is t.1 t.2 (λ v ne a z. (a, z)) sh.blocks.room
            (λ v ne f. f) (t.0, h.task, j.0, lo, le) (hand_put b u (read_by id) t.0 b.fill sh.blocks.in_hand) (λ v ne e. refl) (λ y ne. set_else s.homes i y none ne) tt)
            record {
              job = mine.job;
              turn = mine.turn;
              block = (put_here b.block u (read_by id), λ v. at_put b.block u (read_by id) (λ y z. z ≡ read_by id → y ≡ u) v (λ e _. refl) (λ _ e. absurd (free v e)));
              lead = mine.lead;
              seen = mine.seen;
              found = no_turn_found is_told upto needs is_rows is_piece is_stage size b' id me.0.turn n no_turn;
              base = live_base upto b b' id me.0 w (λ _ _. refl) alive refl mine.base;
            }
            (λ y v ne kn. knows_stay upto b b' y v (block_put is_told upto needs is_rows is_piece is_stage size b u (read_by id) y (λ e. kept_read y (sym kept_is ∙ e)) (λ e. ne (read_same id y e))) (λ _ _. refl) (same_jobs_on is_told upto needs is_rows is_piece is_stage size s b sh b.fill (put b.block u (read_by id)) y)
            (same_turn_on is_told upto needs is_rows is_piece is_stage size s b sh b.fill (put b.block u (read_by id)) y) refl (λ _. (refl, refl, refl, refl)) (le_refl b.assembled) (λ e. e) kn),
      )

  pub reads_block : Falls → Same → (slots id : ℕ) (me : M) (u i old new : ℕ) (h : HeldTask T) → me.0.job ≡ Some h → me.0.block ≡ None → me.0.turn ≡ None → IsLive me.0 → first_of_task upto needs h.told h.task ≤ u → u ≤ h.task → i ≡ u % size + 1 + size → old ≡ 4 * u + 2 → new ≡ 4 * u + 3
      → Allows Rule slots id me i (λ n. either (eqb n old) new n) (reads upto is_rows (step slots i old new none) me)
  reads_block rises again slots id me u i old new h is_job no_block no_turn alive first le cell one two s r wide at _ =
      let n : ℕ = get_or s.words i 0 in let b = r.0 in let sh = r.1 in let ends = reads upto is_rows (step slots i old new none) me in
      exchanged n old new (Moved s i id me ends)
      (λ hit. let c = read_at rises again s b sh id u i new me h at is_job no_block no_turn alive first le cell two (hit ∙ one) in (
        reading me.0 i n u,
        takes i (Rows c.0),
        c.2,
        (record b { block = put b.block u (read_by id) }, c.3),
        λ v h' is' old'. let same : u ≡ v = omega arith in let e : h ≡ h' = some_same h h' (sym is_job ∙ is') in
            ((λ _. (c.0, subst (λ (z : HeldTask T × ℕ). is_rows (upto z.0.told (z.1 + 1)) z.1 c.0) (λ k. (e k, same k)) c.1, λ k. (reading me.0 i n (same k), (i, Rows c.0) ∷ me.1))), λ miss. absurd (miss hit)),
      ))
      (λ miss. (
        missing me.0 i n,
        keeps,
        tt,
        stays_so s b i id me.1 me.0 (missing me.0 i n) sh at no_turn refl refl refl refl refl refl refl refl,
        λ v h' is' old'. let same : u ≡ v = omega arith in (
          (λ hit. absurd (miss hit)),
          λ _. ⊎_elim (λ (e : (b.block u ≡ kept) × (n ≡ 4 * u + 2)). absurd (miss (e.1 ∙ sym one))) (λ (e : (n ≡ 4 * u + 3) × IsOthers me.0). (e.0 ∙ ap (λ (z : ℕ). 4 * z + 3) same, refl, e.1)) (word_shown rises again s b sh id me.0 h u i at is_job alive first le cell),
        ),
      ))

  -- a block comes back from its reader
  pub returned_at : Falls → Same → (s : St) (b : RingState T) (sh : As s b) (id u i x : ℕ) (me : M) (h : HeldTask T) (r : R) → get_elem? s.views id ≡ some me.0 → me.0.job ≡ Some h → me.0.block ≡ Some u → me.0.turn ≡ None → IsLive me.0 → i ≡ u % size + 1 + size → x ≡ 4 * u + 2 → is_rows (upto h.told (u + 1)) u r
      → As (record { words = set s.words i x; homes = set s.homes i (some (Rows r)); views = set s.views id (without_block me.0 i x) }) (record b { block = put b.block u kept })
  returned_at rises again s b sh id u i x me h r at is_job is_block no_turn alive cell is rows =
      let k = sh.shape in let mine = k.each_seat id me.0 at in let j = job_facts again s b sh id me.0 h at is_job in let reads_it = subst (HasBlock upto b id) is_block mine.block in
      let f = subst (FitsAt is_told upto needs is_rows is_piece is_stage size b b.fill b.phase u) reads_it.0 (sh.blocks.each_block u) in let t = in_table rises s b sh u f.1 id f.2 f.3 f.4 in
      let same : f.1 ≡ h.task = (subst (HasJob upto b id) is_job mine.job).2 f.1 f.2 in let le : u ≤ h.task = (let q = f.4 in omega arith) in let below = t.0 in
      let w : View T = without_block me.0 i x in let b' : RingState T = record b { fill = b.fill; block = put b.block u kept } in let more = begun_more b.fill b.filled in
      let near : i < length s.homes = (let q = mod-lt u k.some_cell in let z = k.homes_wide in omega arith) in
      block_step is_told upto needs is_rows is_piece is_stage size s b sh (set s.homes i (some (Rows r))) id u i x me.0 w b.fill kept at refl refl cell (length-set s.homes i (some (Rows r))) (λ y ne. set_else s.homes i y (some (Rows r)) ne)
      (block_moves is_told upto needs is_rows is_piece is_stage size s b (set s.homes i (some (Rows r))) (set s.views id w) u i x b.fill kept k.some_cell k.words_wide sh.blocks cell is t.1 t.2 (λ v ne a z. (a, z)) sh.blocks.room
      (λ v ne g. g) (omega arith) (hand_put b u kept t.0 b.fill sh.blocks.in_hand) (λ v ne e. refl) (λ y ne. set_else s.homes i y (some (Rows r)) ne)
      (r, set_here s.homes i (some (Rows r)) near, subst (λ (z : T). is_rows z u r) (j.1 (u + 1) (omega arith) ∙ sym (told_as s b sh (u + 1) (omega arith))) rows))
      record {
        job = mine.job;
        turn = mine.turn;
        block = λ v. at_put b.block u kept (λ y z. z ≡ read_by id → ⊥) v (λ _ e. kept_read id e) (λ ne e. ne (reads_it.1 v e));
        lead = mine.lead;
        seen = mine.seen;
        found = no_turn_found is_told upto needs is_rows is_piece is_stage size b' id me.0.turn x no_turn;
        base = live_base upto b b' id me.0 w (λ _ _. refl) alive refl mine.base;
      }
      (λ y v ne kn. knows_stay upto b b' y v (block_put is_told upto needs is_rows is_piece is_stage size b u kept y (λ e. ne (read_same id y (sym reads_it.0 ∙ e))) (kept_read y)) (λ _ _. refl) (same_jobs_on is_told upto needs is_rows is_piece is_stage size s b sh b.fill (put b.block u kept) y)
      (same_turn_on is_told upto needs is_rows is_piece is_stage size s b sh b.fill (put b.block u kept) y) refl (λ _. (refl, refl, refl, refl)) (le_refl b.assembled) (λ e. e) kn)

  pub returns_cell : Falls → Same → (slots id : ℕ) (me : M) (u i new : ℕ) (h : HeldTask T) (r : R) → me.0.job ≡ Some h → me.0.block ≡ Some u → me.0.turn ≡ None → IsLive me.0 → i ≡ u % size + 1 + size → new ≡ 4 * u + 2 → is_rows (upto h.told (u + 1)) u r → me.1 ≡ (i, Rows r) ∷ rest me.1
      → Allows Rule slots id me i (λ n. new) (λ _. returns_block (step slots i new 0 none) me new)
  returns_cell rises again slots id me u i new h r is_job is_block no_turn alive cell is rows has s b wide at _ = (
    without_block me.0 i new,
    gives,
    tt,
    subst (λ (cs : List (ℕ × SlotValue R P S)). Rule record { words = set s.words i new; homes = put_back s.homes cs; views = set s.views id (without_block me.0 i new) }) (sym has) (record b.0 { block = put b.0.block u kept }, returned_at rises again s b.0 b.1 id u i new me h r at is_job is_block no_turn alive cell is rows),
    refl,
  )

  -- a seat that has a block in its view is its reader
  reads_it : (b : RingState T) (i u : ℕ) (o : Option ℕ) → o ≡ Some u → HasBlock upto b i o → b.block u ≡ read_by i
  reads_it b i u o is h = (subst (HasBlock upto b i) is h).0

  -- a reader's view has the block
  view_of : (s : St) (b : RingState T) (sh : As s b) (u j : ℕ) → b.block u ≡ read_by j → (v : View T) × (get_elem? s.views j ≡ some v) × (v.block ≡ Some u)
  view_of s b sh u j is =
      let k = sh.shape in let f = subst (FitsAt is_told upto needs is_rows is_piece is_stage size b b.fill b.phase u) is (sh.blocks.each_block u) in let room = subst (Fits size b (length s.views) f.1) f.2 (k.each_task f.1) in
      let o = there is_told upto needs is_rows is_piece is_stage size s.views j room.2 in (o.0, o.1, go o.0.block (k.each_seat j o.0 o.1).block)
    where
      go : (x : Option ℕ) → HasBlock upto b j x → x ≡ Some u
      go None h = absurd (h u is)
      go (Some x) h = ap (λ (z : ℕ). Some z) (sym (h.1 u is))

  -- and its job needs the block
  need_of : (s : St) (b : RingState T) (sh : As s b) (u j : ℕ) → b.block u ≡ read_by j → (v : View T) → get_elem? s.views j ≡ some v
      → HasNeedOf {R = R} {P = P} {S = S} is_told upto needs is_rows is_piece is_stage b v u
  need_of s b sh u j is v at =
      let k = sh.shape in let f = subst (FitsAt is_told upto needs is_rows is_piece is_stage size b b.fill b.phase u) is (sh.blocks.each_block u) in
      go v.job (k.each_seat j v at).job f.1 f.2 f.3 f.4
    where
      go : (x : Option (HeldTask T)) → HasJob upto b j x → (t : ℕ) → b.phase t ≡ held j → first_of_task upto needs b.told t ≤ u → u ≤ t
          → (y : HeldTask T) × (x ≡ Some y) × (first_of_task upto needs b.told y.task ≤ u) × (u ≤ y.task)
      go None h t hold low high = absurd (h t hold)
      go (Some x) h t hold low high = let same = h.2 t hold in (x, refl, subst (λ z. first_of_task upto needs b.told z ≤ u) same low, subst (λ z. u ≤ z) same high)

  pub needs_are_whole : Falls → (s : St) (b : RingState T) (sh : As s b)
      → (b.filled ≤ first_of_task upto needs b.told b.assembled + size)
      × ((u : ℕ) → IsInNeed {R = R} {P = P} {S = S} is_told upto needs is_rows is_piece is_stage b u → IsWhole is_told upto needs is_rows is_piece is_stage size s b u)
      × ((t u : ℕ) → b.assembled ≤ t → t < b.filled → first_of_task upto needs b.told t ≤ u → u ≤ t → IsWhole is_told upto needs is_rows is_piece is_stage size s b u)
  needs_are_whole rises s b sh =
      let k = sh.shape in let last = sh.blocks.room in let begun = begun_more b.fill b.filled in
      let each : (u : ℕ) → IsInNeed {R = R} {P = P} {S = S} is_told upto needs is_rows is_piece is_stage b u → IsWhole is_told upto needs is_rows is_piece is_stage size s b u =
      λ u need. let from = need.0 in let below = need.1 in let low : oldest size b ≤ u = omega arith in let near : u < oldest size b + size = omega arith in
      let word = sh.blocks.each_block_word u low near in
      ⊎_elim (λ (e : b.block u ≡ kept). let home = subst (BlockHome upto is_rows (told_with b.fill b.told) (get_elem? s.homes (u % size + 1 + size)) u) e (sh.blocks.each_block_home u low near) in
      inl (word ∙ ap (λ (z : RingBlock). 4 * u + block_number z) e, (home.0, home.1, subst (λ (z : T). is_rows z u home.0) (told_as s b sh (u + 1) (omega arith)) home.2)))
      (λ (e : (j : ℕ) × (b.block u ≡ read_by j)). let o = view_of s b sh u e.0 e.1 in
      inr (word ∙ ap (λ (z : RingBlock). 4 * u + block_number z) e.1, (e.0, o.0, o.1, o.2, (λ i w at is. read_same e.0 i (sym e.1 ∙ reads_it b i u w.block is (k.each_seat i w at).block)), need_of s b sh u e.0 e.1 o.0 o.1)))
      (needed_block s b sh u below) in (
        omega arith,
        each,
        λ t u lo hi first le. let more = rises b.told b.filled b.assembled t k.told lo (omega arith) in each u (omega arith, omega arith),
      )

  -- the word of a block shows where it is
  word_is : (s : St) (b : RingState T) (sh : As s b) (u : ℕ) → oldest size b ≤ u → u < oldest size b + size → (z : RingBlock) → b.block u ≡ z → get_or s.words (u % size + 1 + size) 0 ≡ 4 * u + block_number z
  word_is s b sh u low near z is = sh.blocks.each_block_word u low near ∙ ap (λ (y : RingBlock). 4 * u + block_number y) is

  -- the block of the next task, by how far its fill is
  fill_word : (s : St) (b : RingState T) (sh : As s b) (f : FillState T) → b.fill ≡ f → FillWord {R = R} {P = P} {S = S} is_told upto needs is_rows is_piece is_stage size s b.filled f
  fill_word s b sh Waiting is = tt
  fill_word s b sh Begun is =
      let k = sh.shape.some_cell in let more : begun_of b.fill b.filled ≡ b.filled + 1 = ap (λ (z : FillState T). begun_of z b.filled) is in
      word_is s b sh b.filled (omega arith) (omega arith) coming (subst (FillFits is_told upto b.filled b.told b.block) is sh.blocks.in_hand)
  fill_word s b sh (Stored told) is =
      let k = sh.shape.some_cell in let more : begun_of b.fill b.filled ≡ b.filled + 1 = ap (λ (z : FillState T). begun_of z b.filled) is in
      word_is s b sh b.filled (omega arith) (omega arith) kept (subst (FillFits is_told upto b.filled b.told b.block) is sh.blocks.in_hand).0

  -- a block that was not begun is blank
  not_begun : (b : RingState T) (u : ℕ) (z : RingBlock) → BlockFits upto needs b.filled b.told b.fill b.phase u z → begun_of b.fill b.filled ≤ u → z ≡ blank
  not_begun b u blank fits le = refl
  not_begun b u coming fits le = let more : begun_of b.fill b.filled ≡ b.filled + 1 = ap (λ (z : FillState T). begun_of z b.filled) fits.1 in let at = fits.0 in absurd (omega arith)
  not_begun b u kept fits le = absurd (omega arith)
  not_begun b u (read_by j) fits le = let below = fits.0 in let more = begun_more b.fill b.filled in absurd (omega arith)

  pub block_words_are : (s : St) (b : RingState T) (sh : As s b)
      → ((u : ℕ) → oldest size b ≤ u → u < b.filled → (get_or s.words (u % size + 1 + size) 0 ≡ 4 * u + 2) ⊎ (get_or s.words (u % size + 1 + size) 0 ≡ 4 * u + 3))
      × FillWord {R = R} {P = P} {S = S} is_told upto needs is_rows is_piece is_stage size s b.filled b.fill
      × ((u : ℕ) → begun_of b.fill b.filled ≤ u → u < size → get_or s.words (u % size + 1 + size) 0 ≡ 4 * u)
  block_words_are s b sh =
      let more = begun_more b.fill b.filled in let few = begun_few b.fill b.filled in let pos = sh.shape.some_cell in (
        (λ u low below. ⊎_elim (λ (e : b.block u ≡ kept). inl (word_is s b sh u low (omega arith) kept e)) (λ (e : (j : ℕ) × (b.block u ≡ read_by j)). inr (word_is s b sh u low (omega arith) (read_by e.0) e.1)) (needed_block s b sh u below)),
        fill_word s b sh b.fill refl,
        (λ u begun below. word_is s b sh u (omega arith) (omega arith) blank (not_begun b u (b.block u) (sh.blocks.each_block u) begun) ∙ (let z : 4 * u + 0 ≡ 4 * u = omega arith in z)),
      )
