-- The take of the holder of the turn keeps the rule.
use Rattle.std.proofs.Common.{◌^◌, ◌≡◌, ◌≢◌, ℕ, Bool, true, false, eqb, ◌+◌, ◌*◌, ◌%◌, ◌<◌, ◌≤◌, List, ◌∷◌, length, get_or, set, sym, refl, ap, ◌∙◌, subst, le_refl, arith, length-set}
use mathlib.Core.Option.{none, some, some-injective}
use mathlib.Core.Option as maybe
use lib.ListN.{get_elem?}
use prog.Atomic.{either}
use Rattle.std.specs.Prelude.{Option, Some}
use Rattle.atomic_table.specs.Table.{State, Me, keeps, takes, step, Allows}
use Rattle.atomic_table.proofs.Lists.{exchanged, set_else}
use Rattle.saber_ring.specs.declared.view.SlotValue.{SlotValue}
use Rattle.saber_ring.specs.declared.view.SlotValue.TheVariants.{Empty, Piece}
use Rattle.saber_ring.specs.declared.view.TurnState.{TurnState}
use Rattle.saber_ring.specs.declared.view.TurnState.TheVariants.{Open, TookPiece, TookMark}
use Rattle.saber_ring.specs.declared.view.Entry.TheVariants.{Deposit, Take}
use Rattle.saber_ring.specs.declared.view.View.{View}
use Rattle.saber_ring.specs.declared.view.HeldTurn.{HeldTurn}
use Rattle.saber_ring.specs.Shows.{RingPhase, held, done, taken, number_of, won_by, turn_word, is_halted, TakenBy, RingState, Fits, TurnFits, knows_next, HasFound, IsLive, AtHome, ShowsAs, Shows, due, same, times, claims_of, deposits_of, takes_of, gives_of}
use Rattle.saber_ring.specs.Plays.{looked, taken_state, with_take, takes_piece, IsDeposited}
use Rattle.saber_ring.proofs.BlockFrames.{blocks_low, cell_low}
use Rattle.saber_ring.proofs.Puts.{put, at_put, put_here, put_else, at_length}
use Rattle.saber_ring.proofs.PhaseFacts.{false_true, number_4, number_6, some_same, done_held, won_by_same, taken_held}
use Rattle.saber_ring.proofs.Alone.{own_all}
use Rattle.saber_ring.proofs.Moves.{base_is, Goes, at_cell, looks, job_put, lead_put}
use Rattle.saber_ring.proofs.Frames.{EmptyOf, fits_stay, knows_stay, cell_step, home_step, ordered, live_base, job_stays}
use Rattle.saber_ring.proofs.Counts.{one, counts_more, due_take}
use Rattle.saber_ring.proofs.Turns.{Again, alone, holds_turn, others_not, open_by}

module _ {T R P S : Type 0} (is_told : T → ℕ → Type 0) (upto : T → ℕ → T) (needs : T → ℕ → ℕ) (is_rows : T → ℕ → R → Type 0) (is_piece : T → ℕ → P → Type 0) (is_stage : T → ℕ → Bool → S → Type 0) (size : ℕ) where
  abbrev St : Type 0
  St = State (SlotValue R P S) (View T)

  abbrev M : Type 0
  M = Me (SlotValue R P S) (View T)

  abbrev Rule : St → Type 0
  Rule = Shows is_told upto needs is_rows is_piece is_stage size

  abbrev As : St → RingState T → Type 0
  As s b = ShowsAs is_told upto needs is_rows is_piece is_stage size s b

  abbrev Moved : St → ℕ → ℕ → M → (ℕ → M → Type 0) → ℕ → Type 0
  Moved = Goes is_told upto needs is_rows is_piece is_stage size

  taken_rests : (b : RingState T) (id n : ℕ) (m : Bool) → id < n → b.phase b.given ≡ taken m → TurnFits b n (won_by id (taken_state m))
  taken_rests b id n false l e = (l, e)
  taken_rests b id n true l e = (l, e)

  took_by : (id : ℕ) (m : Bool) → TakenBy m (won_by id (taken_state m))
  took_by id false = refl
  took_by id true = refl

  pub took_word : (k id : ℕ) (m : Bool) → turn_word k (won_by id (taken_state m)) ≡ turn_word k (won_by id Open)
  took_word k id false = refl
  took_word k id true = refl

  took_open : (m : Bool) → taken_state m ≡ Open → ⊥
  took_open false e = cc
  took_open true e = cc

  took_next : (m : Bool) → knows_next (taken_state m) ≡ 1
  took_next false = refl
  took_next true = refl

  taken_empty : (s' : St) (b' : RingState T) (id : ℕ) (m : Bool) → (m ≡ true → get_elem? s'.homes (b'.given % size + 1) ≡ some (some Empty)) → EmptyOf is_told upto needs is_rows is_piece is_stage size s' b' (won_by id (taken_state m))
  taken_empty s' b' id false slot = tt
  taken_empty s' b' id true slot = slot refl

  -- take, with the slot or without
  pub taken_at : (s : St) (b : RingState T) (sh : As s b) (id i x : ℕ) (me : M) (h : HeldTurn T) (m : Bool) (homes' : List (maybe.Option (SlotValue R P S))) → get_elem? s.views id ≡ some me.0 → me.0.turn ≡ Some h → h.state ≡ Open → i ≡ b.given % size + 1
      → b.phase b.given ≡ done m → x ≡ 8 * b.given + number_of (taken m) → length homes' ≡ length s.homes → ((j : ℕ) → j ≢ i → get_elem? homes' j ≡ get_elem? s.homes j) → (m ≡ true → get_elem? homes' i ≡ some (some Empty)) → IsLive me.0
      → As record { words = set s.words i x; homes = homes'; views = set s.views id (with_take me.0 i (get_or s.words i 0) (record { behind = h.behind; state = taken_state m; told = upto b.told (b.given + 1) })) } (record b { phase = put b.phase b.given (taken m); turn = won_by id (taken_state m) })
  taken_at s b sh id i x me h m homes' at is_turn is_open cell phase is wide else mark_slot alive =
      let k = sh.shape in let mine = k.each_seat id me.0 at in let t : ℕ = b.given in let has = holds_turn is_told upto needs is_rows is_piece is_stage size s b sh id me.0 h at is_turn in let turn_now : b.turn ≡ won_by id Open = has.0 ∙ ap (won_by id) is_open in
      let room = subst (Fits size b (length s.views) t) phase (k.each_task t) in let hi : t < b.given + size = (let p = k.some_cell in omega arith) in let here = at_length s.views id me.0 at in
      let w : View T = with_take me.0 i (get_or s.words i 0) (record { behind = h.behind; state = taken_state m; told = upto b.told (b.given + 1) }) in
      let b' : RingState T = record b { phase = put b.phase t (taken m); turn = won_by id (taken_state m) } in let s' : St = record { words = set s.words i x; homes = homes'; views = set s.views id w } in
      let now : put b.phase t (taken m) t ≡ taken m = put_here b.phase t (taken m) in
      let window : (u : ℕ) → u ≢ t → b'.given ≤ u → u < b'.given + size → (b.given ≤ u) × (u < b.given + size) × (b'.phase u ≡ b.phase u) = λ u ne a z. (a, z, put_else b.phase t (taken m) u ne) in
      let not_held : (j : ℕ) → b.phase t ≢ held j = λ j e. done_held m j (sym phase ∙ e) in
      let runs : is_halted b.turn ≡ true → ⊥ = λ e. false_true (sym (ap is_halted turn_now) ∙ e) in
      let last : b.filled ≢ t = λ e. (let l = room.1 in omega arith) in
      record {
        shape = cell_step is_told upto needs is_rows is_piece is_stage size s b b' homes' id t i x me.0 w k at refl refl cell (is ∙ ap (λ (z : RingPhase). 8 * t + number_of z) (sym now)) wide (le_refl t) hi window (ordered is_told upto needs is_rows is_piece is_stage size s b k) refl
            (λ u. at_put b.phase t (taken m) (λ v y. Fits size b' (length s.views) v y) u (λ _. (refl, room.1, took_by id m))
            (λ ne. fits_stay size b b' (length s.views) (length s.views) u (b.phase u) (le_refl (length s.views)) (λ a _. a) (λ a. a) (λ a. a) (λ a. a)
            (λ n e. absurd (ne (subst (Fits size b (length s.views) u) e (k.each_task u)).0)) (k.each_task u)))
            (took_word b.assembled id m ∙ ap (turn_word b.assembled) (sym turn_now)) (taken_rests b' id (length s.views) m here now)
            record {
              job = job_stays upto b b' id me.0.job (λ _ _. refl) (job_put is_told upto needs is_rows is_piece is_stage size b s sh t (taken m) id (not_held id) (taken_held m id)) mine.job;
              turn = (refl, has.1, ap (λ (z : ℕ). upto b.told (b.given + z)) (sym (took_next m)));
              block = mine.block;
              lead = lead_put is_told upto needs is_rows is_piece is_stage size b id t (taken m) last me.0.lead mine.lead;
              seen = (mine.seen.0, λ e. absurd (runs (mine.seen.1 e)));
              found = λ opened n e. absurd (took_open m opened);
              base = live_base upto b b' id me.0 w (λ _ _. refl) alive refl mine.base;
            }
            (λ j v ne kn. knows_stay upto b b' j v (λ _. ((λ e. e), λ e. e)) (λ _ _. refl) (job_put is_told upto needs is_rows is_piece is_stage size b s sh t (taken m) j (not_held j) (taken_held m j))
            (alone is_told upto needs is_rows is_piece is_stage size b b' id j ne (others_not is_told upto needs is_rows is_piece is_stage size b id Open turn_now) (λ i p e. sym (won_by_same id i (taken_state m) p e).0)) refl (λ _. (refl, refl, refl, refl)) (le_refl b.assembled) (λ e. absurd (runs e)) kn);
        home = home_step is_told upto needs is_rows is_piece is_stage size s s' b b' t k sh.home (λ j ne. else j (λ e. ne (e ∙ cell))) (le_refl t) hi window (λ _ _. refl)
            (subst (AtHome upto is_rows is_piece is_stage b.told (get_elem? s'.homes (t % size + 1)) t) (sym now) tt) tt
            (λ n e. taken_empty s' b' id m (λ q. ap (get_elem? homes') (sym cell) ∙ mark_slot q));
        blocks = blocks_low is_told upto needs is_rows is_piece is_stage size s b b.assembled b.given b.out (won_by id (taken_state m)) b'.phase i x homes' (set s.views id w) sh.blocks sh.blocks.room
            (λ u j v reads e. put_else b.phase t (taken m) v (λ same. not_held j (ap b.phase (sym same) ∙ e)) ∙ e) (cell_low i t size cell k.some_cell) else;
        count = counts_more b b' s.views id me.0 w (Take h.behind) at refl
            (subst (λ (z : ℕ). (e : _) → one (same e (Take z)) + due b e ≡ due b' e) (sym has.1) (due_take b t (taken m) (ap claims_of phase) (λ n. ap (deposits_of n) phase) (ap (λ (z : RingPhase). takes_of z + 1) phase) (ap gives_of phase))) sh.count;
      }

  goes_back : Again is_told upto needs is_rows is_piece is_stage size → (s : St) (b : RingState T) → As s b → (id : ℕ) (v : View T) (h : HeldTurn T) → get_elem? s.views id ≡ some v → v.turn ≡ Some h → h.state ≡ Open → b.given < b.filled → h.told ≡ upto (upto b.told (b.given + 1)) h.behind
  goes_back again s b sh id v h at is_turn is_open lt =
      let has = holds_turn is_told upto needs is_rows is_piece is_stage size s b sh id v h at is_turn in
      has.2 ∙ ap (λ (z : TurnState). upto b.told (b.given + knows_next z)) is_open ∙ ap (upto b.told) (let e : b.given + 0 ≡ b.given = omega arith in e) ∙ sym (again b.told b.filled (b.given + 1) b.given sh.shape.told (omega arith) (omega arith)) ∙ ap (upto (upto b.told (b.given + 1))) (sym has.1)

  -- what the last seat deposited of a task that is done
  done_by : (s : St) (b : RingState T) → As s b → (id : ℕ) (v : View T) (m : Bool) → get_elem? s.views id ≡ some v → IsLive v → (k : ℕ) → k ≡ b.given → b.phase b.given ≡ done m → IsDeposited k m v
  done_by s b sh id v m at alive k same phase l lead out =
      let own = own_all is_told upto needs is_rows is_piece is_stage size s b id v l sh (at, lead, out, alive) in
      (ap (λ (z : ℕ). times (Deposit z m) v.own) same ∙ own (Deposit b.given m) ∙ ap (deposits_of m) phase ∙ one_mark m, ap (λ (z : ℕ). times (Take z) v.own) same ∙ own (Take b.given) ∙ ap takes_of phase)
    where
      one_mark : (m : Bool) → deposits_of m (done m) ≡ 1
      one_mark true = refl
      one_mark false = refl

  -- a holder's task that it saw done is done
  lost : (s : St) (b : RingState T) (sh : As s b) (id i : ℕ) (me : M) (h : HeldTurn T) (m : Bool) → i ≡ h.behind % size + 1 → get_elem? s.views id ≡ some me.0 → me.0.turn ≡ Some h → h.state ≡ Open → me.0.saw.word ≡ 8 * h.behind + number_of (done m) → get_or s.words i 0 ≡ 8 * h.behind + number_of (done m)
  lost s b sh id i me h m cell at is_turn opened saw =
      let k = sh.shape in let mine = k.each_seat id me.0 at in let has = holds_turn is_told upto needs is_rows is_piece is_stage size s b sh id me.0 h at is_turn in let phase = subst (λ (z : Option (HeldTurn T)). HasFound upto b id z me.0.saw.word) is_turn mine.found opened m saw in let pos = k.some_cell in let same = has.1 in
      ap (λ (z : ℕ). get_or s.words z 0) cell ∙ k.each_word h.behind (omega arith) (omega arith) ∙ ap (λ (z : RingPhase). 8 * h.behind + number_of z) phase

  pub takes_done : Again is_told upto needs is_rows is_piece is_stage size → (slots id : ℕ) (me : M) (i old new : ℕ) (h : HeldTurn T) → i ≡ h.behind % size + 1 → old ≡ 8 * h.behind + 4 → new ≡ 8 * h.behind + 5 → me.0.turn ≡ Some h → IsLive me.0
      → Allows Rule slots id me i (λ n. either (eqb n old) new n) (takes_piece upto is_piece false (step slots i old new none) me)
  takes_done again slots id me i old new h cell first second is_turn alive s r wide at _ =
      let n : ℕ = get_or s.words i 0 in let b = r.0 in let sh = r.1 in let then = takes_piece upto is_piece false (step slots i old new none) me in let has = holds_turn is_told upto needs is_rows is_piece is_stage size s b sh id me.0 h at is_turn in let same : h.behind ≡ b.given = has.1 in
      let cell' : i ≡ b.given % size + 1 = cell ∙ ap (λ (z : ℕ). z % size + 1) same in let told : T = upto b.told (b.given + 1) in
      exchanged n old new (Moved s i id me then)
      (λ hit. let c = at_cell is_told upto needs is_rows is_piece is_stage size s b sh i b.given 4 cell' (omega arith) (omega arith) in let phase : b.phase b.given ≡ done false = number_4 (b.phase b.given) c.2 in
      let o = subst (AtHome upto is_rows is_piece is_stage b.told (get_elem? s.homes (b.given % size + 1)) b.given) phase (sh.home.each_cell b.given c.0 c.1) in
      let is_open : h.state ≡ Open = open_by is_told upto needs is_rows is_piece is_stage size b (length s.views) id false phase h.state (subst (TurnFits b (length s.views)) has.0 sh.shape.turn_fits) in let f = subst (Fits size b (length s.views) b.given) phase (sh.shape.each_task b.given) in let l = f.1 in let e = sh.shape.filled_end in (
        with_take me.0 i n (record { behind = h.behind; state = TookPiece; told = told }),
        takes i (Piece o.0),
        ap (get_elem? s.homes) cell' ∙ o.1,
        ((record b { phase = put b.phase b.given (taken false); turn = won_by id (taken_state false) }), taken_at s b sh id i new me h false (set s.homes i none) at is_turn is_open cell' phase (omega arith) (length-set s.homes i none) (λ j ne. set_else s.homes i j none ne) (λ q. absurd (false_true q)) alive),
        (λ h' is'. let q : h ≡ h' = some_same h h' (sym is_turn ∙ is') in (
          (λ _. (subst (λ (z : HeldTurn T). z.behind < 2 ^ 42) q (omega arith), ap (λ (z : HeldTurn T). z.state) (sym q) ∙ is_open, done_by s b sh id me.0 false at alive h'.behind (ap (λ (z : HeldTurn T). z.behind) (sym q) ∙ same) phase, (told, ap (λ (z : HeldTurn T). z.told) (sym q) ∙ goes_back again s b sh id me.0 h at is_turn is_open f.1 ∙ ap (λ (z : HeldTurn T). upto told z.behind) q, base_is is_told upto needs is_rows is_piece is_stage size again s b sh id me.0 at alive (b.given + 1) (omega arith), (o.0, subst (λ (z : ℕ). is_piece told z o.0) (sym same ∙ ap (λ (z : HeldTurn T). z.behind) q) o.2, λ k. (with_take me.0 i n (record { behind = (q k).behind; state = TookPiece; told = told }), (i, Piece o.0) ∷ me.1))))),
          λ miss. absurd (miss hit),
        )),
      ))
      (λ miss. (looked me.0 i n, keeps, tt, looks is_told upto needs is_rows is_piece is_stage size s b i id me.1 me.0 (looked me.0 i n) sh (cell_low i h.behind size cell sh.shape.some_cell) at refl refl refl refl refl refl refl (sh.shape.each_seat id me.0 at).seen, λ h' is'. ((λ hit. absurd (miss hit)), λ _. (refl, λ opened saw. miss (lost s b sh id i me h false cell at is_turn (ap (λ (z : HeldTurn T). z.state) (some_same h h' (sym is_turn ∙ is')) ∙ opened) (saw ∙ first) ∙ sym first)))))

  pub takes_mark : Again is_told upto needs is_rows is_piece is_stage size → (slots id : ℕ) (me : M) (i old new : ℕ) (h : HeldTurn T) → i ≡ h.behind % size + 1 → old ≡ 8 * h.behind + 6 → new ≡ 8 * h.behind + 7 → me.0.turn ≡ Some h → IsLive me.0
      → Allows Rule slots id me i (λ n. either (eqb n old) new n) (takes_piece upto is_piece true (step slots i old new none) me)
  takes_mark again slots id me i old new h cell first second is_turn alive s r wide at _ =
      let n : ℕ = get_or s.words i 0 in let b = r.0 in let sh = r.1 in let then = takes_piece upto is_piece true (step slots i old new none) me in let has = holds_turn is_told upto needs is_rows is_piece is_stage size s b sh id me.0 h at is_turn in let same : h.behind ≡ b.given = has.1 in
      let cell' : i ≡ b.given % size + 1 = cell ∙ ap (λ (z : ℕ). z % size + 1) same in let told : T = upto b.told (b.given + 1) in
      exchanged n old new (Moved s i id me then)
      (λ hit. let c = at_cell is_told upto needs is_rows is_piece is_stage size s b sh i b.given 6 cell' (omega arith) (omega arith) in let phase : b.phase b.given ≡ done true = number_6 (b.phase b.given) c.2 in
      let o = subst (AtHome upto is_rows is_piece is_stage b.told (get_elem? s.homes (b.given % size + 1)) b.given) phase (sh.home.each_cell b.given c.0 c.1) in
      let is_open : h.state ≡ Open = open_by is_told upto needs is_rows is_piece is_stage size b (length s.views) id true phase h.state (subst (TurnFits b (length s.views)) has.0 sh.shape.turn_fits) in let f = subst (Fits size b (length s.views) b.given) phase (sh.shape.each_task b.given) in let l = f.1 in let e = sh.shape.filled_end in (
        with_take me.0 i n (record { behind = h.behind; state = TookMark; told = told }),
        keeps,
        tt,
        ((record b { phase = put b.phase b.given (taken true); turn = won_by id (taken_state true) }), taken_at s b sh id i new me h true s.homes at is_turn is_open cell' phase (omega arith) refl (λ j ne. refl) (λ _. ap (get_elem? s.homes) cell' ∙ o) alive),
        (λ h' is'. let q : h ≡ h' = some_same h h' (sym is_turn ∙ is') in (
          (λ _. (subst (λ (z : HeldTurn T). z.behind < 2 ^ 42) q (omega arith), ap (λ (z : HeldTurn T). z.state) (sym q) ∙ is_open, done_by s b sh id me.0 true at alive h'.behind (ap (λ (z : HeldTurn T). z.behind) (sym q) ∙ same) phase, (told, ap (λ (z : HeldTurn T). z.told) (sym q) ∙ goes_back again s b sh id me.0 h at is_turn is_open f.1 ∙ ap (λ (z : HeldTurn T). upto told z.behind) q, base_is is_told upto needs is_rows is_piece is_stage size again s b sh id me.0 at alive (b.given + 1) (omega arith), λ k. (with_take me.0 i n (record { behind = (q k).behind; state = TookMark; told = told }), me.1)))),
          λ miss. absurd (miss hit),
        )),
      ))
      (λ miss. (looked me.0 i n, keeps, tt, looks is_told upto needs is_rows is_piece is_stage size s b i id me.1 me.0 (looked me.0 i n) sh (cell_low i h.behind size cell sh.shape.some_cell) at refl refl refl refl refl refl refl (sh.shape.each_seat id me.0 at).seen, λ h' is'. ((λ hit. absurd (miss hit)), λ _. (refl, λ opened saw. miss (lost s b sh id i me h true cell at is_turn (ap (λ (z : HeldTurn T). z.state) (some_same h h' (sym is_turn ∙ is')) ∙ opened) (saw ∙ first) ∙ sym first)))))
