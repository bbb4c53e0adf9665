-- What stays of the rule at a step.
use Rattle.std.proofs.Common.{◌^◌, ◌≡◌, ◌≢◌, ℕ, Bool, true, false, ◌+◌, ◌*◌, ◌%◌, ◌<◌, ◌≤◌, List, length, get_or, set, sym, refl, ap, ◌∙◌, subst, ⊎_elim, mod-lt, le_trans, arith, length-set, get_or-set_other, get_or-set_same}
use mathlib.Core.Logic.{dite}
use mathlib.Core.Option.{some}
use mathlib.Core.Option as maybe
use native.Mathlib.Decide.{ℕ_discrete, dec_le}
use lib.ListN.{get_elem?}
use Rattle.std.specs.Prelude.{Option, Some, None, slice_index}
use Rattle.atomic_table.specs.Table.{State}
use Rattle.atomic_table.proofs.Lists.{at_set, one_turn}
use Rattle.saber_ring.specs.declared.view.SlotValue.{SlotValue}
use Rattle.saber_ring.specs.declared.view.SlotValue.TheVariants.{Empty}
use Rattle.saber_ring.specs.declared.view.TurnState.{TurnState}
use Rattle.saber_ring.specs.declared.view.TurnState.TheVariants.{Open, TookPiece, TookMark, WonStopped, Leaving}
use Rattle.saber_ring.specs.declared.view.View.{View}
use Rattle.saber_ring.specs.declared.view.Lead.{Lead}
use Rattle.saber_ring.specs.declared.view.HeldTask.{HeldTask}
use Rattle.saber_ring.specs.declared.view.HeldTurn.{HeldTurn}
use Rattle.saber_ring.specs.Shows.{RingPhase, idle, ready, held, done, taken, past, number_of, RingTurn, free, won_by, turn_word, is_halted, read_by, RingState, Fits, TurnFits, extra, knows_next, HasJob, HasBlock, HasTurn, HasFound, HasLead, HasBase, IsLive, live, total, Knows, Shape, AtHome, StageHome, EmptyBut, Home}
use Rattle.saber_ring.proofs.Puts.{total_set}

-- two places in one window have two cells
pub two_cells : (u t g n : ℕ) → g ≤ u → u < g + n → g ≤ t → t < g + n → u ≢ t → u % n ≢ t % n
two_cells u t g n a b c d ne e = dite (dec_le u t) (λ le. ne (one_turn u t n le (omega arith) e)) (λ gt. ne (sym (one_turn t u n (omega arith) (omega arith) (sym e))))

abbrev pub EachWord : ℕ → List ℕ → ℕ → (ℕ → RingPhase) → Type 0
EachWord size words g phase = (t : ℕ) → g ≤ t → t < g + size → slice_index words (t % size + 1) ≡ 8 * t + number_of (phase t)

pub words_move : (size : ℕ) (words : List ℕ) (i x t g g' : ℕ) (phase phase' : ℕ → RingPhase) → i ≡ t % size + 1 → 0 < size → length words ≡ 2 * size + 1 → x ≡ 8 * t + number_of (phase' t) → g' ≤ t → t < g' + size
    → ((u : ℕ) → u ≢ t → g' ≤ u → u < g' + size → (g ≤ u) × (u < g + size) × (phase' u ≡ phase u)) → EachWord size words g phase → EachWord size (set words i x) g' phase'
words_move size words i x t g g' phase phase' at pos wide is lo hi same old u a b = dite (ℕ_discrete u t)
    (λ e. subst (λ (k : ℕ). slice_index (set words i x) (k % size + 1) ≡ 8 * k + number_of (phase' k)) (sym e)
    (let r = mod-lt t pos in let near : t % size + 1 < length words = omega arith in subst (λ (k : ℕ). get_or (set words k x) (t % size + 1) 0 ≡ 8 * t + number_of (phase' t)) (sym at) (get_or-set_same words (t % size + 1) x 0 near ∙ is)))
    (λ ne. let k = same u ne a b in let apart : u % size + 1 ≢ i = λ e. two_cells u t g' size a b lo hi ne (omega arith) in get_or-set_other words i (u % size + 1) x 0 apart ∙ old u k.0 k.1 ∙ ap (λ (z : RingPhase). 8 * u + number_of z) (sym k.2))

module _ {T : Type 0} (size : ℕ) (b b' : RingState T) (n n' u : ℕ) where
  pub fits_stay : (ph : RingPhase) → n ≤ n' → (b.given ≤ u → u < b.filled → b'.given ≤ u) → (u < b.filled → u < b'.filled) → (b.filled ≤ u → b'.filled ≤ u) → (u < b.given → u < b'.given)
      → ((m : Bool) → ph ≡ taken m → Fits size b' n' u (taken m)) → Fits size b n u ph → Fits size b' n' u ph
  fits_stay idle more a c d e h k = d k
  fits_stay ready more a c d e h k = (a k.0 k.1, c k.1)
  fits_stay (held j) more a c d e h k = let l = k.2 in (a k.0 k.1, c k.1, omega arith)
  fits_stay (done m) more a c d e h k = (a k.0 k.1, c k.1)
  fits_stay (taken m) more a c d e h k = h m refl
  fits_stay past more a c d e h k = e k

module _ {T : Type 0} (upto : T → ℕ → T) (b b' : RingState T) (j : ℕ) where
  abbrev pub ToldOn : Type 0
  ToldOn = (k : ℕ) → k ≤ b.filled → upto b'.told k ≡ upto b.told k

  abbrev pub JobOn : Type 0
  JobOn = (u : ℕ) → (b'.phase u ≡ held j → b.phase u ≡ held j) × (b.phase u ≡ held j → (b'.phase u ≡ held j) × (u < b.filled))

  abbrev pub TurnOn : Type 0
  TurnOn = (p : TurnState) → (b'.turn ≡ won_by j p → b.turn ≡ won_by j p) × (b.turn ≡ won_by j p → (b'.turn ≡ won_by j p) × (b'.given ≡ b.given) × (b.given + knows_next p ≤ b.filled) × ((m : Bool) → b.phase b.given ≡ done m → b'.phase b.given ≡ done m))

  pub job_stays : (x : Option (HeldTask T)) → ToldOn → JobOn → HasJob upto b j x → HasJob upto b' j x
  job_stays None told on h = λ u e. h u ((on u).0 e)
  job_stays (Some x) told on h = let o = (on x.task).1 h.0 in (o.0, h.1 ∙ sym (told (x.task + 1) (let l = o.1 in omega arith)), λ u e. h.2 u ((on u).0 e))

  abbrev pub BlockOn : Type 0
  BlockOn = (u : ℕ) → (b'.block u ≡ read_by j → b.block u ≡ read_by j) × (b.block u ≡ read_by j → b'.block u ≡ read_by j)

  pub block_stays : (x : Option ℕ) → BlockOn → HasBlock upto b j x → HasBlock upto b' j x
  block_stays None on h = λ u e. h u ((on u).0 e)
  block_stays (Some x) on h = ((on x).1 h.0, λ u e. h.1 u ((on u).0 e))

  pub turn_stays : (x : Option (HeldTurn T)) → ToldOn → TurnOn → HasTurn upto b j x → HasTurn upto b' j x
  turn_stays None told on h = λ p e. h p ((on p).0 e)
  turn_stays (Some x) told on h = let o = (on x.state).1 h.0 in
      (o.0, h.1 ∙ sym o.1, h.2 ∙ sym (told (b.given + knows_next x.state) o.2) ∙ ap (λ (z : ℕ). upto b'.told (z + knows_next x.state)) (sym o.1))

  pub found_stays : (x : Option (HeldTurn T)) (n : ℕ) → TurnOn → HasTurn upto b j x → HasFound upto b j x n → HasFound upto b' j x n
  found_stays None n on has h = tt
  found_stays (Some x) n on has h = λ opened m e. subst (λ (z : ℕ). b'.phase z ≡ done m) (sym has.1) (((on x.state).1 has.0).3 m (ap b.phase (sym has.1) ∙ h opened m e))

  pub live_base : (v w : View T) → ToldOn → IsLive v → w.base ≡ v.base → HasBase upto b j v.base v.job v.turn v.own → HasBase upto b' j w.base w.job w.turn w.own
  live_base v w told alive same h = subst (λ (o : Option T). HasBase upto b' j o w.job w.turn w.own) (sym same) (go v.base alive h)
    where
      go : (o : Option T) → live o ≡ 1 → HasBase upto b j o v.job v.turn v.own → HasBase upto b' j o w.job w.turn w.own
      go None e h = absurd (omega arith)
      go (Some x) e h = h ∙ sym (told 0 (omega arith))

  -- what another seat knows stays so
  pub knows_stay : (v : View T) → BlockOn → ToldOn → JobOn → TurnOn → b'.lead ≡ b.lead → (j ≡ b.lead → (b'.told ≡ b.told) × (b'.filled ≡ b.filled) × (b'.out ≡ b.out) × (b'.fill ≡ b.fill)) → b.assembled ≤ b'.assembled → (is_halted b.turn ≡ true → is_halted b'.turn ≡ true) → Knows upto b j v → Knows upto b' j v
  knows_stay v blocks told job turn lead is_lead later halts k = record {
    job = job_stays v.job told job k.job;
    turn = turn_stays v.turn told turn k.turn;
    block = block_stays v.block blocks k.block;
    lead = lead_stays v.lead k.lead;
    found = found_stays v.turn v.saw.word turn k.turn k.found;
    seen = (le_trans k.seen.0 later, λ e. halts (k.seen.1 e));
    base = base_stays v.base k.base;
  }
    where
      base_stays : (x : Option T) → HasBase upto b j x v.job v.turn v.own → HasBase upto b' j x v.job v.turn v.own
      base_stays None h = h
      base_stays (Some x) h = h ∙ sym (told 0 (omega arith))

      lead_stays : (x : Option (Lead T)) → HasLead upto b j x → HasLead upto b' j x
      lead_stays None h = λ e. h (e ∙ lead)
      lead_stays (Some x) h = let o = is_lead h.0 in (h.0 ∙ sym lead, h.1 ∙ sym o.0, h.2 ∙ sym o.1, h.3 ∙ sym o.2, h.4 ∙ sym o.3)

module _ {T R P S : Type 0} (is_told : T → ℕ → Type 0) (upto : T → ℕ → T) (needs : T → ℕ → ℕ) (is_rows : T → ℕ → R → Type 0) (is_piece : T → ℕ → P → Type 0) (is_stage : T → ℕ → Bool → S → Type 0) (size : ℕ) where
  abbrev pub St : Type 0
  St = State (SlotValue R P S) (View T)

  abbrev pub ShapeOf : St → RingState T → Type 0
  ShapeOf s b = Shape is_told upto needs is_rows is_piece is_stage size s b

  abbrev pub HomeOf : St → RingState T → Type 0
  HomeOf s b = Home is_told upto needs is_rows is_piece is_stage size s b

  abbrev pub Ordered : RingState T → Type 0
  Ordered b = (b.assembled ≤ b.given) × (b.given ≤ b.filled) × (b.filled ≤ b.given + size) × (b.filled ≤ 2 ^ 42) × is_told b.told b.filled

  pub ordered : (s : St) (b : RingState T) → ShapeOf s b → Ordered b
  ordered s b sh = (sh.assembled_given, sh.given_filled, sh.filled_room, sh.filled_end, sh.told)

  -- every seat but one knows what it knew
  pub seats_stay : (b b' : RingState T) (views : List (View T)) (id : ℕ) (w : View T) → Knows upto b' id w → ((j : ℕ) (v : View T) → j ≢ id → Knows upto b j v → Knows upto b' j v)
      → ((j : ℕ) (v : View T) → get_elem? views j ≡ some v → Knows upto b j v) → (j : ℕ) (v : View T) → get_elem? (set views id w) j ≡ some v → Knows upto b' j v
  seats_stay b b' views id w mine others old j v e = ⊎_elim (λ (x : (j ≡ id) × (w ≡ v)). subst (λ (y : ℕ × View T). Knows upto b' y.0 y.1) (λ i. (sym x.0 i, x.1 i)) mine)
      (λ (x : (j ≢ id) × (get_elem? views j ≡ some v)). others j v x.0 (old j v x.1)) (at_set views id j w v e)

  pub alive_set : (views : List (View T)) (id : ℕ) (v w : View T) → get_elem? views id ≡ some v → w.base ≡ v.base → total (λ (u : View T). live u.base) (set views id w) ≡ total (λ (u : View T). live u.base) views
  alive_set views id v w at same = let p = total_set (λ (u : View T). live u.base) views id v w at in let q = ap live same in omega arith

  -- a step on the cell of t
  pub cell_step : (s : St) (b b' : RingState T) (homes' : List (maybe.Option (SlotValue R P S))) (id t i x : ℕ) (v₀ w : View T) → ShapeOf s b → get_elem? s.views id ≡ some v₀ → w.base ≡ v₀.base → b'.out ≡ b.out → i ≡ t % size + 1 → x ≡ 8 * t + number_of (b'.phase t) → length homes' ≡ length s.homes
      → b'.given ≤ t → t < b'.given + size → ((u : ℕ) → u ≢ t → b'.given ≤ u → u < b'.given + size → (b.given ≤ u) × (u < b.given + size) × (b'.phase u ≡ b.phase u))
      → Ordered b' → b'.lead ≡ b.lead → ((u : ℕ) → Fits size b' (length s.views) u (b'.phase u)) → turn_word b'.assembled b'.turn ≡ turn_word b.assembled b.turn → TurnFits b' (length s.views) b'.turn
      → Knows upto b' id w → ((j : ℕ) (v : View T) → j ≢ id → Knows upto b j v → Knows upto b' j v) → ShapeOf record { words = set s.words i x; homes = homes'; views = set s.views id w } b'
  cell_step s b b' homes' id t i x v₀ w sh is_v base out at is wide lo hi window order lead tasks word turn_fits mine others =
      let long : length (set s.views id w) ≡ length s.views = length-set s.views id w in let pos : 0 < size = sh.some_cell in let apart : 0 ≢ i = λ e. (omega arith) in
      record {
        some_cell = sh.some_cell;
        few_cells = sh.few_cells;
        words_wide = length-set s.words i x ∙ sh.words_wide;
        homes_wide = wide ∙ sh.homes_wide;
        assembled_given = order.0;
        given_filled = order.1;
        filled_room = order.2;
        filled_end = order.3;
        told = order.4;
        led = subst (λ (k : ℕ × ℕ). k.0 < k.1) (λ k. (sym lead k, sym long k)) sh.led;
        alive = alive_set s.views id v₀ w is_v base ∙ sh.alive ∙ ap (λ (z : ℕ). z + 1) (sym out);
        each_task = λ u. subst (λ (k : ℕ). Fits size b' k u (b'.phase u)) (sym long) (tasks u);
        each_word = words_move size s.words i x t b.given b'.given b.phase b'.phase at pos sh.words_wide is lo hi window sh.each_word;
        turn_is = get_or-set_other s.words i 0 x 0 apart ∙ sh.turn_is ∙ sym word;
        turn_fits = subst (λ (k : ℕ). TurnFits b' k b'.turn) (sym long) turn_fits;
        each_seat = seats_stay b b' s.views id w mine others sh.each_seat;
      }

  -- a step on the turn word
  pub turn_step : (s : St) (b b' : RingState T) (homes' : List (maybe.Option (SlotValue R P S))) (id x : ℕ) (v₀ w : View T) → ShapeOf s b → get_elem? s.views id ≡ some v₀ → w.base ≡ v₀.base → b'.out ≡ b.out → length homes' ≡ length s.homes → b'.given ≡ b.given → b'.phase ≡ b.phase
      → Ordered b' → b'.lead ≡ b.lead → ((u : ℕ) → Fits size b' (length s.views) u (b'.phase u)) → x ≡ turn_word b'.assembled b'.turn → TurnFits b' (length s.views) b'.turn
      → Knows upto b' id w → ((j : ℕ) (v : View T) → j ≢ id → Knows upto b j v → Knows upto b' j v) → ShapeOf record { words = set s.words 0 x; homes = homes'; views = set s.views id w } b'
  turn_step s b b' homes' id x v₀ w sh is_v base out wide given phase order lead tasks word turn_fits mine others =
      let long : length (set s.views id w) ≡ length s.views = length-set s.views id w in let ws : length s.words ≡ 2 * size + 1 = sh.words_wide in
      record {
        some_cell = sh.some_cell;
        few_cells = sh.few_cells;
        words_wide = length-set s.words 0 x ∙ sh.words_wide;
        homes_wide = wide ∙ sh.homes_wide;
        assembled_given = order.0;
        given_filled = order.1;
        filled_room = order.2;
        filled_end = order.3;
        told = order.4;
        led = subst (λ (k : ℕ × ℕ). k.0 < k.1) (λ k. (sym lead k, sym long k)) sh.led;
        alive = alive_set s.views id v₀ w is_v base ∙ sh.alive ∙ ap (λ (z : ℕ). z + 1) (sym out);
        each_task = λ u. subst (λ (k : ℕ). Fits size b' k u (b'.phase u)) (sym long) (tasks u);
        each_word = λ u lo hi. let lo' : b.given ≤ u = omega arith in let hi' : u < b.given + size = omega arith in get_or-set_other s.words 0 (u % size + 1) x 0 (λ e. omega arith) ∙ sh.each_word u lo' hi' ∙ ap (λ (f : ℕ → RingPhase). 8 * u + number_of (f u)) (sym phase);
        turn_is = get_or-set_same s.words 0 x 0 (omega arith) ∙ word;
        turn_fits = subst (λ (k : ℕ). TurnFits b' k b'.turn) (sym long) turn_fits;
        each_seat = seats_stay b b' s.views id w mine others sh.each_seat;
      }

  abbrev Place : Type 0
  Place = maybe.Option (maybe.Option (SlotValue R P S))

  abbrev pub AtHomeOf : T → Place → ℕ → RingPhase → Type 0
  AtHomeOf told place t ph = AtHome upto is_rows is_piece is_stage told place t ph

  abbrev pub EmptyOf : St → RingState T → RingTurn → Type 0
  EmptyOf s b x = EmptyBut is_told upto needs is_rows is_piece is_stage size s b x

  abbrev pub TakenCell : St → RingState T → Type 0
  TakenCell s b = (m : Bool) → b.phase b.given ≡ taken m → EmptyOf s b b.turn

  -- the slot of the cell of the first task that isn't given stays as it is
  pub empty_stays : (s s' : St) (b b' : RingState T) → b'.given ≡ b.given → get_elem? s'.homes (b.given % size + 1) ≡ get_elem? s.homes (b.given % size + 1) → (x : RingTurn) → EmptyOf s b x → EmptyOf s' b' x
  empty_stays s s' b b' given same x h = go x h
    where
      slot : get_elem? s.homes (b.given % size + 1) ≡ some (some Empty) → get_elem? s'.homes (b'.given % size + 1) ≡ some (some Empty)
      slot e = ap (λ (z : ℕ). get_elem? s'.homes (z % size + 1)) given ∙ same ∙ e

      go : (x : RingTurn) → EmptyOf s b x → EmptyOf s' b' x
      go (free y) h = slot h
      go (won_by j Open) h = slot h
      go (won_by j TookPiece) h = tt
      go (won_by j TookMark) h = slot h
      go (won_by j WonStopped) h = slot h
      go (won_by j Leaving) h = slot h

  -- what lies in a cell that a step does not touch
  pub lies_still : (b b' : RingState T) (n u : ℕ) (p p' : Place) → p' ≡ p → ((k : ℕ) → k ≤ b.filled → upto b'.told k ≡ upto b.told k) → (ph : RingPhase) → Fits size b n u ph → AtHomeOf b.told p u ph → AtHomeOf b'.told p' u ph
  lies_still b b' n u p p' e told idle f h = e ∙ h
  lies_still b b' n u p p' e told ready f h = e ∙ h
  lies_still b b' n u p p' e told (held j) f h = tt
  lies_still b b' n u p p' e told (done false) f h = (h.0, e ∙ h.1, subst (λ (z : T). is_piece z u h.0) (sym (told (u + 1) (let l = f.1 in omega arith))) h.2)
  lies_still b b' n u p p' e told (done true) f h = e ∙ h
  lies_still b b' n u p p' e told (taken m) f h = tt
  lies_still b b' n u p p' e told past f h = tt

  -- a step that touches the slot of the cell of t alone
  pub home_step : (s s' : St) (b b' : RingState T) (t : ℕ) → ShapeOf s b → HomeOf s b → ((j : ℕ) → j ≢ t % size + 1 → get_elem? s'.homes j ≡ get_elem? s.homes j) → b'.given ≤ t → t < b'.given + size
      → ((u : ℕ) → u ≢ t → b'.given ≤ u → u < b'.given + size → (b.given ≤ u) × (u < b.given + size) × (b'.phase u ≡ b.phase u)) → ((k : ℕ) → k ≤ b.filled → upto b'.told k ≡ upto b.told k)
      → AtHomeOf b'.told (get_elem? s'.homes (t % size + 1)) t (b'.phase t) → StageHome is_told upto needs is_rows is_piece is_stage size s' b' b'.turn → TakenCell s' b' → HomeOf s' b'
  home_step s s' b b' t sh ho else lo hi window told mine stage taken_cell = record {
    taken_cell = taken_cell;
    each_cell = λ u a z. dite (ℕ_discrete u t) (λ e. subst (λ (k : ℕ). AtHomeOf b'.told (get_elem? s'.homes (k % size + 1)) k (b'.phase k)) (sym e) mine)
        (λ ne. let k = window u ne a z in let apart : u % size ≢ t % size = two_cells u t b'.given size a z lo hi ne in subst (AtHomeOf b'.told (get_elem? s'.homes (u % size + 1)) u) (sym k.2)
        (lies_still b b' (length s.views) u (get_elem? s.homes (u % size + 1)) (get_elem? s'.homes (u % size + 1)) (else (u % size + 1) (λ e. apart (omega arith))) told (b.phase u) (sh.each_task u) (ho.each_cell u k.0 k.1)));
    stage = stage;
  }

  -- a step that touches the slot of the stage alone, or none
  pub home_turn : (s s' : St) (b b' : RingState T) → ShapeOf s b → HomeOf s b → ((j : ℕ) → j < size → get_elem? s'.homes (j + 1) ≡ get_elem? s.homes (j + 1)) → b'.given ≡ b.given → b'.phase ≡ b.phase → b'.told ≡ b.told
      → StageHome is_told upto needs is_rows is_piece is_stage size s' b' b'.turn → TakenCell s' b' → HomeOf s' b'
  home_turn s s' b b' sh ho same given phase told stage taken_cell = record {
    taken_cell = taken_cell;
    each_cell = λ u a z. subst (AtHomeOf b'.told (get_elem? s'.homes (u % size + 1)) u) (λ i. sym phase i u)
        (lies_still b b' (length s.views) u (get_elem? s.homes (u % size + 1)) (get_elem? s'.homes (u % size + 1)) (same (u % size) (mod-lt u sh.some_cell)) (λ k _. ap (λ (z : T). upto z k) told) (b.phase u) (sh.each_task u)
        (ho.each_cell u (let g : b.given ≤ u = omega arith in g) (let g : u < b.given + size = omega arith in g)));
    stage = stage;
  }

  pub stage_stays : (s s' : St) (b b' : RingState T) → b'.given ≡ b.given → b'.told ≡ b.told → b'.filled ≡ b.filled → get_elem? s'.homes 0 ≡ get_elem? s.homes 0 → (x : RingTurn)
      → StageHome is_told upto needs is_rows is_piece is_stage size s b x → StageHome is_told upto needs is_rows is_piece is_stage size s' b' x
  stage_stays s s' b b' given told fill same (free y) h = (h.0, same ∙ h.1, subst (λ (z : T × ℕ). is_stage (upto z.0 (z.1 + extra y)) z.1 y h.0) (λ i. (sym told i, sym given i)) h.2)
  stage_stays s s' b b' given told fill same (won_by j p) h = tt

  pub stage_told : (s s' : St) (b b' : RingState T) → b'.given ≡ b.given → ((k : ℕ) → k ≤ b.filled → upto b'.told k ≡ upto b.told k) → b.given ≤ b.filled → get_elem? s'.homes 0 ≡ get_elem? s.homes 0 → (n : ℕ) (x : RingTurn) → b.turn ≡ x → TurnFits b n x
      → ((u : ℕ) → Fits size b n u (b.phase u)) → StageHome is_told upto needs is_rows is_piece is_stage size s b x → StageHome is_told upto needs is_rows is_piece is_stage size s' b' x
  stage_told s s' b b' given told le same n (free false) is r tasks h = (h.0, same ∙ h.1, subst (λ (z : T × ℕ). is_stage z.0 z.1 false h.0) (λ i. ((sym (told (b.given + 0) (omega arith)) ∙ ap (λ (k : ℕ). upto b'.told (k + 0)) (sym given)) i, sym given i)) h.2)
  stage_told s s' b b' given told le same n (free true) is r tasks h =
      let k = r.1 refl in let f = subst (Fits size b n b.given) k.1 (tasks b.given) in let l = f.1 in
      (h.0, same ∙ h.1, subst (λ (z : T × ℕ). is_stage z.0 z.1 true h.0) (λ i. ((sym (told (b.given + 1) (omega arith)) ∙ ap (λ (k : ℕ). upto b'.told (k + 1)) (sym given)) i, sym given i)) h.2)
  stage_told s s' b b' given told le same n (won_by j p) is r tasks h = tt
