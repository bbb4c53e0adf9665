-- A seat that works on, and what single calls of the ring leave of it.
use Rattle.std.proofs.Common.{◌≡◌, ◌≢◌, ℕ, ◌+◌, ◌*◌, ◌%◌, ◌≤◌, ◌<◌, ◌⊎◌, Bool, true, false, ◌||◌, ◌++◌, ◌∷◌, [], ◌∙◌, ap, sym, subst, refl, le_refl, le_trans, arith, inl, inr}
use Rattle.std.specs.Prelude.{Option, Some, None, IfSome}
use Rattle.saber_ring.specs.declared.view.View.{View}
use Rattle.saber_ring.specs.declared.view.HeldTask.{HeldTask}
use Rattle.saber_ring.specs.declared.view.HeldTurn.{HeldTurn}
use Rattle.saber_ring.specs.declared.view.Entry.TheVariants.{Deposit}
use Rattle.saber_ring.specs.Calls.{NotLast, PutsBack, MayDeposit, Deposits, Got, Gives, Releases}
use Rattle.saber_ring.specs.declared.view.TurnState.{TurnState}
use Rattle.saber_ring.specs.declared.view.TurnState.TheVariants.{Open, TookPiece, TookMark, WonStopped, Leaving}
use Rattle.saber_ring.specs.Plays.{looked, looked_turn, turn_behind, missing, reading, without_block, without_job, with_job, with_turn, without_turn, is_stopped}
use Rattle.saber_workers.specs.Seats.{WorksOn, SameTasks, SameWork, IsHeldUp}
use Rattle.saber_workers.specs.Makings.{ReadsOn}
use Rattle.saber_workers.specs.Grows.{Grows}
use Rattle.saber_workers.proofs.Grows.{same_grows, grows_same, deposit_grows, as_before}

up1 : (n : ℕ) → n ≤ n + 1
up1 n = omega arith

up2 : (n : ℕ) → n ≤ n + 1 + 1
up2 n = omega arith

up3 : (n : ℕ) → n ≤ n + 1 + 1 + 1
up3 n = omega arith

over1 : (n : ℕ) → n < n + 1
over1 n = omega arith

over2 : (n : ℕ) → n < n + 1 + 1
over2 n = omega arith

module _ {T : Type 0} where
  pub then_works : (a b c : View T) → WorksOn a b → WorksOn b c → WorksOn a c
  then_works a b c f g = record {
    lead = g.lead ∙ f.lead;
    base = g.base ∙ f.base;
    steps = le_trans f.steps g.steps;
    seen = le_trans f.seen g.seen;
    stays = λ s. g.stays (f.stays s);
  }

  pub then_same : (a b c : View T) → SameWork a b → SameWork b c → SameWork a c
  then_same a b c f g = (g.0 ∙ f.0, g.1 ∙ f.1, g.2 ∙ f.2, g.3 ∙ f.3)

  -- a look
  pub look_works : (v w : View T) (i n : ℕ) → w ≡ looked v i n → WorksOn v w × SameWork v w
  look_works v w i n e = subst (λ z. WorksOn v z × SameWork v z) (sym e) (record { lead = refl; base = refl; steps = up1 v.saw.number; seen = le_refl v.seen; stays = λ s. s }, (refl, refl, refl, refl))

  -- a claim
  pub claim_works : (v w : View T) (i n : ℕ) (x : HeldTask T) → w ≡ with_job v i n x → WorksOn v w
  claim_works v w i n x e = subst (WorksOn v) (sym e) (record { lead = refl; base = refl; steps = up1 v.saw.number; seen = le_refl v.seen; stays = λ s. s })

  -- A seat that read a block and put it back has what it had. So has one whose read was refused, but that this was its last step
  -- that was refused.
  pub record HasBack (v w : View T) : Type 0 where
    pub goes : WorksOn v w
    pub kept : SameTasks v w
    pub turn : w.turn ≡ v.turn

  pub read_back : (size u : ℕ) (v m w : View T) → m ≡ reading (looked v (u % size + 1 + size) (4 * u + 2)) (u % size + 1 + size) (4 * u + 2) u → PutsBack size m w m.block
      → HasBack v w × (w.missed ≡ v.missed) × (w.block ≡ None)
  read_back size u v m w e b =
      let i : ℕ = u % size + 1 + size in let n : ℕ = 4 * u + 2 in
      let back : w ≡ without_block m i n = subst (PutsBack size m w) (ap (λ (z : View T). z.block) e) b in
      subst (λ z. HasBack v z × (z.missed ≡ v.missed) × (z.block ≡ None)) (sym (back ∙ ap (λ (z : View T). without_block z i n) e))
      (record { goes = record { lead = refl; base = refl; steps = up3 v.saw.number; seen = le_refl v.seen; stays = λ s. s }; kept = (refl, refl, refl); turn = refl }, refl, refl)

  pub read_held : (size u word : ℕ) (v w : View T) → word ≡ 4 * u + 3
      → (w ≡ missing v (u % size + 1 + size) word) ⊎ (w ≡ missing (looked v (u % size + 1 + size) (4 * u + 2)) (u % size + 1 + size) word)
      → HasBack v w × IsHeldUp size v w (Some u) × (w.block ≡ v.block)
  read_held size u word v w is (inl e) = subst (λ z. HasBack v z × IsHeldUp size v z (Some u) × (z.block ≡ v.block)) (sym e) (
    record { goes = record { lead = refl; base = refl; steps = up1 v.saw.number; seen = le_refl v.seen; stays = λ s. s }; kept = (refl, refl, refl); turn = refl },
    (refl, is, over1 v.saw.number),
    refl,
  )
  read_held size u word v w is (inr e) = subst (λ z. HasBack v z × IsHeldUp size v z (Some u) × (z.block ≡ v.block)) (sym e) (
    record { goes = record { lead = refl; base = refl; steps = up2 v.saw.number; seen = le_refl v.seen; stays = λ s. s }; kept = (refl, refl, refl); turn = refl },
    (refl, is, over2 v.saw.number),
    refl,
  )

  pub still_held : (size u : ℕ) (a b c : View T) → WorksOn a b → IsHeldUp size b c (Some u) → IsHeldUp size a c (Some u)
  still_held size u a b c f h = (h.0, h.1, (let up = f.steps in let last = h.2 in omega arith))

  -- a seat that read on, after blocks that it put back
  pub then_reads : (size : ℕ) (a b c : View T) (waits : Option ℕ) → WorksOn a b → SameTasks a b → b.missed ≡ a.missed → ReadsOn size b c waits → ReadsOn size a c waits
  then_reads size a b c waits f k m g = record {
    goes = then_works a b c f g.goes;
    grows = same_grows a b c false k.1 k.0 g.grows;
    saw = g.saw ∙ k.2;
    waits_for = waits_on waits g.waits_for;
    others = others_on waits g.others;
  }
    where
      waits_on : (o : Option ℕ) → IsHeldUp size b c o → IsHeldUp size a c o
      waits_on None h = h ∙ m
      waits_on (Some u) h = still_held size u a b c f h

      others_on : (o : Option ℕ) → IfSome o (λ u. NotLast b.lead) → IfSome o (λ u. NotLast a.lead)
      others_on None h = h
      others_on (Some u) h = subst NotLast f.lead h

  pub reads_none : (size : ℕ) (v : View T) → ReadsOn size v v None
  reads_none size v = record {
    goes = record { lead = refl; base = refl; steps = le_refl v.saw.number; seen = le_refl v.seen; stays = λ s. s };
    grows = as_before v v false refl refl;
    saw = refl;
    waits_for = refl;
    others = tt;
  }

  -- one that waits for a block
  pub held_reads : (size u : ℕ) (a b : View T) → WorksOn a b → SameTasks a b → IsHeldUp size a b (Some u) → NotLast a.lead → ReadsOn size a b (Some u)
  held_reads size u a b f k h others = record {
    goes = f;
    grows = as_before a b false k.1 k.0;
    saw = k.2;
    waits_for = h;
    others = others;
  }

  -- and one that hands its job in
  pub deposit_reads : {P : Type 0} (size t : ℕ) (v w : View T) (x : HeldTask T) (piece : Option P) → v.job ≡ Some x → x.task ≡ t → Deposits size t v w piece
      → ReadsOn size v w None × (w.job ≡ None) × (w.turn ≡ v.turn) × (w.block ≡ v.block)
  deposit_reads size t v w x None has is e = subst (λ z. ReadsOn size v z None × (z.job ≡ None) × (z.turn ≡ v.turn) × (z.block ≡ v.block)) (sym e) (
    record {
      goes = record { lead = refl; base = refl; steps = up1 v.saw.number; seen = le_refl v.seen; stays = λ s. s };
      grows = deposit_grows v (without_job v (t % size + 1) (8 * t + 6) t true) x true false has refl (ap (λ k. v.own ++ Deposit k true ∷ []) (sym is));
      saw = refl;
      waits_for = refl;
      others = tt;
    },
    refl,
    refl,
    refl,
  )
  deposit_reads size t v w x (Some p) has is e = subst (λ z. ReadsOn size v z None × (z.job ≡ None) × (z.turn ≡ v.turn) × (z.block ≡ v.block)) (sym e) (
    record {
      goes = record { lead = refl; base = refl; steps = up1 v.saw.number; seen = le_refl v.seen; stays = λ s. s };
      grows = deposit_grows v (without_job v (t % size + 1) (8 * t + 4) t false) x false false has refl (ap (λ k. v.own ++ Deposit k false ∷ []) (sym is));
      saw = refl;
      waits_for = refl;
      others = tt;
    },
    refl,
    refl,
    refl,
  )

pub hands_in : {T P : Type 0} (is_piece : T → ℕ → P → Type 0) (size t : ℕ) (v w : View T) (piece : Option P) (o : Option (HeldTask T)) → v.job ≡ o → MayDeposit is_piece t piece o → Deposits size t v w piece
    → ReadsOn size v w None × (w.job ≡ None) × (w.turn ≡ v.turn) × (w.block ≡ v.block)
hands_in is_piece size t v w piece None has may e = absurd may
hands_in is_piece size t v w piece (Some x) has may e = deposit_reads size t v w x piece has may.0 e

module _ {P T : Type 0} (upto : T → ℕ → T) (is_piece : T → ℕ → P → Type 0) (size k : ℕ) (v w : View T) where
  -- a piece, or the mark, is taken
  pub took_works : (piece : Option P) → Got upto is_piece size k v w piece → WorksOn v w × SameWork v w
  took_works None g = subst (λ z. WorksOn v z × SameWork v z) (sym g.3) (record { lead = refl; base = refl; steps = up2 v.saw.number; seen = le_refl v.seen; stays = λ s. s }, (refl, refl, refl, refl))
  took_works (Some p) g = subst (λ z. WorksOn v z × SameWork v z) (sym g.4) (record { lead = refl; base = refl; steps = up2 v.saw.number; seen = le_refl v.seen; stays = λ s. s }, (refl, refl, refl, refl))

-- and its task is given
pub gave_works : {T : Type 0} (size k : ℕ) (v w : View T) (turn : Option (HeldTurn T)) → Gives size k v w turn → WorksOn v w × SameWork v w
gave_works size k v w None g = absurd g
gave_works size k v w (Some h) g = subst (λ z. WorksOn v z × SameWork v z) (sym g.1) (record { lead = refl; base = refl; steps = up1 v.saw.number; seen = le_refl v.seen; stays = λ s. s }, (refl, refl, refl, refl))

or_true : (a b : Bool) → a ≡ true → (a || b) ≡ true
or_true true b e = refl
or_true false b e = absurd (let h = e in cc)

or_true2 : (a b c : Bool) → a ≡ true → ((a || b) || c) ≡ true
or_true2 a b c e = or_true (a || b) c (or_true a b e)

module _ {T : Type 0} where
  -- A seat that wins the turn, finds it held, or releases it, has the job and the block that it had, and did what it had done.
  pub record Passes (v w : View T) : Type 0 where
    pub goes : WorksOn v w
    pub job : w.job ≡ v.job
    pub block : w.block ≡ v.block
    pub own : w.own ≡ v.own
    pub missed : w.missed ≡ v.missed

  pub held_passes : (word : ℕ) (v w : View T) → v.seen ≤ turn_behind word
      → ((w ≡ looked_turn v word) × (word % 2 ≢ 0)) ⊎ ((even : ℕ) × (even % 2 ≡ 0) × (word ≢ even) × (w ≡ looked_turn (looked_turn v even) word)) → Passes v w × (w.turn ≡ v.turn)
  held_passes word v w up (inl one) = subst (λ z. Passes v z × (z.turn ≡ v.turn)) (sym one.0)
      (record { goes = record { lead = refl; base = refl; steps = up1 v.saw.number; seen = up; stays = or_true v.stopped _ }; job = refl; block = refl; own = refl; missed = refl }, refl)
  held_passes word v w up (inr two) = subst (λ z. Passes v z × (z.turn ≡ v.turn)) (sym two.3)
      (record { goes = record { lead = refl; base = refl; steps = up2 v.saw.number; seen = up; stays = or_true2 v.stopped _ _ }; job = refl; block = refl; own = refl; missed = refl }, refl)

  pub won_passes : (word : ℕ) (h : HeldTurn T) (v w : View T) → v.seen ≤ h.behind → w ≡ with_turn (looked_turn v word) word h → Passes v w
  won_passes word h v w up e = subst (Passes v) (sym e)
      (record { goes = record { lead = refl; base = refl; steps = up2 v.saw.number; seen = up; stays = or_true2 v.stopped _ _ }; job = refl; block = refl; own = refl; missed = refl })

  module _ (v w : View T) (up : v.seen ≤ w.seen) (stays : v.stopped ≡ true → w.stopped ≡ true) where
    one_step : (word : ℕ) (h : HeldTurn T) → w ≡ without_turn v word h → Passes v w × (w.turn ≡ None)
    one_step word h e = (
      record {
        goes = record { lead = ap (λ (z : View T). z.lead) e; base = ap (λ (z : View T). z.base) e; steps = subst (λ (z : View T). v.saw.number ≤ z.saw.number) (sym e) (up1 v.saw.number); seen = up; stays = stays };
        job = ap (λ (z : View T). z.job) e;
        block = ap (λ (z : View T). z.block) e;
        own = ap (λ (z : View T). z.own) e;
        missed = ap (λ (z : View T). z.missed) e;
      },
      ap (λ (z : View T). z.turn) e,
    )

    two_steps : (i n word : ℕ) (h : HeldTurn T) → w ≡ without_turn (looked v i n) word h → Passes v w × (w.turn ≡ None)
    two_steps i n word h e = (
      record {
        goes = record { lead = ap (λ (z : View T). z.lead) e; base = ap (λ (z : View T). z.base) e; steps = subst (λ (z : View T). v.saw.number ≤ z.saw.number) (sym e) (up2 v.saw.number); seen = up; stays = stays };
        job = ap (λ (z : View T). z.job) e;
        block = ap (λ (z : View T). z.block) e;
        own = ap (λ (z : View T). z.own) e;
        missed = ap (λ (z : View T). z.missed) e;
      },
      ap (λ (z : View T). z.turn) e,
    )

    release_passes : (size k : ℕ) (state : TurnState) → Releases size k v w state → Passes v w × (w.turn ≡ None)
    release_passes size k Open r = one_step _ r.0 r.2
    release_passes size k TookPiece r = two_steps _ _ _ r.0 r.2
    release_passes size k TookMark r = one_step _ r.0 r.2
    release_passes size k WonStopped r = one_step _ r.0 r.2
    release_passes size k Leaving r = one_step _ r.0 r.2

  pub released : (size k : ℕ) (v w : View T) (state : TurnState) → Releases size k v w state → (v.seen ≤ k) × (w.seen ≡ k) → w.stopped ≡ (v.stopped || is_stopped state) → Passes v w × (w.turn ≡ None)
  released size k v w state r seen stopped = release_passes v w (subst (λ z. v.seen ≤ z) (sym seen.1) seen.0) (λ s. stopped ∙ or_true v.stopped _ s) size k state r

  -- what a seat did between a win and a release
  pub passes_grow : (a b c d : View T) (s : Bool) → Passes a b → Grows b c s → Passes c d → Grows a d s
  passes_grow a b c d s f g h = grows_same a c d s h.own h.job (same_grows a b c s f.own f.job g)
