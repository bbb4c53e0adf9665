-- What the first seat's entries say of the ring while no other seat is out.
use Rattle.std.proofs.Common.{◌≡◌, ℕ, Bool, ◌+◌, ◌*◌, ◌%◌, ◌<◌, [], length, sym, refl, ap, ◌∙◌, subst, arith}
use mathlib.Core.Option.{some}
use lib.ListN.{get_elem?}
use Rattle.std.specs.Prelude.{Option, Some, None, slice_index}
use Rattle.atomic_table.specs.Table.{State}
use Rattle.saber_ring.specs.declared.view.SlotValue.{SlotValue}
use Rattle.saber_ring.specs.declared.view.Entry.{Entry}
use Rattle.saber_ring.specs.declared.view.Entry.TheVariants.{Claim}
use Rattle.saber_ring.specs.declared.view.View.{View}
use Rattle.saber_ring.specs.declared.view.Lead.{Lead}
use Rattle.saber_ring.specs.Shows.{RingPhase, idle, ready, held, done, taken, past, number_of, RingState, Fits, HasLead, HasBase, IsLive, live, total, ShowsAs, times, due, claims_of}
use Rattle.saber_ring.proofs.Puts.{sole}

module _ {T R P S : Type 0} (is_told : T → ℕ → Type 0) (upto : T → ℕ → T) (needs : T → ℕ → ℕ) (is_rows : T → ℕ → R → Type 0) (is_piece : T → ℕ → P → Type 0) (is_stage : T → ℕ → Bool → S → Type 0) (size : ℕ) where
  abbrev St : Type 0
  St = State (SlotValue R P S) (View T)

  abbrev As : St → RingState T → Type 0
  As s b = ShowsAs is_told upto needs is_rows is_piece is_stage size s b

  -- the first seat, alone
  abbrev pub Alone : St → RingState T → ℕ → View T → Lead T → Type 0
  Alone s b id v l = (get_elem? s.views id ≡ some v) × (v.lead ≡ Some l) × (l.out ≡ 0) × IsLive v

  -- every other seat was taken in
  pub spent : (b : RingState T) (j : ℕ) (u : View T) → live u.base ≡ 0 → HasBase upto b j u.base u.job u.turn u.own → (u.job ≡ None) × (u.turn ≡ None) × (u.own ≡ [])
  spent b j u = go u.base
    where
      go : (x : Option T) → live x ≡ 0 → HasBase upto b j x u.job u.turn u.own → (u.job ≡ None) × (u.turn ≡ None) × (u.own ≡ [])
      go None e h = h
      go (Some x) e h = absurd (omega arith)

  pub all_alive : (s : St) (b : RingState T) (id : ℕ) (v : View T) (l : Lead T) → As s b → Alone s b id v l → total (λ (u : View T). live u.base) s.views ≡ 1
  all_alive s b id v l sh a = let k = sh.shape in let lead = subst (HasLead upto b id) a.1 (k.each_seat id v a.0).lead in let e = a.2 in let f = lead.3 in let g = k.alive in omega arith

  -- its own entries are all that were made
  pub own_all : (s : St) (b : RingState T) (id : ℕ) (v : View T) (l : Lead T) → As s b → Alone s b id v l → (e : Entry) → times e v.own ≡ due b e
  own_all s b id v l sh a e =
      sym (sole (λ (u : View T). live u.base) (λ (u : View T). times e u.own) s.views id v a.0 a.3 (all_alive s b id v l sh a)
      (λ j u at no. ap (times e) (spent b j u no (sh.shape.each_seat j u at).base).2)) ∙ sh.count e

  not_claimed : (b : RingState T) (n t : ℕ) (ph : RingPhase) → claims_of ph ≡ 0 → t < b.filled → Fits size b n t ph → ph ≡ ready
  not_claimed b n t idle c lt f = absurd (omega (arith, f))
  not_claimed b n t ready c lt f = refl
  not_claimed b n t (held j) c lt f = absurd (omega arith)
  not_claimed b n t (done m) c lt f = absurd (omega arith)
  not_claimed b n t (taken m) c lt f = absurd (omega arith)
  not_claimed b n t past c lt f = absurd (omega arith)

  -- a filled task that the last seat knows unclaimed shows READY
  pub shows_ready : (s : St) (b : RingState T) (id : ℕ) (v : View T) (l : Lead T) → As s b → Alone s b id v l → (t : ℕ) → t < l.filled → times (Claim t) v.own ≡ 0 → slice_index s.words (t % size + 1) ≡ 8 * t + 2
  shows_ready s b id v l sh a t lt none_yet =
      let k = sh.shape in let lead = subst (HasLead upto b id) a.1 (k.each_seat id v a.0).lead in let fl = lead.2 in let below : t < b.filled = omega arith in
      let ph : b.phase t ≡ ready = not_claimed b (length s.views) t (b.phase t) (sym (own_all s b id v l sh a (Claim t)) ∙ none_yet) below (k.each_task t) in
      let f = subst (Fits size b (length s.views) t) ph (k.each_task t) in let room = k.filled_room in k.each_word t f.0 (omega arith) ∙ ap (λ (z : RingPhase). 8 * t + number_of z) ph
