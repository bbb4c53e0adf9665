-- The first seat, from one call to the next.
use Rattle.std.proofs.Common.{◌≡◌, ℕ, Bool, true, false, ◌||◌, refl, sym, ◌∙◌, subst, le_refl, le_trans, arith}
use Rattle.std.specs.Prelude.{Option, Some, None}
use Rattle.saber_ring.specs.declared.view.View.{View}
use Rattle.saber_ring.specs.declared.view.Lead.{Lead}
use Rattle.saber_ring.specs.declared.seat.Seat.{Seat}
use Rattle.saber_ring.specs.declared.ring.Ring.{Ring}
use Rattle.saber_ring.specs.Words.{view}
use Rattle.saber_ring.specs.Seats.{more_out, less_out, parting}
use Rattle.saber_workers.specs.Seats.{IsReady, WorksOn}
use Rattle.saber_workers.proofs.Works.{then_works}
use Rattle.saber_crew.specs.declared.dispatch.Dispatched.{Dispatched}
use Rattle.saber_crew.specs.Dispatches.{DispatchedTo, EndsDispatch}
use Rattle.saber_crew.specs.Leaders.{AtRing, SameRing, GoesOn, FillsOn, seen_at}
use Rattle.saber_crew.specs.Spares.{Rejoins}

module _ {T : Type 0} where
  pub stays_there : (a : AtRing T) → SameRing a a
  stays_there a = record { table = refl; size = refl }

  pub then_same : (a b c : AtRing T) → SameRing a b → SameRing b c → SameRing a c
  then_same a b c f g = record { table = g.table ∙ f.table; size = g.size ∙ f.size }

  pub then_goes : (a b c : AtRing T) → GoesOn a b → GoesOn b c → GoesOn a c
  then_goes a b c f g = record { same = then_same a b c f.same g.same; works = then_works a.seat b.seat c.seat f.works g.works }

  pub stays : (a : AtRing T) → GoesOn a a
  stays a = record { same = stays_there a; works = record { lead = refl; base = refl; steps = le_refl a.seat.saw.number; seen = le_refl a.seat.seen; stays = λ s. s } }

  pub then_fills : (a b c : AtRing T) → FillsOn a b → FillsOn b c → FillsOn a c
  then_fills a b c f g = record { same = then_same a b c f.same g.same; base = g.base ∙ f.base; seen = le_trans f.seen g.seen }

  pub fills_none : (a : AtRing T) → FillsOn a a
  fills_none a = record { same = stays_there a; base = refl; seen = le_refl a.seat.seen }

  -- a turn of work fills nothing
  pub goes_fills : (a b : AtRing T) → GoesOn a b → FillsOn a b
  goes_fills a b w = record { same = w.same; base = w.works.base; seen = w.works.seen }

  module _ {W R P S : Type 0} {g : _} (ring : Ring W R P S T) (s s' : Seat W R P S T g) where
    -- a seat of the ring that stays one
    pub goes_by : IsReady ring s → IsReady ring s' → WorksOn (view s) (view s') → GoesOn (seen_at ring s) (seen_at ring s')
    goes_by old new works = record { same = record { table = new.own ∙ sym old.own; size = refl }; works = works }

module _ {T : Type 0} (is_told : T → ℕ → Type 0) (upto : T → ℕ → T) (given : T → ℕ → Type 0) (ended : Type 0) (d : Dispatched) where
  -- what is dispatched stays so while the seat works on
  pub ends_on : (h : ℕ) (v m w : View T) → EndsDispatch is_told upto given ended v m h d → WorksOn m w → EndsDispatch is_told upto given ended v w h d
  ends_on h v m w e f = record {
    base = f.base ∙ e.base;
    filled = subst (DispatchedTo is_told upto given ended d v.lead) (sym f.lead) e.filled;
    few = e.few;
    stops = λ is. f.stays (e.stops is);
    asked = e.asked;
  }

  -- by another name for how many helpers were asked for
  pub ends_asked : (h h' : ℕ) (v w : View T) → h ≡ h' → EndsDispatch is_told upto given ended v w h d → EndsDispatch is_told upto given ended v w h' d
  ends_asked h h' v w same e = subst (λ z. EndsDispatch is_told upto given ended v w z d) same e

  parted : (o o' : Option (Lead T)) → DispatchedTo is_told upto given ended d (more_out o) o' → DispatchedTo is_told upto given ended d o (less_out o')
  parted None o' e = absurd e
  parted (Some l) None e = absurd e
  parted (Some l) (Some m) e = (e.0, (let out = e.1 in omega arith), e.2, e.3)

  -- and where a seat was out meanwhile
  pub ends_parted : (h : ℕ) (v m w : View T) → EndsDispatch is_told upto given ended (parting v) m h d → Rejoins m w → EndsDispatch is_told upto given ended v w h d
  ends_parted h v m w e r = subst (λ z. EndsDispatch is_told upto given ended v z h d) (sym r.3) (record {
    base = e.base;
    filled = parted v.lead m.lead e.filled;
    few = e.few;
    stops = λ is. either m.stopped r.0.stopped (e.stops is);
    asked = e.asked;
  })
    where
      either : (a b : Bool) → a ≡ true → (a || b) ≡ true
      either true b s = refl
      either false b s = absurd (let h = s in cc)
