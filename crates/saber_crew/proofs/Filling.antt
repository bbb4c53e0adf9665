-- Filling one task after another.
use Rattle.std.proofs.Common.{◌≡◌, true, ℕ, ◌+◌, ◌-◌, ◌≤◌, ◌<◌, [], ◌∷◌, ◌++◌, length, sym, ◌∙◌, ap, subst, length-append, arith}
use mathlib.Core.Logic.{dite}
use native.Mathlib.Decide.{ℕ_discrete}
use Rattle.std.specs.Prelude.{Option, Some, None, slice_index}
use Rattle.std.proofs.lemmas.List.{get_or_append_left, get_or-drop, length-drop}
use Rattle.std.proofs.Math.Seq.{get_or-append_seam}
use Rattle.saber_ring.specs.declared.view.View.{View}
use Rattle.saber_ring.specs.declared.view.Lead.{Lead}
use Rattle.saber_ring.specs.declared.frees.Frees.{Frees}
use Rattle.saber_ring.specs.Calls.{Covers, FillsNext}
use Rattle.saber_ring.specs.Shows.{first_of_task}
use Rattle.saber_ring.specs.Plays.{more_filled}
use Rattle.saber_ring.specs.Freeing.{IsSlid}
use Rattle.saber_crew.specs.declared.dispatch.Dispatched.{Dispatched}
use Rattle.saber_crew.specs.declared.dispatch.Over.TheVariants.{AllGiven}
use Rattle.saber_crew.specs.Supplies.{GivesRows}
use Rattle.saber_crew.specs.Leaders.{CanFill}
use Rattle.saber_crew.specs.Dispatches.{Puts, AllDispatched, DispatchedTo, AreFrees}

module _ {T R : Type 0} (is_told : T → ℕ → Type 0) (filled : T → R → T) (upto : T → ℕ → T) (is_rows : T → ℕ → R → Type 0)
    (keeps : (told : T) (d k : ℕ) (rows : R) → is_told told d → is_told (filled told rows) (d + 1) → is_rows (filled told rows) d rows → k ≤ d → upto (filled told rows) k ≡ upto told k)
    (whole : (told : T) (d : ℕ) → is_told told d → upto told d ≡ told) where
  -- so many were given
  pub given_so_far : (given : T → ℕ → Type 0) (d : ℕ) (o o' : Option (Lead T)) → AllDispatched is_told upto given d o o' → (told : T) × (n : ℕ) × given told n
  given_so_far given d None o' e = absurd e
  given_so_far given d (Some l) None e = absurd e
  given_so_far given d (Some l) (Some m) e = (m.told, d, e.4)

  module _ (given given' : T → ℕ → Type 0) (d : ℕ) where
    -- none is given any more
    pub dispatch_ended : (ended : Type 0) (dispatched : Dispatched) (o o' : Option (Lead T)) → AllDispatched is_told upto given d o o' → ((told : T) (n : ℕ) → given told n → given' told n) → (dispatched.over ≡ AllGiven → ended) → dispatched.tasks ≡ d → DispatchedTo is_told upto given' ended dispatched o o'
    dispatch_ended ended dispatched None o' e stay over is = absurd e
    dispatch_ended ended dispatched (Some l) None e stay over is = absurd e
    dispatch_ended ended dispatched (Some l) (Some m) e stay over is = (
      e.0 ∙ sym is,
      e.1,
      subst (is_told m.told) (sym is) e.2,
      record {
        told = m.told;
        count = d;
        is_given = stay m.told d e.4;
        known = e.2;
        base_is = e.3;
        data_is = sym (whole m.told d e.2) ∙ ap (upto m.told) (sym is);
        few = omega arith;
        all = λ at. (is, over at);
      },
    )

    module _ (r : R) (gives : (told : T) (n : ℕ) → given told n → GivesRows is_told filled is_rows given' told n r) where
      -- what was given is filled next
      pub fills_next : (o o' : Option (Lead T)) → AllDispatched is_told upto given d o o' → FillsNext is_told filled is_rows d r o' × (d < 4398046511104)
      fills_next None o' e = absurd e
      fills_next (Some l) None e = absurd e
      fills_next (Some l) (Some m) e = let g = gives m.told d e.4 in ((e.0, g.0, g.1), g.3)

      -- it is filled
      pub dispatch_more : (o o' o'' : Option (Lead T)) → AllDispatched is_told upto given d o o' → Puts filled r true o' o'' → AllDispatched is_told upto given' (d + 1) o o''
      dispatch_more None o' o'' e p = absurd e
      dispatch_more (Some l) None o'' e p = absurd e
      dispatch_more (Some l) (Some m) o'' e p =
          let g = gives m.told d e.4 in
          let same : p.0 ≡ m = (let x = p.1 in cc) in
          subst (AllDispatched is_told upto given' (d + 1) (Some l)) (sym (p.2 ∙ ap (λ (z : Lead T). Some (more_filled z (filled z.told r))) same)) (
            ap (λ z. z + 1) e.0,
            e.1,
            g.1,
            keeps m.told d 0 r e.2 g.1 g.0 (omega arith) ∙ e.3,
            g.2,
          )

      -- it is dropped
      pub dispatch_dropped : (ended : Type 0) (dispatched : Dispatched) (o o' : Option (Lead T)) → AllDispatched is_told upto given d o o' → dispatched.tasks ≡ d → (dispatched.over ≡ AllGiven → ⊥) → DispatchedTo is_told upto given' ended dispatched o o'
      dispatch_dropped ended dispatched None o' e is not = absurd e
      dispatch_dropped ended dispatched (Some l) None e is not = absurd e
      dispatch_dropped ended dispatched (Some l) (Some m) e is not =
          let g = gives m.told d e.4 in (
            e.0 ∙ sym is,
            e.1,
            subst (is_told m.told) (sym is) e.2,
            record {
              told = filled m.told r;
              count = d + 1;
              is_given = g.2;
              known = g.1;
              base_is = keeps m.told d 0 r e.2 g.1 g.0 (omega arith) ∙ e.3;
              data_is = sym (whole m.told d e.2) ∙ sym (keeps m.told d d r e.2 g.1 g.0 (omega arith)) ∙ ap (upto (filled m.told r)) (sym is);
              few = omega arith;
              all = λ at. absurd (not at);
            },
          )

      module _ (first : T → ℕ → ℕ) (y : ℕ) (says : (told : T) (t : ℕ) → is_rows told t r → y ≡ first_of_task upto first told t) where
        -- The next task's first block stands behind the others, of which the first ones may go. So the list covers what its fill asks of it.
        pub frees_cover : (o o' : Option (Lead T)) (cut : ℕ) (old new : Frees) → AllDispatched is_told upto given d o o' → AreFrees upto first d old o' → cut ≤ d → IsSlid y cut old new → AreFrees upto first (d + 1) new o'
        frees_cover None o' cut old new e a low slid = absurd e
        frees_cover (Some l) None cut old new e a low slid = absurd e
        frees_cover (Some l) (Some m) cut old new e a low slid =
            let g = gives m.told d e.4 in
            let last : y ≡ first_of_task upto first m.told d = says (filled m.told r) d g.0 ∙ ap (λ z. first z d) (keeps m.told d d r e.2 g.1 g.0 (omega arith)) in
            let long = length-append old.list.items (y ∷ []) in let size = a.0 in let base = slid.0 in
            let short : length new.list.items ≡ length (old.list.items ++ y ∷ []) - (cut - old.base) = ap length slid.1 ∙ length-drop (cut - old.base) (old.list.items ++ y ∷ []) in
            let at : (k : ℕ) → new.base ≤ k → slice_index new.list.items (k - new.base) ≡ slice_index (old.list.items ++ y ∷ []) (k - old.base) =
            λ k from. ap (λ z. slice_index z (k - new.base)) slid.1 ∙ get_or-drop (cut - old.base) (old.list.items ++ y ∷ []) (k - new.base) 0
            ∙ ap (slice_index (old.list.items ++ y ∷ [])) (omega (arith, from, base)) in (
              omega arith,
              λ k from lt. at k from ∙ dite (ℕ_discrete k d)
                  (λ same. let there : k - old.base ≡ length old.list.items = omega arith in
                  ap (slice_index (old.list.items ++ y ∷ [])) there ∙ get_or-append_seam old.list.items y [] 0 ∙ last ∙ ap (first_of_task upto first m.told) (sym same))
                  (λ ne. get_or_append_left old.list.items (y ∷ []) 0 (k - old.base) (omega arith) ∙ a.1 k (omega arith) (omega arith)),
            )

        -- and it stays so once the task is filled
        pub frees_more : (o o' o'' : Option (Lead T)) (frees : Frees) → AllDispatched is_told upto given d o o' → Puts filled r true o' o'' → AreFrees upto first (d + 1) frees o' → AreFrees upto first (d + 1) frees o''
        frees_more None o' o'' frees e p a = absurd e
        frees_more (Some l) None o'' frees e p a = absurd e
        frees_more (Some l) (Some m) o'' frees e p a =
            let g = gives m.told d e.4 in
            let same : p.0 ≡ m = (let x = p.1 in cc) in
            subst (AreFrees upto first (d + 1) frees) (sym (p.2 ∙ ap (λ (z : Lead T). Some (more_filled z (filled z.told r))) same))
            (a.0, λ k low lt. a.1 k low lt ∙ ap (λ z. first z k) (sym (keeps m.told d k r e.2 g.1 g.0 (omega arith))))

module _ {T : Type 0} (is_told : T → ℕ → Type 0) (upto : T → ℕ → T) (first : T → ℕ → ℕ) where
  -- the list covers what the fill asks of it, where nothing that it let go is seen as not assembled
  pub covers : (d : ℕ) (frees : Frees) (o : Option (Lead T)) → AreFrees upto first (d + 1) frees o → (seen : ℕ) → frees.base ≤ seen → Covers upto first d frees seen o
  covers d frees None a seen low = absurd a
  covers d frees (Some l) a seen low = (low, (let size = a.0 in omega arith), λ k from high. a.1 k from (omega arith))

  -- and goes on to do so as more is seen
  pub covers_on : (d : ℕ) (frees : Frees) (o : Option (Lead T)) (seen more : ℕ) → seen ≤ more → Covers upto first d frees seen o → Covers upto first d frees more o
  covers_on d frees None seen more up c = absurd c
  covers_on d frees (Some l) seen more up c = ((let low = c.0 in omega arith), c.1, c.2)

module _ {T R : Type 0} (is_told : T → ℕ → Type 0) (filled : T → R → T) (upto : T → ℕ → T) (first : T → ℕ → ℕ) (is_rows : T → ℕ → R → Type 0) where
  -- who may fill still may, once more is seen
  pub can_fill_on : (t : ℕ) (rows : R) (frees : Frees) (v w : View T) → v.seen ≤ w.seen → w.lead ≡ v.lead
      → CanFill is_told filled upto first is_rows t rows frees v → CanFill is_told filled upto first is_rows t rows frees w
  can_fill_on t rows frees v w up same c = record {
    next = subst (FillsNext is_told filled is_rows t rows) (sym same) c.next;
    below = c.below;
    covered = subst (Covers upto first t frees w.seen) (sym same) (covers_on is_told upto first t frees v.lead v.seen w.seen up c.covered);
  }
