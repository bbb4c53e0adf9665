-- Each move keeps the rule of a pipe.
use Rattle.std.proofs.Common.{◌≡◌, ◌≢◌, ℕ, zero, suc, Bool, true, false, true≢false, List, [], ◌∷◌, ◌++◌, Option, Some, None, length, set, if◌then◌else◌, sym, refl, ap, ◌∙◌, subst, ⊎_elim, append_assoc, append-nil}
use mathlib.Core.Option.{some, some-ne-none}
use lib.ListN.{get_elem?}
use Rattle.crossbeam_queue.specs.Fifo.{Pushes, Pops, Forks, Merges, Learns}
use Rattle.crossbeam_queue.proofs.Lists.{at_set, at_snoc}
use Rattle.saber_pipe.specs.declared.items.Item.{Item}
use Rattle.saber_pipe.specs.declared.rule.Log.{Log}
use Rattle.saber_pipe.specs.Order.{log, mark_of, EndsByMark, Promised, BeginsWith, KeepsTo, Fits, Relayed, HoldsLastOf}
use Rattle.saber_pipe.proofs.Marks.{one_more, unmarked, fresh}

at_end : (l : List Log) (a b : Log) (j : ℕ) → get_elem? l j ≢ some b → get_elem? (l ++ a ∷ []) j ≡ some b → j ≡ length l
at_end [] a b zero n e = refl
at_end [] a b (suc j) n e = absurd (some-ne-none b (sym e))
at_end (x ∷ xs) a b zero n e = absurd (n e)
at_end (x ∷ xs) a b (suc j) n e = ap suc (at_end xs a b j n e)

abbrev All : (ℕ → Log → Type 0) → List Log → Type 0
All F views = (port : ℕ) (v : Log) → get_elem? views port ≡ some v → F port v

all_set : (F : ℕ → Log → Type 0) (views : List Log) (port : ℕ) (w : Log) → F port w → ((j : ℕ) (u : Log) → j ≢ port → get_elem? views j ≡ some u → F j u) → All F (set views port w)
all_set F views port w mine others j u e = ⊎_elim (λ (x : (j ≡ port) × (w ≡ u)). subst (λ (y : ℕ × Log). F y.0 y.1) (λ i. (sym x.0 i, x.1 i)) mine)
    (λ (x : (j ≢ port) × (get_elem? views j ≡ some u)). others j u x.0 x.1) (at_set views port j w u e)

-- what was promised stands as one more of it is sent
goes_on : (whole : Option (List Item)) (sent : List Item) (x : Item) → KeepsTo whole sent (x ∷ []) → Promised whole sent → Promised whole (sent ++ x ∷ [])
goes_on None sent x keeps was = tt
goes_on (Some all) sent x keeps was = (was.0, (keeps.0, keeps.1 ∙ sym (append_assoc sent (x ∷ []) keeps.0)))

-- what begins with all begins with its front
of_front : (whole : Option (List Item)) (sent got items : List Item) → sent ≡ got ++ items → Promised whole sent → Promised whole got
of_front None sent got items e was = tt
of_front (Some all) sent got items e was = (was.0, (items ++ was.1.0, was.1.1 ∙ ap (λ l. l ++ was.1.0) e ∙ append_assoc got items was.1.0))

-- who was told knows what was promised
as_told : (w whole : Option (List Item)) (got : List Item) → (w ≢ None → w ≡ whole) → Promised whole got → Promised w got
as_told None whole got told was = tt
as_told (Some all) whole got told was = subst (λ (o : Option (List Item)). Promised o got) (sym (told (λ e. cc))) was

-- what is known to have been sent stands as one more is
grown : (sent front : List Item) (x : Item) → BeginsWith sent front → BeginsWith (sent ++ x ∷ []) front
grown sent front x f = (f.0 ++ x ∷ [], ap (λ l. l ++ x ∷ []) f.1 ∙ append_assoc front f.0 (x ∷ []))

-- a new pipe
pub begins : Relayed [] (log true true [] [] None ∷ [])
begins = record {
  writer = 0;
  reader = 0;
  sent = [];
  got = [];
  whole = None;
  order = refl;
  ends = fresh;
  promise = tt;
  fits = all_set (Fits 0 0 [] [] None) (log true true [] [] None ∷ []) 0 (log true true [] [] None)
      (record { sends = λ _. (refl, refl, refl); gets = λ _. (refl, refl); told = λ n. absurd (n refl); front = ([], refl) })
      (λ j u other e. absurd (other (at_end [] _ u j (λ x. some-ne-none u (sym x)) e)));
}

-- one more is sent
pub sends : (n port : ℕ) (v : Log) (x : Item) → v.sends ≡ true → mark_of v.sent ≡ None → KeepsTo v.whole v.sent (x ∷ [])
    → Pushes Relayed n port v x (λ w. w ≡ log v.sends v.gets (v.sent ++ x ∷ []) v.got v.whole)
sends n port v x may none keeps items views _ h at =
    let w : Log = log v.sends v.gets (v.sent ++ x ∷ []) v.got v.whole in let mine = h.fits port v at in let is = mine.sends may in let sent = h.sent ++ x ∷ [] in (
      w,
      record {
        writer = h.writer;
        reader = h.reader;
        sent = sent;
        got = h.got;
        whole = h.whole;
        order = ap (λ l. l ++ x ∷ []) h.order ∙ append_assoc h.got items (x ∷ []);
        ends = one_more h.sent x (ap mark_of (sym is.1) ∙ none);
        promise = goes_on h.whole h.sent x (subst (λ (y : Option (List Item) × List Item). KeepsTo y.0 y.1 (x ∷ [])) (λ i. (is.2 i, is.1 i)) keeps) h.promise;
        fits = all_set (Fits h.writer h.reader sent h.got h.whole) views port w
            (record { sends = λ _. (is.0, ap (λ l. l ++ x ∷ []) is.1, is.2); gets = mine.gets; told = mine.told; front = ([], ap (λ l. l ++ x ∷ []) (sym is.1) ∙ sym (append-nil (v.sent ++ x ∷ []))) })
            (λ j u other e. let theirs = h.fits j u e in record { sends = λ p. absurd (other ((theirs.sends p).0 ∙ sym is.0)); gets = theirs.gets; told = theirs.told; front = grown h.sent u.sent x theirs.front });
      },
      refl,
    )

-- one more is got, and no mark before it
pub gets : (port : ℕ) (v : Log) → v.gets ≡ true → Pops Relayed port v (λ x w. (w ≡ log v.sends v.gets v.sent (v.got ++ x ∷ []) v.whole) × (mark_of v.got ≡ None))
gets port v may x items views h at =
    let w : Log = log v.sends v.gets v.sent (v.got ++ x ∷ []) v.whole in let mine = h.fits port v at in let is = mine.gets may in let got = h.got ++ x ∷ [] in (
      w,
      record {
        writer = h.writer;
        reader = h.reader;
        sent = h.sent;
        got = got;
        whole = h.whole;
        order = h.order ∙ sym (append_assoc h.got (x ∷ []) items);
        ends = h.ends;
        promise = h.promise;
        fits = all_set (Fits h.writer h.reader h.sent got h.whole) views port w
            (record { sends = mine.sends; gets = λ _. (is.0, ap (λ l. l ++ x ∷ []) is.1); told = mine.told; front = mine.front })
            (λ j u other e. let theirs = h.fits j u e in record { sends = theirs.sends; gets = λ p. absurd (other ((theirs.gets p).0 ∙ sym is.0)); told = theirs.told; front = theirs.front });
      },
      (refl, ap mark_of is.1 ∙ unmarked h.got x items (subst EndsByMark h.order h.ends)),
    )

-- the two ends are parted
pub forks : (port : ℕ) (v : Log) → v.sends ≡ true → v.gets ≡ true → Forks Relayed port v (log true false v.sent [] v.whole) (log false true [] v.got None)
forks port v a b items views h at =
    let l : Log = log true false v.sent [] v.whole in let r : Log = log false true [] v.got None in let mine = h.fits port v at in let vs : List Log = set views port l in
    let Old : ℕ → Log → Type 0 = λ j u. (u.sends ≡ true → (j ≡ h.writer) × (u.sent ≡ h.sent) × (u.whole ≡ h.whole)) × (u.gets ≢ true) × (u.whole ≢ None → u.whole ≡ h.whole) × BeginsWith h.sent u.sent in
    let old : All Old vs = all_set Old views port l ((λ _. mine.sends a), (λ p. true≢false (sym p)), mine.told, mine.front)
    (λ j u other e. let theirs = h.fits j u e in (theirs.sends, (λ p. other ((theirs.gets p).0 ∙ sym (mine.gets b).0)), theirs.told, theirs.front)) in
    record {
      writer = h.writer;
      reader = length vs;
      sent = h.sent;
      got = h.got;
      whole = h.whole;
      order = h.order;
      ends = h.ends;
      promise = h.promise;
      fits = λ j u e. ⊎_elim (λ x. record { sends = (old j u x).0; gets = λ p. absurd ((old j u x).1 p); told = (old j u x).2; front = (old j u x).3 })
          (λ (is : r ≡ u). record {
            sends = λ p. absurd (true≢false (sym (ap (λ (y : Log). y.sends) is ∙ p)));
            gets = λ p. (at_end vs r u j (λ x. (old j u x).1 p) e, ap (λ (y : Log). y.got) (sym is) ∙ (mine.gets b).1);
            told = λ n. absurd (n (ap (λ (y : Log). y.whole) (sym is)));
            front = subst (λ (y : Log). BeginsWith h.sent y.sent) is (h.sent, refl);
          }) (at_snoc vs r u j e);
    }

-- another pass is told what this one knows
pub tells : (port : ℕ) (v : Log) → Forks Relayed port v v (log false false v.sent [] v.whole)
tells port v items views h at =
    let r : Log = log false false v.sent [] v.whole in let mine = h.fits port v at in let vs : List Log = set views port v in
    let Now : ℕ → Log → Type 0 = Fits h.writer h.reader h.sent h.got h.whole in
    let now : All Now vs = all_set Now views port v mine (λ j y _ e. h.fits j y e) in
    let told : (j : ℕ) → Now j r = λ j. record { sends = λ p. absurd (true≢false (sym p)); gets = λ p. absurd (true≢false (sym p)); told = mine.told; front = mine.front } in
    record {
      writer = h.writer;
      reader = h.reader;
      sent = h.sent;
      got = h.got;
      whole = h.whole;
      order = h.order;
      ends = h.ends;
      promise = h.promise;
      fits = λ j u e. ⊎_elim (λ x. now j u x) (λ (same : r ≡ u). subst (Now j) same (told j)) (at_snoc vs r u j e);
    }

-- a promise of all that is ever sent
pub promises : (port : ℕ) (v : Log) (all : List Item) → v.sends ≡ true → v.whole ≡ None → EndsByMark all → ((later : List Item) × (all ≡ v.sent ++ later))
    → Forks Relayed port v (log true false v.sent [] (Some all)) (log false false [] [] (Some all))
promises port v all a none ends begins items views h at =
    let l : Log = log true false v.sent [] (Some all) in let r : Log = log false false [] [] (Some all) in let mine = h.fits port v at in let is = mine.sends a in
    let vs : List Log = set views port l in
    let Now : ℕ → Log → Type 0 = Fits h.writer h.reader h.sent h.got (Some all) in
    let now : All Now vs = all_set Now views port l (record { sends = λ _. (is.0, is.1, refl); gets = λ p. absurd (true≢false (sym p)); told = λ _. refl; front = mine.front })
    (λ j u other e. let theirs = h.fits j u e in record {
      sends = λ p. absurd (other ((theirs.sends p).0 ∙ sym is.0));
      gets = theirs.gets;
      told = λ n. absurd (n (theirs.told n ∙ sym is.2 ∙ none));
      front = theirs.front;
    }) in
    record {
      writer = h.writer;
      reader = h.reader;
      sent = h.sent;
      got = h.got;
      whole = Some all;
      order = h.order;
      ends = h.ends;
      promise = (ends, (begins.0, begins.1 ∙ ap (λ l. l ++ begins.0) is.1));
      fits = λ j u e. ⊎_elim (λ x. now j u x)
          (λ (same : r ≡ u). record {
            sends = λ p. absurd (true≢false (sym (ap (λ (y : Log). y.sends) same ∙ p)));
            gets = λ p. absurd (true≢false (sym (ap (λ (y : Log). y.gets) same ∙ p)));
            told = λ _. ap (λ (y : Log). y.whole) (sym same);
            front = subst (λ (y : Log). BeginsWith h.sent y.sent) same (h.sent, refl);
          }) (at_snoc vs r u j e);
    }

by_leave : (leave : Bool) (port writer : ℕ) → leave ≡ true → port ≡ (if leave then port else writer)
by_leave true port writer e = refl
by_leave false port writer e = absurd (true≢false (sym e))

still_writer : (leave : Bool) (port writer other j : ℕ) → (leave ≡ true → other ≡ writer) → j ≢ other → j ≡ writer → j ≡ (if leave then port else writer)
still_writer true port writer other j is n e = absurd (n (e ∙ sym (is refl)))
still_writer false port writer other j is n e = e

-- the end that gets takes in another pass; where that one may send, it sends from now on
pub merges : (port : ℕ) (v : Log) (other : ℕ) (u : Log) → v.gets ≡ true → Merges Relayed port v other u (log u.sends true u.sent v.got u.whole) (log false false [] [] None)
merges port v other u b items views h at two at' =
    let both : Log = log u.sends true u.sent v.got u.whole in let mine = h.fits port v at in let vs : List Log = set views port both in
    let was : get_elem? views other ≡ some u = ⊎_elim (λ x. absurd (two x.0)) (λ x. x.1) (at_set views port other both u at') in let theirs = h.fits other u was in
    let writer : ℕ = if u.sends then port else h.writer in
    let Now : ℕ → Log → Type 0 = Fits writer h.reader h.sent h.got h.whole in
    let now : Now port both = record { sends = λ p. (by_leave u.sends port h.writer p, (theirs.sends p).1, (theirs.sends p).2); gets = λ _. mine.gets b; told = theirs.told; front = theirs.front } in
    record {
      writer = writer;
      reader = h.reader;
      sent = h.sent;
      got = h.got;
      whole = h.whole;
      order = h.order;
      ends = h.ends;
      promise = h.promise;
      fits = all_set Now vs other (log false false [] [] None)
          (record { sends = λ p. absurd (true≢false (sym p)); gets = λ p. absurd (true≢false (sym p)); told = λ n. absurd (n refl); front = (h.sent, refl) })
          (λ j y n e. ⊎_elim (λ (x : (j ≡ port) × (both ≡ y)). subst (λ (z : ℕ × Log). Now z.0 z.1) (λ i. (sym x.0 i, x.1 i)) now)
          (λ (x : (j ≢ port) × (get_elem? views j ≡ some y)). let f = h.fits j y x.1 in record {
            sends = λ p. (still_writer u.sends port h.writer other j (λ l. (theirs.sends l).0) n (f.sends p).0, (f.sends p).1, (f.sends p).2);
            gets = f.gets;
            told = f.told;
            front = f.front;
          }) (at_set views port j both y e));
    }

-- who may get, and was told, knows that what was got is the front of what was promised
pub kept : (port : ℕ) (v : Log) → v.gets ≡ true → Learns Relayed port v (λ items. Promised v.whole v.got)
kept port v b items views h at =
    let mine = h.fits port v at in
    as_told v.whole h.whole v.got mine.told (subst (Promised h.whole) (sym (mine.gets b).1) (of_front h.whole h.sent h.got items h.order h.promise))

-- who may send knows that the queue holds the last of what was sent
pub lasts : (port : ℕ) (v : Log) → v.sends ≡ true → Learns Relayed port v (λ items. HoldsLastOf v.sent items)
lasts port v a items views h at = let mine = h.fits port v at in (h.got, (mine.sends a).1 ∙ h.order)

-- who may get knows that the queue holds, behind what was got, what it knows to have been sent
pub knows : (port : ℕ) (v : Log) → v.gets ≡ true → Learns Relayed port v (λ items. BeginsWith (v.got ++ items) v.sent)
knows port v b items views h at = let mine = h.fits port v at in (mine.front.0, ap (λ l. l ++ items) (mine.gets b).1 ∙ sym h.order ∙ mine.front.1)
