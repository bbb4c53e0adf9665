-- Lines that lie in one list of numbers, as more come.
use Rattle.std.proofs.Common.{◌≡◌, ℕ, ◌-◌, List, [], ◌∷◌, ◌++◌, length, take, drop, Bool, true, ℤ, refl, sym, ◌∙◌, ap, ap₂, subst, subst₂, arith}
use Rattle.std.proofs.lemmas.List.{append_assoc, take-append-le, drop-append-le, take_all, drop_at, map-append, length-append, length-drop}
use Rattle.saber_changes.specs.Rising.{Rises}
use Rattle.saber_changes.specs.Spans.{line_in, lines_in, Grown, IsWithin, AreWithin}

-- numbers behind change no line
same_line_in : (ns more : List ℤ) (s : ℕ × ℕ) → IsWithin ns s → line_in (ns ++ more) s ≡ line_in ns s
same_line_in ns more s w =
    let low = w.0 in
    let high = w.1 in
    let long = length-drop s.0 ns in
    ap (take (s.1 - s.0)) (drop-append-le s.0 ns more (omega (arith, low, high))) ∙ take-append-le (s.1 - s.0) (drop s.0 ns) more (omega (arith, low, high, long))

same_lines : (ns more : List ℤ) (ss : List (ℕ × ℕ)) → AreWithin ns ss → lines_in (ns ++ more) ss ≡ lines_in ns ss
same_lines ns more [] w = refl
same_lines ns more (s ∷ ss) w = ap₂ (λ k ks. k ∷ ks) (same_line_in ns more s w.0) (same_lines ns more ss w.1)

still_within : (ns more : List ℤ) (ss : List (ℕ × ℕ)) → AreWithin ns ss → AreWithin (ns ++ more) ss
still_within ns more [] w = w
still_within ns more (s ∷ ss) w = let high = w.0.1 in ((w.0.0, omega (arith, high, length-append ns more)), still_within ns more ss w.1)

pub grown_on : (ns ms ls l : List ℤ) → Grown ns ms → ls ≡ ms ++ l → Grown ns ls
grown_on ns ms ls l g e = record { more = g.more ++ l; all = e ∙ ap (λ m. m ++ l) g.all ∙ append_assoc ns g.more l }

-- the line that they are
new_line : (ns l : List ℤ) → line_in (ns ++ l) (length ns, length (ns ++ l)) ≡ l
new_line ns l = ap (take (length (ns ++ l) - length ns)) (drop_at ns l (length ns) refl) ∙ take_all (length (ns ++ l) - length ns) l (omega (arith, length-append ns l))

one_line_more : (ns l : List ℤ) (ss : List (ℕ × ℕ)) → AreWithin ns ss → lines_in (ns ++ l) (ss ++ (length ns, length (ns ++ l)) ∷ []) ≡ lines_in ns ss ++ l ∷ []
one_line_more ns l ss w =
    map-append (line_in (ns ++ l)) ss ((length ns, length (ns ++ l)) ∷ []) ∙ ap₂ (λ ks k. ks ++ k ∷ []) (same_lines ns l ss w) (new_line ns l)

one_more_within : (ns l : List ℤ) (ss : List (ℕ × ℕ)) → AreWithin ns ss → AreWithin (ns ++ l) (ss ++ (length ns, length (ns ++ l)) ∷ [])
one_more_within ns l [] w = ((omega (arith, length-append ns l), omega arith), tt)
one_more_within ns l (s ∷ ss) w = let high = w.0.1 in ((w.0.0, omega (arith, high, length-append ns l)), one_more_within ns l ss w.1)

-- ---- whole

abbrev pub Whole : List ℤ → List (ℕ × ℕ) → Bool → Type 0
Whole ns ss rising = AreWithin ns ss × (rising ≡ true → Rises (lines_in ns ss))

pub kept_whole : (ns l : List ℤ) (ss : List (ℕ × ℕ)) (ms : List ℤ) (ts : List (ℕ × ℕ)) (rising : Bool) → ms ≡ ns ++ l → ts ≡ ss → Whole ns ss rising → Whole ms ts rising
kept_whole ns l ss ms ts rising m t w =
    (subst₂ AreWithin (sym m) (sym t) (still_within ns l ss w.0), λ r. subst Rises (sym (ap₂ lines_in m t ∙ same_lines ns l ss w.0)) (w.1 r))

pub kept_lines : (ns l : List ℤ) (ss : List (ℕ × ℕ)) (ms : List ℤ) (ts : List (ℕ × ℕ)) → ms ≡ ns ++ l → ts ≡ ss → AreWithin ns ss → lines_in ms ts ≡ lines_in ns ss
kept_lines ns l ss ms ts m t w = ap₂ lines_in m t ∙ same_lines ns l ss w

-- one line more
one_span : (ns l : List ℤ) (ss : List (ℕ × ℕ)) (ms : List ℤ) (ts : List (ℕ × ℕ)) (a b : ℕ) → ms ≡ ns ++ l → a ≡ length ns → b ≡ length ms → ts ≡ ss ++ (a, b) ∷ [] → ts ≡ ss ++ (length ns, length (ns ++ l)) ∷ []
one_span ns l ss ms ts a b m f t e = e ∙ ap₂ (λ x y. ss ++ (x, y) ∷ []) f (t ∙ ap length m)

pub more_lines : (ns l : List ℤ) (ss : List (ℕ × ℕ)) (ms : List ℤ) (ts : List (ℕ × ℕ)) (a b : ℕ) → ms ≡ ns ++ l → a ≡ length ns → b ≡ length ms → ts ≡ ss ++ (a, b) ∷ [] → AreWithin ns ss → lines_in ms ts ≡ lines_in ns ss ++ l ∷ []
more_lines ns l ss ms ts a b m f t e w = ap₂ lines_in m (one_span ns l ss ms ts a b m f t e) ∙ one_line_more ns l ss w

pub more_whole : (ns l : List ℤ) (ss : List (ℕ × ℕ)) (ms : List ℤ) (ts : List (ℕ × ℕ)) (a b : ℕ) (rising : Bool) → ms ≡ ns ++ l → a ≡ length ns → b ≡ length ms → ts ≡ ss ++ (a, b) ∷ [] → AreWithin ns ss
    → (rising ≡ true → Rises (lines_in ns ss ++ l ∷ [])) → Whole ms ts rising
more_whole ns l ss ms ts a b rising m f t e w h =
    (subst₂ AreWithin (sym m) (sym (one_span ns l ss ms ts a b m f t e)) (one_more_within ns l ss w), λ r. subst Rises (sym (more_lines ns l ss ms ts a b m f t e w)) (h r))
