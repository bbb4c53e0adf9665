use Rattle.std.proofs.Common.{◌≡◌, ◌<◌, ◌⊎◌, inl, inr, List, ℤ, [], ◌∷◌, ◌++◌, ◌+◌, sym, ap, ap₂, ◌∙◌, ◌-◌, subst, subst₂, take, drop, length, get_or, arith}
use Rattle.std.proofs.lemmas.List.{drop_all, take_rest}
use Rattle.std.specs.declared.cmp.Ordering.{Ordering}
use Rattle.std.specs.declared.cmp.Ordering.TheVariants.{Less}
use Rattle.saber_plan.specs.Answers.{key_cmp}
use Rattle.saber_plan.specs.Parts.{Numbers, numbers, join_numbers}
use Rattle.saber_plan.specs.Facts.Parts.{exact}
use Rattle.saber_partial.specs.Flat.{entry_in}
use Rattle.saber_partial.specs.Tallies.{CanJoin}
use Rattle.saber_partial.specs.Sorted.{weave, AllBelow}
use Rattle.saber_partial.proofs.Rising.{read_alike, can_behind, turned_back}
use Rattle.saber_partial.proofs.Weaving.{woven_equal, woven_run_less, woven_run_greater, below_first, woven_end}
use Rattle.saber_partial.proofs.merges.weave_into.Goals.{then-loop-i-test+else-j-len, else-loop-i-test}
use Rattle.saber_partial.proofs.merges.weave_into.Goals as goal

-- the order of two keys, as it was found
ordered : (a b : List ℤ) (x y : List ℤ × Numbers) (r o : Ordering) → a ≡ x.0 → b ≡ y.0 → r ≡ key_cmp a b → r ≡ o → key_cmp x.0 y.0 ≡ o
ordered a b x y r o f g h is = sym (ap₂ key_cmp f g) ∙ sym h ∙ is

pub loop-i-preserved-in-Less : goal.loop-i-preserved-in-Less
loop-i-preserved-in-Less c =
    let es = c.args.groups.now.entries in
    let fs = c.args.others.now.entries in
    let i = c.loop-i.i in
    let j = c.loop-i.j in
    let out = c.loop-i.out in
    let kept = c.loop-i.invariant in
    let end = c.in_ok-i-in-Less.i in
    let d : List ℤ × Numbers = ([], numbers [] []) in
    let f = get_or fs j d in
    let more : j < length fs = omega (arith, c.if-j-len.true, c.len-in-loop-i.ensures) in
    let far = c.in_ok-i-in-Less.ensures.more in
    let order : (e : List ℤ × Numbers) → key_cmp (get_or es i e).0 f.0 ≡ Less = λ e. ordered _ _ (get_or es i e) f _ _ (c.key.ensures e) (c.key-in-loop-i.ensures d) c.key_order.ensures c.in-Less.is in
    let below = below_first es i end f.0 order (subst (AllBelow es (i + 1) end) (c.key-in-Less.ensures d) c.in_ok-i-in-Less.ensures.below) in
    record {
      mine = c.in_ok-i-in-Less.ensures.within;
      start = kept.start;
      theirs = kept.theirs;
      layout = c.push_below.ensures.layout ∙ kept.layout;
      all = ap (λ l. l ++ weave (drop end es) (drop j fs)) c.in_ok-i-in-Less.ensures.all ∙ woven_run_less out.entries es fs i j d end (omega (arith, far)) more below ∙ kept.all;
    }

pub push_joined-requires-clause-can : goal.push_joined-requires-clause-can
push_joined-requires-clause-can c =
    let es = c.args.groups.now.entries in
    let fs = c.args.others.now.entries in
    let i = c.loop-i.i in
    let j = c.loop-i.j in
    let kept = c.loop-i.invariant in
    let d : List ℤ × Numbers = ([], numbers [] []) in
    let low : i < length es = omega (arith, c.loop-i-test.true, c.len.ensures) in
    let more : j < length fs = omega (arith, c.if-j-len.true, c.len-in-loop-i.ensures) in
    let like = kept.layout ∙ c.requires.layout in
    let one = read_alike _ _ c.row.result.now _ like (c.row.ensures.entry d) in
    let two = read_alike _ _ c.row-in-Equal.result.now _ (like ∙ c.requires.alike) (c.row-in-Equal.ensures.entry d) in
    let same = exact _ _ (ordered _ _ (get_or es i d) (get_or fs j d) _ _ (c.key.ensures d) (c.key-in-loop-i.ensures d) c.key_order.ensures c.in-Equal.is) in
    subst₂ (λ (a b : List ℤ × Numbers). CanJoin a.1 b.1) (sym one) (sym two) (can_behind es fs c.args.from i j d c.requires.can kept.start low more same)

pub loop-i-preserved-in-Equal : goal.loop-i-preserved-in-Equal
loop-i-preserved-in-Equal c =
    let es = c.args.groups.now.entries in
    let fs = c.args.others.now.entries in
    let i = c.loop-i.i in
    let j = c.loop-i.j in
    let out = c.loop-i.out in
    let kept = c.loop-i.invariant in
    let d : List ℤ × Numbers = ([], numbers [] []) in
    let e = get_or es i d in
    let f = get_or fs j d in
    let low : i < length es = omega (arith, c.loop-i-test.true, c.len.ensures) in
    let more : j < length fs = omega (arith, c.if-j-len.true, c.len-in-loop-i.ensures) in
    let like = kept.layout ∙ c.requires.layout in
    let one : entry_in out.layout c.row.result.now ≡ e = read_alike _ _ c.row.result.now _ like (c.row.ensures.entry d) in
    let two : entry_in out.layout c.row-in-Equal.result.now ≡ f = read_alike _ _ c.row-in-Equal.result.now _ (like ∙ c.requires.alike) (c.row-in-Equal.ensures.entry d) in
    let order = ordered _ _ e f _ _ (c.key.ensures d) (c.key-in-loop-i.ensures d) c.key_order.ensures c.in-Equal.is in
    let new : c.push_joined.new.out.entries ≡ out.entries ++ (e.0, join_numbers e.1 f.1) ∷ [] =
    c.in_ok-push_joined-in-Equal.ensures.all ∙ ap₂ (λ (x y : List ℤ × Numbers). out.entries ++ (x.0, join_numbers x.1 y.1) ∷ []) one two in
    record {
      mine = omega (arith, low);
      start = let first = kept.start in omega (arith, first);
      theirs = omega (arith, more);
      layout = c.push_joined.ensures.layout ∙ kept.layout;
      all = ap (λ l. l ++ weave (drop (i + 1) es) (drop (j + 1) fs)) new ∙ woven_equal out.entries es fs i j d low more order ∙ kept.all;
    }

pub loop-i-preserved : goal.loop-i-preserved
loop-i-preserved c =
    let es = c.args.groups.now.entries in
    let fs = c.args.others.now.entries in
    let i = c.loop-i.i in
    let j = c.loop-i.j in
    let out = c.loop-i.out in
    let kept = c.loop-i.invariant in
    let end = c.in_ok-j-in-Greater.j in
    let d : List ℤ × Numbers = ([], numbers [] []) in
    let e = get_or es i d in
    let low : i < length es = omega (arith, c.loop-i-test.true, c.len.ensures) in
    let first = kept.start in
    let far = c.in_ok-j-in-Greater.ensures.more in
    let order : (f : List ℤ × Numbers) → key_cmp (get_or fs j f).0 e.0 ≡ Less = λ f. turned_back e.0 (get_or fs j f).0 (ordered _ _ e (get_or fs j f) _ _ (c.key.ensures d) (c.key-in-loop-i.ensures f) c.key_order.ensures c.in-Greater.is) in
    let below = below_first fs j end e.0 order (subst (AllBelow fs (j + 1) end) (c.key-in-Greater.ensures d) c.in_ok-j-in-Greater.ensures.below) in
    record {
      mine = kept.mine;
      start = omega (arith, first, far);
      theirs = c.in_ok-j-in-Greater.ensures.within;
      layout = c.push_below-in-Greater.ensures.layout ∙ kept.layout;
      all = ap (λ l. l ++ weave (drop i es) (drop end fs)) c.in_ok-j-in-Greater.ensures.all ∙ woven_run_greater out.entries es fs i j d end (omega (arith, far)) low below ∙ kept.all;
    }

pub returns-clause-all : goal.returns-clause-all
returns-clause-all c =
    let xs = drop c.loop-i.i c.args.groups.now.entries in
    let ys = drop c.loop-i.j c.args.others.now.entries in
    let done : (xs ≡ []) ⊎ (ys ≡ []) = elim c.loop-i-test.branch [
      | then-loop-i-test+else-j-len w ↦ inr (drop_all c.loop-i.j c.args.others.now.entries (omega (arith, w.if-j-len.false, w.len-in-loop-i.ensures)))
      | else-loop-i-test w ↦ inl (drop_all c.loop-i.i c.args.groups.now.entries (omega (arith, w.loop-i-test.false, c.len.ensures)))
    ] in
    let mine : take (c.len-2.result - c.loop-i.i) xs ≡ xs = ap (λ n. take (n - c.loop-i.i) xs) c.len-2.ensures ∙ take_rest c.args.groups.now.entries c.loop-i.i in
    let theirs : take (c.len-3.result - c.loop-i.j) ys ≡ ys = ap (λ n. take (n - c.loop-i.j) ys) c.len-3.ensures ∙ take_rest c.args.others.now.entries c.loop-i.j in
    c.in_ok-push_range-2.ensures.ok ∙ ap₂ (λ l m. l ++ m) (c.in_ok-push_range.ensures.ok ∙ ap (λ l. c.loop-i.out.entries ++ l) mine) theirs
    ∙ woven_end c.loop-i.out.entries xs ys done ∙ c.loop-i.invariant.all
