use Rattle.std.proofs.Common.{◌≡◌, ◌<◌, ◌≤◌, ◌+◌, ◌-◌, ◌∷◌, ◌++◌, [], ℕ, length, take, reverse, filter, map, sym, ◌∙◌, ap, subst, arith, to_z-of_z, append-nil, cond, get_or, refl}
use mir.Val.{SFits, to_z, of_z}
use mir.Syntax.{w64}
use Rattle.std.specs.List.{AllByRecursion}
use Rattle.saber_join.specs.Shelves.{meets, cards_at, bucket_of, last_in}
use Rattle.saber_join.specs.Linked.{card_in, keys_in}
use Rattle.saber_join.proofs.Linking.{begun_walk, stepped_walk, stopped_walk, there_more, last_within, last_there, keys_at}
use Rattle.saber_join.proofs.shelf.walk.Goals as goal

pub loop-next-init : goal.loop-next-init
loop-next-init c =
    let ks = c.args.rows.now in
    let z = to_z w64 (of_z w64 c.args.key) in
    let next = get_or c.args.last.now c.bucket.result 0 in
    let start = begun_walk c.args.mask c.args.last.now ks c.requires.linked z c.args.low c.bucket.result next c.bucket.ensures.bucket c.bucket.ensures.below refl in
    record {
      within = subst (λ n. n ≤ length ks) (sym start.0) (last_within c.args.mask (bucket_of c.args.mask z) (keys_in ks) (length ks));
      chain = λ i e. last_there c.args.mask (bucket_of c.args.mask z) (keys_in ks) (length ks) i (sym start.0 ∙ e);
      there = subst (AllByRecursion (λ (i : ℕ). i < length ks)) (sym c.requires.empty) tt;
      are = ap (λ l. filter (meets z c.args.low) (take next (map card_in ks)) ++ cards_at (map card_in ks) (reverse l)) c.requires.empty ∙ append-nil _ ∙ start.1;
    }

pub returns-then-kept-low-clause-are : goal.returns-then-kept-low-clause-are
returns-then-kept-low-clause-are c =
    let ks = c.args.rows.now in
    let n = c.loop-next.next - 1 in
    let up = c.loop-next-test.true in
    let in_all = c.loop-next.invariant.within in
    let within : n < length ks = omega (arith, up, in_all) in
    let same : n + 1 ≡ c.loop-next.next = omega (arith, up) in
    let none = stopped_walk c.args.mask c.args.last.now ks c.requires.linked c.args.key c.args.low n c.index-rows-at.result within c.index-rows-at.is c.if-kept-low.true in
    let fits : SFits w64 c.args.key = c.ranges.key in
    let are = subst (λ z. filter (meets z c.args.low) (take c.loop-next.next (map card_in ks)) ++ cards_at (map card_in ks) (reverse c.loop-next.found.items) ≡ filter (meets z c.args.low) (map card_in ks)) (to_z-of_z fits) c.loop-next.invariant.are in
    sym (ap (λ l. l ++ cards_at (map card_in ks) (reverse c.loop-next.found.items)) (ap (λ m. filter (meets c.args.key c.args.low) (take m (map card_in ks))) (sym same) ∙ none)) ∙ are

pub loop-next-preserved : goal.loop-next-preserved
loop-next-preserved c =
    let ks = c.args.rows.now in
    let mask = c.args.mask in
    let z = to_z w64 (of_z w64 c.args.key) in
    let k = c.index-rows-at.result in
    let n = c.loop-next.next - 1 in
    let up = c.loop-next-test.true in
    let in_all = c.loop-next.invariant.within in
    let within : n < length ks = omega (arith, up, in_all) in
    let same : n + 1 ≡ c.loop-next.next = omega (arith, up) in
    let b = c.loop-next.invariant.chain n (sym same) in
    let to = c.requires.linked.links n k within c.index-rows-at.is in
    let own = ap (bucket_of mask) (sym (keys_at ks n k within c.index-rows-at.is)) ∙ b in
    let less = last_within mask (bucket_of mask k.key) (keys_in ks) n in
    let pushed = c.in_ok-push_if.ensures ∙ ap (λ t. c.loop-next.found.items ++ cond t (n ∷ []) []) c.meets.ensures in
    record {
      within = subst (λ m. m ≤ length ks) (sym to) (omega (arith, less, within));
      chain = λ i e. last_there mask (bucket_of mask z) (keys_in ks) n i (sym (to ∙ ap (λ b. last_in mask b (keys_in ks) n) own) ∙ e);
      there = there_more (λ (i : ℕ). i < length ks) n c.meets.result c.loop-next.found.items c.push_if.new.found.items within c.loop-next.invariant.there c.in_ok-push_if.ensures;
      are = stepped_walk mask c.args.last.now ks c.requires.linked z c.args.low n k c.loop-next.found.items c.push_if.new.found.items _ within c.index-rows-at.is b pushed (ap (λ m. filter (meets z c.args.low) (take m (map card_in ks)) ++ cards_at (map card_in ks) (reverse c.loop-next.found.items)) same ∙ c.loop-next.invariant.are);
    }

pub loop-next-smaller : goal.loop-next-smaller
loop-next-smaller c =
    let ks = c.args.rows.now in
    let mask = c.args.mask in
    let k = c.index-rows-at.result in
    let n = c.loop-next.next - 1 in
    let up = c.loop-next-test.true in
    let in_all = c.loop-next.invariant.within in
    let within : n < length ks = omega (arith, up, in_all) in
    let to = c.requires.linked.links n k within c.index-rows-at.is in
    let less = last_within mask (bucket_of mask k.key) (keys_in ks) n in
    omega (arith, to, less, up)
