use Rattle.std.proofs.Common.{◌≡◌, ℕ, ◌+◌, List, [], Option, None, arith, ap, subst, ◌∙◌, refl}
use Rattle.saber_check.specs.declared.fault.Fault.{Fault}
use Rattle.saber_check.specs.declared.walk.Walk.{Walk}
use Rattle.saber_check.specs.Names.{decls}
use Rattle.saber_query.specs.Trees.{Query, query_of}
use Rattle.saber_check.specs.Widths.{decl_width, item_width, source_width, second_source_width, where_width, opened_width, group_width, span}
use Rattle.saber_check.specs.Least.{Visits, each, least, earlier}
use Rattle.saber_check.specs.Faults.{items}
use Rattle.saber_check.specs.Walked.{decl_faults, item_faults, source_faults, second_part_faults, where_faults, group_part_faults, faults, select_at, from_at, second_at, where_at, group_at}
use Rattle.saber_check.proofs.Lemmas.{least_append, least_none, earlier_none}
use Rattle.saber_check.proofs.whole.first_fault.Goals as goal

-- one more part
part : (a b : Walk) (n i : ℕ) (f : ℕ → List Fault) (x : Option Fault) → a.index ≡ i → a.least ≡ x → Visits a b n (f a.index) → (b.index ≡ i + n) × (b.least ≡ earlier x (least (f i)))
part a b n i f x e h v = (omega (arith, v.place), v.least ∙ ap (λ y. earlier y (least (f a.index))) h ∙ ap (λ j. earlier x (least (f j))) e)

skipped : (a b : Walk) (n i : ℕ) (x : Option Fault) → a.index ≡ i → a.least ≡ x → Visits a b n [] → (b.index ≡ i + n) × (b.least ≡ x)
skipped a b n i x e h v = (omega (arith, v.place), v.least ∙ ap (λ y. earlier a.least y) least_none ∙ earlier_none a.least ∙ h)

whole : (q : Query) (a b c d e f g h i : Walk) → a.index ≡ 0 → a.least ≡ None →
    Visits a b (decl_width q.decl + span decl_width q.decls) (each decl_width (decl_faults q) 0 a.index (decls q)) →
    Visits b c (2 + opened_width q.word) [] →
    Visits c d (item_width q.item + span item_width q.items) (each item_width (item_faults q) 0 c.index (items q)) →
    Visits d e 1 [] →
    Visits e f (source_width q.from) (source_faults q e.index q.from) →
    Visits f g (second_source_width q.second) (second_part_faults q f.index) →
    Visits g h (where_width q.predicate) (where_faults q g.index) →
    Visits h i (group_width q.group) (group_part_faults q h.index) →
    i.least ≡ least (faults q)
unfolding faults earlier
whole q a b c d e f g h i p l v0 v1 v2 v3 v4 v5 v6 v7 =
    let r0 = part a b _ 0 (λ n. each decl_width (decl_faults q) 0 n (decls q)) None p l v0 in
    let r1 = skipped b c (2 + opened_width q.word) _ _ r0.0 r0.1 v1 in
    let k1 : c.index ≡ select_at q + 1 = omega (arith, r1.0) in
    let r2 = part c d _ (select_at q + 1) (λ n. each item_width (item_faults q) 0 n (items q)) _ k1 r1.1 v2 in
    let r3 = skipped d e 1 _ _ r2.0 r2.1 v3 in
    let k3 : e.index ≡ from_at q + 1 = omega (arith, r3.0) in
    let r4 = part e f _ (from_at q + 1) (λ n. source_faults q n q.from) _ k3 r3.1 v4 in
    let k4 : f.index ≡ second_at q = omega (arith, r4.0) in
    let r5 = part f g _ (second_at q) (second_part_faults q) _ k4 r4.1 v5 in
    let r6 = part g h _ (where_at q) (where_faults q) _ r5.0 r5.1 v6 in
    let r7 = part h i _ (group_at q) (group_part_faults q) _ r6.0 r6.1 v7 in
    simp least_append r7.1

opening : (a b : Walk) (m n : ℕ) → m ≡ n → Visits a b (2 + m) [] → Visits a b (2 + n) []
opening a b m n e v = subst (λ k. Visits a b (2 + k) []) e v

pub returns : goal.returns
returns c = whole (query_of c.args.query.now) _ _ _ _ _ _ _ _ _ refl refl c.decls.ensures (opening _ _ _ _ c.opened_words.ensures c.skip.ensures) c.items.ensures c.skip-2.ensures c.source.ensures c.second_part.ensures c.where_part.ensures c.group_part.ensures
