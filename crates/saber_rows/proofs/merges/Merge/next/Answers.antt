use Rattle.std.proofs.Common.{◌≡◌, subst, inl, refl, arith, ap, ◌∙◌}
use Rattle.saber_plan.specs.declared.rows.Side.TheVariants.{Left}
use Rattle.saber_rows.specs.declared.heads.Head.{Head}
use Rattle.saber_rows.specs.declared.heads.Look.TheVariants.{Found, Ended, Failed}
use Rattle.saber_rows.specs.declared.merges.Merge.{Merge}
use Rattle.saber_rows.specs.Heads.{head_view, front_of, Looks}
use Rattle.saber_rows.specs.Merging.{merger_of, merge_answer}
use Rattle.saber_rows.proofs.Fronts.{if_some}
use Rattle.saber_rows.proofs.MergedTurns.{again_behind, left_fails, on_left, none_some, front_is, unfailed_yet}
use Rattle.saber_rows.proofs.merges.Merge.next.Goals as goal

pub returns-in-Found-clause-turn : goal.returns-in-Found-clause-turn
returns-in-Found-clause-turn g c m p =
    let right = head_view c.args.self.now.right in
    let a = head_view c.args.self.now.left in
    let b = head_view c.look.new.self in
    let h1 = g.S.Source.left c.args.left.now in
    let h2 = g.S.Source.left c.look.new.source in
    let k : Looks (Found c.in-Found.stamp) Left m.last m.left a b h1 h2 = subst (λ l. Looks l Left m.last m.left a b h1 h2) c.in-Found.is (c.look.ensures.looks Left m.last m.left p.left) in
    on_left m _ (Found c.in-Found.stamp) a b right _ h1 h2 h2 _ _ k (c.lesser_row.ensures.turn m h2 (record { left = k.passed; right = p.right; held = λ h i n. none_some (front_of b) (Found c.in-Found.stamp) h (front_is (Found c.in-Found.stamp) b k.finds) }) k.finds)

pub returns-in-Ended-clause-turn : goal.returns-in-Ended-clause-turn
returns-in-Ended-clause-turn g c m p =
    let right = head_view c.args.self.now.right in
    let a = head_view c.args.self.now.left in
    let b = head_view c.look.new.self in
    let h1 = g.S.Source.left c.args.left.now in
    let h2 = g.S.Source.left c.look.new.source in
    let k : Looks Ended Left m.last m.left a b h1 h2 = subst (λ l. Looks l Left m.last m.left a b h1 h2) c.in-Ended.is (c.look.ensures.looks Left m.last m.left p.left) in
    on_left m _ Ended a b right _ h1 h2 h2 _ _ k (c.right_row.ensures.turn m h2 (record { left = k.passed; right = p.right; held = λ h i n. none_some (front_of b) Ended h (front_is Ended b k.finds) }) k.finds)

pub returns-in-Failed-clause-turn : goal.returns-in-Failed-clause-turn
returns-in-Failed-clause-turn g c m p =
    let right = head_view c.args.self.now.right in
    let a = head_view c.args.self.now.left in
    let b = head_view c.look.new.self in
    let h1 = g.S.Source.left c.args.left.now in
    let h2 = g.S.Source.left c.look.new.source in
    let e = c.in-Failed.end in
    let hr = g.S.Source.left c.args.right.now in
    let k : Looks (Failed e) Left m.last m.left a b h1 h2 = subst (λ l. Looks l Left m.last m.left a b h1 h2) c.in-Failed.is (c.look.ensures.looks Left m.last m.left p.left) in
    on_left m _ (Failed e) a b right _ h1 h2 h2 hr hr k (left_fails m (record { left = b; right = right }) h2 hr (record { left = k.passed; right = p.right; held = λ h i n. none_some (front_of b) (Failed e) h (front_is (Failed e) b k.finds) }) e k.finds)

pub returns-in-Found-clause-right_cause : goal.returns-in-Found-clause-right_cause
returns-in-Found-clause-right_cause g c m p h = c.lesser_row.ensures.cause (unfailed_yet (front_of (head_view c.args.self.now.left)) (front_of (head_view c.args.self.now.right)) h p.held)

pub returns-in-Ended-clause-right_cause : goal.returns-in-Ended-clause-right_cause
returns-in-Ended-clause-right_cause g c m p h = c.right_row.ensures.cause (unfailed_yet (front_of (head_view c.args.self.now.left)) (front_of (head_view c.args.self.now.right)) h p.held)

pub returns-in-Found-clause-left_once : goal.returns-in-Found-clause-left_once
returns-in-Found-clause-left_once g c = c.look.ensures.once

pub returns-in-Ended-clause-left_once : goal.returns-in-Ended-clause-left_once
returns-in-Ended-clause-left_once g c = c.look.ensures.once

pub returns-in-Failed-clause-left_once : goal.returns-in-Failed-clause-left_once
returns-in-Failed-clause-left_once g c = c.look.ensures.once

pub returns-in-Found-clause-right_once : goal.returns-in-Found-clause-right_once
returns-in-Found-clause-right_once g c = c.lesser_row.ensures.once

pub returns-in-Ended-clause-right_once : goal.returns-in-Ended-clause-right_once
returns-in-Ended-clause-right_once g c = c.right_row.ensures.once

pub returns-in-Failed-clause-right_once : goal.returns-in-Failed-clause-right_once
returns-in-Failed-clause-right_once g c = inl refl

pub returns-in-Found-clause-left_count : goal.returns-in-Found-clause-left_count
returns-in-Found-clause-left_count g c = c.look.ensures.count

pub returns-in-Found-clause-left_reads : goal.returns-in-Found-clause-left_reads
returns-in-Found-clause-left_reads g c = c.look.ensures.reads

pub returns-in-Found-clause-right_count : goal.returns-in-Found-clause-right_count
returns-in-Found-clause-right_count g c = c.lesser_row.ensures.count

pub returns-in-Found-clause-right_reads : goal.returns-in-Found-clause-right_reads
returns-in-Found-clause-right_reads g c = c.lesser_row.ensures.reads

pub returns-in-Found-clause-right_good : goal.returns-in-Found-clause-right_good
returns-in-Found-clause-right_good g c = c.lesser_row.ensures.good

pub returns-in-Found-clause-left_rules : goal.returns-in-Found-clause-left_rules
returns-in-Found-clause-left_rules g c = c.lesser_row.ensures.left_rules ∙ c.look.ensures.rules

pub returns-in-Found-clause-right_rules : goal.returns-in-Found-clause-right_rules
returns-in-Found-clause-right_rules g c = c.lesser_row.ensures.right_rules

pub returns-in-Ended-clause-left_count : goal.returns-in-Ended-clause-left_count
returns-in-Ended-clause-left_count g c = c.look.ensures.count

pub returns-in-Ended-clause-left_reads : goal.returns-in-Ended-clause-left_reads
returns-in-Ended-clause-left_reads g c = c.look.ensures.reads

pub returns-in-Ended-clause-right_count : goal.returns-in-Ended-clause-right_count
returns-in-Ended-clause-right_count g c = c.right_row.ensures.count

pub returns-in-Ended-clause-right_reads : goal.returns-in-Ended-clause-right_reads
returns-in-Ended-clause-right_reads g c = c.right_row.ensures.reads

pub returns-in-Ended-clause-right_good : goal.returns-in-Ended-clause-right_good
returns-in-Ended-clause-right_good g c = c.right_row.ensures.good

pub returns-in-Ended-clause-left_rules : goal.returns-in-Ended-clause-left_rules
returns-in-Ended-clause-left_rules g c = c.right_row.ensures.left_rules ∙ c.look.ensures.rules

pub returns-in-Ended-clause-right_rules : goal.returns-in-Ended-clause-right_rules
returns-in-Ended-clause-right_rules g c = c.right_row.ensures.right_rules

pub returns-in-Failed-clause-left_count : goal.returns-in-Failed-clause-left_count
returns-in-Failed-clause-left_count g c = c.look.ensures.count

pub returns-in-Failed-clause-left_reads : goal.returns-in-Failed-clause-left_reads
returns-in-Failed-clause-left_reads g c = c.look.ensures.reads

pub returns-in-Failed-clause-right_count : goal.returns-in-Failed-clause-right_count
returns-in-Failed-clause-right_count g c = omega arith

pub returns-in-Failed-clause-right_reads : goal.returns-in-Failed-clause-right_reads
returns-in-Failed-clause-right_reads g c _ = refl

pub returns-in-Failed-clause-right_good : goal.returns-in-Failed-clause-right_good
returns-in-Failed-clause-right_good g c _ = refl

pub returns-in-Failed-clause-left_rules : goal.returns-in-Failed-clause-left_rules
returns-in-Failed-clause-left_rules g c = c.look.ensures.rules

pub returns-in-Failed-clause-right_rules : goal.returns-in-Failed-clause-right_rules
returns-in-Failed-clause-right_rules g c = refl

pub returns-in-Found-clause-again : goal.returns-in-Found-clause-again
returns-in-Found-clause-again g c =
    let l = c.args.self.now.left in
    let r = c.args.self.now.right in
    let mid : Merge = record { left = c.look.new.self; right = r } in
    if_some _ _ (merge_answer (merger_of c.args.self.now))
    (again_behind (front_of (head_view l)) (front_of (head_view r)) (Found c.in-Found.stamp) (c.look.new.self ≡ l) (c.look.new.source ≡ c.args.left.now)
    (λ a. (c.lesser_row.result ≡ a) × (c.lesser_row.new.self ≡ mid) × (c.lesser_row.new.right ≡ c.args.right.now)) c.in-Found.ensures.again c.lesser_row.ensures.again)
    (λ a h. (h.0.0, h.0.1 ∙ ap (λ (x : Head). record { left = x; right = r }) h.1, h.2, h.0.2))

pub returns-in-Ended-clause-again : goal.returns-in-Ended-clause-again
returns-in-Ended-clause-again g c =
    let l = c.args.self.now.left in
    let r = c.args.self.now.right in
    let mid : Merge = record { left = c.look.new.self; right = r } in
    if_some _ _ (merge_answer (merger_of c.args.self.now))
    (again_behind (front_of (head_view l)) (front_of (head_view r)) Ended (c.look.new.self ≡ l) (c.look.new.source ≡ c.args.left.now)
    (λ a. (c.right_row.result ≡ a) × (c.right_row.new.self ≡ mid) × (c.right_row.new.right ≡ c.args.right.now)) c.in-Ended.ensures.again c.right_row.ensures.again)
    (λ a h. (h.0.0, h.0.1 ∙ ap (λ (x : Head). record { left = x; right = r }) h.1, h.2, h.0.2))
