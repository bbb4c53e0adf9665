use Rattle.std.proofs.Common.{◌≡◌, ◌++◌, ◌∷◌, [], List, ℤ, length, None, sym, ◌∙◌, ap, ap₂, subst, rules}
use Rattle.arrayvec.specs.ArrayVec.{ArrayVec}
use Rattle.std.specs.FinMap.{insert}
use Rattle.saber_places.specs.Numbering.{number_of, lists_in, numbers_in, IsNumbered}
use Rattle.saber_places.proofs.Numbering.{lists_pushed, length_in, number_inserted, numbered_more}
use Rattle.saber_places.proofs.numbered.Numbered.add.Goals as goal

pub invariant_of-self-3 : goal.invariant_of-self-3
invariant_of-self-3 c =
    let vs = c.self.inside.lists.items in
    let es = c.self.inside.order.entries in
    let v = c.args.list in
    let ls = lists_in vs in
    let kept : vs ≡ c.reserve.new.self.items = sym c.reserve.ensures.items in
    let lists : ls ++ v.items ∷ [] ≡ lists_in c.push_reserved.new.self.items = sym (ap lists_in (c.push_reserved.ensures.items ∙ ap (λ (l : List (ArrayVec ℤ)). l ++ v ∷ []) (sym kept)) ∙ lists_pushed vs v) in
    let long : c.len-number.result ≡ length c.reserve.new.self.items = search rules in
    let count : c.len-number.result ≡ length ls = long ∙ ap (λ (l : List (ArrayVec ℤ)). length l) (sym kept) ∙ sym (length_in vs) in
    let tree : insert (numbers_in es) v.items (length ls) ≡ numbers_in c.insert.new.self.entries =
    sym (ap numbers_in c.in_ok-insert.ensures.entries ∙ number_inserted c.copy_of.result c.len-number.result es ∙ ap₂ (insert (numbers_in es)) c.copy_of.ensures count) in
    let new : number_of v.items ls ≡ None = ap (number_of v.items) (c.self.view_is ∙ c.make_room.ensures) ∙ c.requires in
    subst (λ (l : List (List ℤ)). IsNumbered l (numbers_in c.insert.new.self.entries)) lists
    (subst (IsNumbered (ls ++ v.items ∷ [])) tree (numbered_more ls (numbers_in es) c.self.invariant v.items new))
