use Rattle.std.proofs.Common.{◌≡◌, ◌<◌, ◌∙◌, List, length, get_or, Some, sym, ap, subst, ℤ, rules}
use Rattle.std.specs.Cmp.{signed_Decides}
use Rattle.std.proofs.lemmas.Slice.Eq.{slice_eq-Decides}
use Rattle.saber_places.specs.Numbering.{number_of, lists_in}
use Rattle.saber_places.proofs.Numbering.{list_of_item}
use Rattle.saber_places.proofs.numbered.Numbered.is_at.Goals as goal

pub returns-in-Some : goal.returns-in-Some
returns-in-Some c t =
    let vs = c.self.inside.lists.items in
    let i = c.args.number in
    let own = c.in-Some.own.now in
    let less : i < length vs = search rules in
    let is : get_or vs i own ≡ own = search rules in
    let (there, here) = list_of_item vs i own less is in
    let same : own.items ≡ c.args.list.now.items = sym c.as_slice.ensures.value ∙ (slice_eq-Decides signed_Decides c.as_slice.result.now c.as_slice-in-Some.result.now c.eq.result c.eq.ensures).0 t ∙ c.as_slice-in-Some.ensures.value in
    subst (λ (ls : List (List ℤ)). number_of c.args.list.now.items ls ≡ Some i) c.self.view_is
    (ap (λ k. number_of k (lists_in vs)) (sym (here ∙ same)) ∙ c.self.invariant.own i there)
