use Rattle.std.proofs.Common.{◌≡◌, List, ℤ, Vec, Global, length, sym, ◌∙◌, ap, ap₂}
use Rattle.saber_places.specs.Numbering.{lists_in}
use Rattle.saber_places.proofs.Numbering.{length_in}
use Rattle.saber_partition.specs.declared.keyed.Keyed.{Keyed}
use Rattle.saber_partition.specs.Stores.{own_lists}
use Rattle.saber_partition.proofs.lists.take_all.Goals as goal

pub in_order-requires : goal.in_order-requires
in_order-requires c =
    let lists : lists_in c.into_lists.result.items ≡ c.args.store.now.known = c.into_lists.ensures ∙ c.replace-known.ensures.value in
    ap (λ (v : Vec Keyed Global). length v.items) c.replace-owns.ensures.value ∙ c.requires ∙ sym (ap length lists) ∙ length_in c.into_lists.result.items

pub returns-clause-all : goal.returns-clause-all
returns-clause-all c =
    let lists : lists_in c.into_lists.result.items ≡ c.args.store.now.known = c.into_lists.ensures ∙ c.replace-known.ensures.value in
    c.in_ok-all.ensures ∙ ap₂ (λ (ls : List (List ℤ)) (v : Vec Keyed Global). own_lists ls v.items) lists c.replace-owns.ensures.value
