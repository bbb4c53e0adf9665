-- The map of key lists as the definitions see it.
use Rattle.std.proofs.Common.{◌≡◌, List, [], map, ℤ, sym, ◌∙◌, Global}
use Rattle.std.proofs.lemmas.List.{nil_from_length}
use Rattle.std.specs.Vec.Iter.{into_iter_len, into_iter_items}
use Rattle.std.specs.declared.vec.IntoIter.{IntoIter}
use Rattle.std.specs.Map.{keys_of}
use Rattle.std.specs.List.Sorted.{IsStrictlySortedBy}
use Rattle.std.specs.BTreeMap.{insert_entry}
use Rattle.std.specs.FinMap.{insert, entries}
use Rattle.arrayvec.specs.ArrayVec.{ArrayVec}
use Rattle.saber_plan.specs.Answers.{key_cmp}
use Rattle.saber_plan.specs.Facts.Parts.{total, exact}
use Rattle.saber_plan.specs.Facts.Maps.{entries-from_rising}
use Rattle.saber_plan.specs.Facts.Trees.{inserted, sorted_seen}
use Rattle.saber_partition.specs.declared.keyed.Keyed.{Keyed}
use Rattle.saber_partition.specs.Lists.{Own}
use Rattle.saber_partition.specs.Stores.{own_of, lists_of}

abbrev own_list : ArrayVec ℤ → List ℤ
own_list v = v.items

-- the entries as they are seen
abbrev pub seen_list : List (ArrayVec ℤ × Keyed) → List (List ℤ × Own)
seen_list es = map (λ e. (e.0.items, own_of e.1)) es

pub list_inserted : (k : ArrayVec ℤ) (v : Keyed) (es : List (ArrayVec ℤ × Keyed)) → lists_of (insert_entry (λ (a b : ArrayVec ℤ). key_cmp a.items b.items) es k v) ≡ insert (lists_of es) k.items (own_of v)
list_inserted k v es = inserted key_cmp own_list own_of total exact k v es

pub entries_seen : (es : List (ArrayVec ℤ × Keyed)) → IsStrictlySortedBy (λ (a b : ArrayVec ℤ). key_cmp a.items b.items) (keys_of es) → entries (lists_of es) ≡ seen_list es
entries_seen es rises = entries-from_rising total exact (seen_list es) (sorted_seen key_cmp own_list own_of es rises)

-- an iterator that gave all has nothing left
pub all_given : {X : Type 0} (it : IntoIter X Global) → into_iter_len it ≡ 0 → into_iter_items it ≡ []
all_given it e = nil_from_length _ (sym it.rest.ok.0 ∙ e)
