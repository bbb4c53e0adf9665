-- The plan of a query without a fault is sound.
use Rattle.std.proofs.Common.{◌≡◌, ℕ, ◌+◌, List, [], ◌++◌, true, Option, Some, None, subst}
use Rattle.std.specs.Option.{option_map_or}
use Rattle.saber_plan.specs.Checked.{IsChecked}
use Rattle.saber_query.specs.declared.tree.Source.{Source}
use Rattle.saber_query.specs.Trees.{Query}
use Rattle.saber_check.specs.declared.fault.Fault.{Fault}
use Rattle.saber_check.specs.Least.{each}
use Rattle.saber_check.specs.Widths.{decl_width, item_width}
use Rattle.saber_check.specs.Names.{decls, is_declared}
use Rattle.saber_check.specs.Faults.{items}
use Rattle.saber_check.specs.Walked.{decl_faults, item_faults, source_faults, second_faults, second_part_faults, where_faults, group_part_faults, select_at, from_at, second_at, where_at, group_at, faults}
use Rattle.saber_check.specs.Plans.{plan_tree}
use Rattle.saber_check.proofs.NoFaults.{before, behind}
use Rattle.saber_check.proofs.ColumnLaws.{AreDeclared}
use Rattle.saber_check.proofs.ItemLaws.{keys_law, items_law}
use Rattle.saber_check.proofs.ConditionLaws.{predicate_fits}
use Rattle.saber_check.proofs.PartitionLaws.{partition_fits, lists_fit, word_fits}
use Rattle.saber_check.proofs.StreamLaws.{source_passes, second_passes, streams_fit, columns_fit}

-- none of a query's parts has a fault
record AllPass (q : Query) : Type 0 where
  declarations : each decl_width (decl_faults q) 0 0 (decls q) ≡ []
  items : each item_width (item_faults q) 0 (select_at q + 1) (items q) ≡ []
  first : source_faults q (from_at q + 1) q.from ≡ []
  second : second_part_faults q (second_at q) ≡ []
  predicate : where_faults q (where_at q) ≡ []
  group : group_part_faults q (group_at q) ≡ []

six : (a b c d e f : List Fault) → a ++ b ++ c ++ d ++ e ++ f ≡ [] → (a ≡ []) × (b ≡ []) × (c ≡ []) × (d ≡ []) × (e ≡ []) × (f ≡ [])
six a b c d e f h =
    let l = before (a ++ b ++ c ++ d ++ e) f h in
    let k = before (a ++ b ++ c ++ d) e l in
    let j = before (a ++ b ++ c) d k in
    let i = before (a ++ b) c j in
    (before a b i, behind a b i, behind (a ++ b) c j, behind (a ++ b ++ c) d k, behind (a ++ b ++ c ++ d) e l, behind (a ++ b ++ c ++ d ++ e) f h)

all_pass : (q : Query) → faults q ≡ [] → AllPass q
unfolding faults
all_pass q e =
    let h = six (each decl_width (decl_faults q) 0 0 (decls q)) (each item_width (item_faults q) 0 (select_at q + 1) (items q)) (source_faults q (from_at q + 1) q.from) (second_part_faults q (second_at q)) (where_faults q (where_at q)) (group_part_faults q (group_at q)) e in
    record { declarations = h.0; items = h.1; first = h.2; second = h.3; predicate = h.4; group = h.5 }

second_declared : (q : Query) (j : ℕ) (o : Option Source) → option_map_or (second_faults q (j + 1)) o [] ≡ [] → (s : Source) → o ≡ Some s → is_declared q s.name ≡ true
second_declared q j None e s h = cc
second_declared q j (Some r) e s h =
    let k : r ≡ s = cc in
    subst (λ (x : Source). is_declared q x.name ≡ true) k (source_passes q (j + 1) r (second_passes q (j + 1) r e).1).declared

pub plan_checked : (q : Query) → faults q ≡ [] → IsChecked (plan_tree q)
plan_checked q e =
    let h = all_pass q e in
    let d : AreDeclared q = record { first = (source_passes q (from_at q + 1) q.from h.first).declared; second = second_declared q (second_at q) q.second h.second } in
    let k = keys_law q (group_at q) d h.group in
    let l = lists_fit q (from_at q + 1) d h.first in
    let m = items_law q (select_at q + 1) d h.items in
    record {
      streams = streams_fit q (from_at q + 1) (second_at q) h.first h.second;
      word = word_fits q (from_at q + 1) h.first;
      partition = partition_fits q (from_at q + 1) h.first;
      columns = columns_fit q 0 (from_at q + 1) (second_at q) 0 h.declarations h.first h.second;
      some_items = m.some;
      few_items = m.few;
      items = m.fit;
      few_aggregates = m.few_aggregates;
      aggregates = m.aggregates;
      few_keys = k.few;
      keys = k.there;
      few_lists = l.0;
      lists = l.1;
      predicate = predicate_fits q (where_at q) d h.predicate;
    }
