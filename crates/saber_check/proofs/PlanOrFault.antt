-- Each text has a plan or a first fault.
use Rattle.std.proofs.Common.{◌≡◌, ℕ, ◌<◌, List, length, Option, Some, None, slice_index, Contains, refl, sym, subst, arith, ◌⊎◌, inl, inr}
use Rattle.saber_plan.specs.Trees.{Tree}
use Rattle.saber_query.specs.Trees.{query_of}
use Rattle.saber_query.specs.Parsed.{Parsed, IsParsed}
use Rattle.saber_query.specs.Means.{MeansTree}
use Rattle.saber_query.specs.declared.fault.Cause.{Cause}
use Rattle.saber_query.proofs.Meanings.{told as a_text_means_a_query_or_has_a_fault}
use Rattle.saber_check.specs.declared.fault.Fault.{Fault}
use Rattle.saber_check.specs.Least.{least}
use Rattle.saber_check.specs.First.{IsFirst}
use Rattle.saber_check.specs.Walked.{faults, width}
use Rattle.saber_check.specs.Plans.{plan_tree}
use Rattle.saber_check.specs.Texts.{HasPlan, HasFault, means_none, fails_checks}
use Rattle.saber_check.proofs.FirstLaws.{first, none}
use Rattle.saber_check.proofs.WalkedLaws.{same_faults}
use Rattle.saber_check.proofs.WidthLaws.{words_count}
use Rattle.saber_check.proofs.IndexLaws.{fault_inside}

abbrev pub Has : List ℕ → Type 0
Has text = ((tree : Tree) × HasPlan text tree) ⊎ ((byte : ℕ) × (cause : Cause) × HasFault text byte cause)

by_least : (text : List ℕ) (p : Parsed) → IsParsed p.select p.starts → MeansTree text p → (o : Option Fault) → least (faults (query_of p.select)) ≡ o → Has text
by_least text p i m None e = inl (
  plan_tree (query_of p.select),
  record { query = p; parsed = i; means = m; faultless = λ k c h. none (faults (query_of p.select)) e _ (subst (λ (fs : List Fault). Contains fs (record { index = k; cause = c })) (same_faults (query_of p.select)) h); same = refl },
)
by_least text p i m (Some f) e =
    let one = first (faults (query_of p.select)) f e in
    let there : f.index < width (query_of p.select) = fault_inside (query_of p.select) f one.there in
    let inside : f.index < length p.starts = omega (arith, there, words_count (query_of p.select), i.each_word) in
    inr (
      slice_index p.starts f.index,
      f.cause,
      fails_checks (record { query = p; means = m; fails = record { index = f.index; first = subst (IsFirst f) (sym (same_faults (query_of p.select))) one; inside = inside; place = refl } }),
    )

pub plan_or_fault : (text : List ℕ) → Has text
plan_or_fault text = elim (a_text_means_a_query_or_has_a_fault text) [
  | inl h ↦ by_least text h.0 h.1 h.2 (least (faults (query_of h.0.select))) refl
  | inr h ↦ inr (h.0, h.1, means_none h.2)
]
