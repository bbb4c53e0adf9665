-- The plan of a text is checked; and the first 65,537 bytes of a text tell its plan and its first fault.
use Rattle.std.proofs.Common.{◌≡◌, ℕ, ◌<◌, ◌≤◌, List, [], ◌∷◌, length, take, slice_index_or, refl, sym, ◌∙◌, subst, arith}
use Rattle.std.proofs.lemmas.List.{take_all, length-take}
use Rattle.saber_plan.specs.Trees.{Tree}
use Rattle.saber_plan.specs.Checked.{IsChecked}
use Rattle.saber_query.specs.declared.fault.Cause.{Cause}
use Rattle.saber_query.specs.declared.fault.Cause.TheVariants.{TooLong, BadByte, NumberRange, Syntax, Depth, DuplicateName, UnknownStream, UnknownColumn, Ambiguous, TooMany, WindowRange, Overlap, Shape, NotGrouped, ExprTooWide, SumTooWide}
use Rattle.saber_query.specs.Trees.{Query, query_of}
use Rattle.saber_query.specs.Means.{TextFault}
use Rattle.saber_check.specs.declared.fault.Fault.{Fault}
use Rattle.saber_check.specs.Outcome.{IsFaultless}
use Rattle.saber_check.specs.Faults.{faults}
use Rattle.saber_check.specs.Texts.{HasPlan, HasFault, means_none, fails_checks}
use Rattle.saber_check.proofs.CheckedLaws.{plan_checked}
use Rattle.saber_check.proofs.WalkedLaws.{same_faults}

-- ---- checked

no_faults : (q : Query) (fs : List Fault) → faults q ≡ fs → IsFaultless q → fs ≡ []
no_faults q [] e h = refl
no_faults q (f ∷ fs) e h = absurd (subst (λ gs. ¬ ((k : ℕ) × (k < length gs) × (slice_index_or gs k f ≡ f))) e (h f.index f.cause) (0, omega arith, refl))

-- the plan of a text is checked
pub a_plan_is_checked : (text : List ℕ) (tree : Tree) → HasPlan text tree → IsChecked tree
a_plan_is_checked text tree h = subst IsChecked (sym h.same) (plan_checked (query_of h.query.select) (sym (same_faults (query_of h.query.select)) ∙ no_faults (query_of h.query.select) _ refl h.faultless))

-- ---- the front

-- a text whose front is short is its front
short_front : (text : List ℕ) → length (take 65537 text) ≤ 65536 → take 65537 text ≡ text
short_front text h = let n = length-take 65537 text in take_all 65537 text (omega arith)

front_fault : (c : Cause) (b : ℕ) (text : List ℕ) → TextFault c b (take 65537 text) → TextFault c b text
front_fault TooLong b text h = let n = length-take 65537 text in let l = h.0 in (omega arith, h.1)
front_fault BadByte b text h = subst (TextFault BadByte b) (short_front text h.0) h
front_fault NumberRange b text h = subst (TextFault NumberRange b) (short_front text h.0) h
front_fault Syntax b text h = subst (TextFault Syntax b) (short_front text h.short) h
front_fault Depth b text h = subst (TextFault Depth b) (short_front text h.short) h
front_fault DuplicateName b text h = h
front_fault UnknownStream b text h = h
front_fault UnknownColumn b text h = h
front_fault Ambiguous b text h = h
front_fault TooMany b text h = h
front_fault WindowRange b text h = h
front_fault Overlap b text h = h
front_fault Shape b text h = h
front_fault NotGrouped b text h = h
front_fault ExprTooWide b text h = h
front_fault SumTooWide b text h = h

pub front_has_fault : (text : List ℕ) (byte : ℕ) (cause : Cause) → HasFault (take 65537 text) byte cause → HasFault text byte cause
front_has_fault text byte cause (means_none f) = means_none (front_fault cause byte text f)
front_has_fault text byte cause (fails_checks f) = subst (λ t. HasFault t byte cause) (short_front text f.means.short) (fails_checks f)

pub front_has_plan : (text : List ℕ) (tree : Tree) → HasPlan (take 65537 text) tree → HasPlan text tree
front_has_plan text tree h = subst (λ t. HasPlan t tree) (short_front text h.means.short) h
