-- What a task's text alone adds to the text of a run, and what it leaves.
use Rattle.std.proofs.Common.{◌≡◌, ℕ, List, [], ◌++◌, flat_map, nat_lt, nat_le, cond, Option, None, Bool, true, false, sym, refl, ◌∙◌, ap, nat_cmp}
use Rattle.std.specs.Cmp.{nat_cmp_total}
use Rattle.std.specs.FinMap.{empty, get, entries, from_entries, retain_keys, same_map, get-empty, get-from_entries, get-retain_keys, nat_cmp-IsAntisymmetric}
use Rattle.saber_plan.specs.Trees.{Tree}
use Rattle.saber_plan.specs.Merges.{join, both}
use Rattle.saber_plan.specs.Facts.Maps.{get-both, join-none, entries-empty}
use Rattle.saber_plan.specs.Parts.{Part, merge, part_lines}
use Rattle.saber_plan.specs.Tasks.{Parts, written_by, left_by}
use Rattle.saber_plan.specs.Shares.{Shares, piece_in}
use Rattle.saber_select.specs.Texts.{text_alone}

abbrev no_parts : Parts
no_parts = empty

abbrev none_made : Parts
none_made = from_entries []

none_at : (i : ℕ) → get none_made i ≡ None
none_at i = get-from_entries nat_cmp_total [] i

none_taken : both merge no_parts none_made ≡ no_parts
none_taken = same_map nat_cmp_total nat_cmp-IsAntisymmetric (both merge no_parts none_made) no_parts (λ i. get-both nat_cmp_total merge no_parts none_made i ∙ ap (join merge (get no_parts i)) (none_at i) ∙ join-none merge (get no_parts i))

none_case : (b : Bool) (o : Option Part) → o ≡ None → cond b o None ≡ o
none_case true o e = refl
none_case false o e = sym e

none_kept : (p : ℕ → Bool) → retain_keys (both merge no_parts none_made) p ≡ no_parts
none_kept p = ap (λ (m : Parts). retain_keys m p) none_taken ∙ same_map nat_cmp_total nat_cmp-IsAntisymmetric (retain_keys no_parts p) no_parts (λ i. get-retain_keys no_parts p i (λ k e. ap p (sym (nat_cmp-IsAntisymmetric i k e))) ∙ none_case (p i) (get no_parts i) (get-empty nat_cmp i))

-- shares that are a text alone add it
pub text_written : (q : Tree) (text : List ℕ) (s : Shares) → text_alone text ≡ s → text ≡ written_by q empty (piece_in s)
unfolding written_by
text_written q text s e =
    sym (ap (λ es. flat_map (λ e. part_lines q e.0 e.1) es ++ text) (ap entries (none_kept (λ i. nat_lt i 0)) ∙ entries-empty nat_cmp)) ∙ ap (λ a. written_by q empty (piece_in a)) e

-- and leave no part
pub none_left : (q : Tree) (text : List ℕ) (s : Shares) → text_alone text ≡ s → empty ≡ left_by q empty (piece_in s)
unfolding left_by
none_left q text s e = sym (none_kept (λ i. nat_le 0 i)) ∙ ap (λ a. left_by q empty (piece_in a)) e
