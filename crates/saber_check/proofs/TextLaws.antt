-- A text with a fault has no plan, and none has two.
use Rattle.std.proofs.Common.{◌≡◌, ℕ, ◌≤◌, List, [], ◌∷◌, ◌++◌, map, append_assoc, append-nil, Ok, sym, ap, ◌∙◌, subst, arith}
use Rattle.std.proofs.lemmas.List.{map-append}
use Rattle.saber_plan.specs.Trees.{Tree}
use Rattle.saber_query.specs.declared.token.Token.{Token}
use Rattle.saber_query.specs.declared.token.Placed.{Placed}
use Rattle.saber_query.specs.declared.fault.Cause.{Cause}
use Rattle.saber_query.specs.declared.fault.Cause.TheVariants.{TooLong, BadByte, NumberRange, Syntax, Depth, DuplicateName, UnknownStream, UnknownColumn, Ambiguous, TooMany, WindowRange, Overlap, Shape, NotGrouped, ExprTooWide, SumTooWide}
use Rattle.saber_query.specs.Trees.{Query, query_of, depth}
use Rattle.saber_query.specs.Words.{words, Begins, Unfit, IsDeep}
use Rattle.saber_query.specs.Real.{AllReal}
use Rattle.saber_query.specs.Parsed.{Parsed}
use Rattle.saber_query.specs.Longest.{Matches}
use Rattle.saber_query.specs.Reading.{token_of}
use Rattle.saber_query.specs.Means.{MeansTree, TextFault}
use Rattle.saber_query.proofs.LongestLemmas.{same_placed, placed_or_bad}
use Rattle.saber_query.proofs.Unique.{one_tree as words_have_one_tree}
use Rattle.saber_check.specs.Plans.{plan_tree}
use Rattle.saber_check.specs.Outcome.{IsFaultless}
use Rattle.saber_check.specs.Texts.{HasPlan, HasFault, means_none, fails_checks}

pub same_query : (text : List ℕ) (p r : Parsed) → MeansTree text p → MeansTree text r → query_of p.select ≡ query_of r.select
same_query text p r m n = words_have_one_tree (query_of p.select) (query_of r.select) (m.words ∙ ap (map token_of) (same_placed text m.placed n.placed m.lexed n.lexed) ∙ sym n.words)

real_behind : (xs ys : List Token) → AllReal (xs ++ ys) → AllReal ys
real_behind [] ys a = a
real_behind (x ∷ xs) ys a = real_behind xs ys a.1

-- the words of a tree that a text means are what comes before a stop and what comes after
split_words : (text : List ℕ) (p : Parsed) (before rest : List Placed) → MeansTree text p → Matches 0 text (Ok (before ++ rest)) → words (query_of p.select) ≡ map token_of before ++ map token_of rest
split_words text p before rest m e = m.words ∙ ap (map token_of) (same_placed text m.placed (before ++ rest) m.lexed e) ∙ map-append token_of before rest

-- so with the next token they begin a tree
begins : (d : ℕ) (q : Query) (before : List Token) (t : Token) (rest : List Token) → AllReal (words q) → words q ≡ before ++ t ∷ rest → depth q ≤ d → Begins d (before ++ t ∷ [])
begins d q before t rest a e h =
    let f : words q ≡ (before ++ t ∷ []) ++ rest = e ∙ sym (append_assoc before (t ∷ []) rest) in
    record { tree = q; rest = rest; words = f; real = real_behind (before ++ t ∷ []) rest (subst AllReal f a); shallow = h }

fits : (q : Query) (before rest : List Token) → AllReal (words q) → words q ≡ before ++ rest → Unfit before rest → ⊥
fits q before [] a e u = u q (e ∙ append-nil before)
fits q before (t ∷ rest) a e u = u (depth q) (begins (depth q) q before t rest a e (omega arith))

shallow : (q : Query) (before rest : List Token) → AllReal (words q) → words q ≡ before ++ rest → depth q ≤ 64 → IsDeep 64 before rest → ⊥
shallow q before [] a e h d = d
shallow q before (t ∷ rest) a e h d = d.none (begins 64 q before t rest a e h)

pub means_or_not : (c : Cause) (b : ℕ) (text : List ℕ) (p : Parsed) → AllReal (words (query_of p.select)) → MeansTree text p → TextFault c b text → ⊥
means_or_not TooLong b text p i m f = omega (arith, f.0, m.short)
means_or_not BadByte b text p i m f = placed_or_bad text m.placed b BadByte m.lexed f.1
means_or_not NumberRange b text p i m f = placed_or_bad text m.placed b NumberRange m.lexed f.1
means_or_not Syntax b text p i m f = fits (query_of p.select) (map token_of f.before) (map token_of f.rest) i (split_words text p f.before f.rest m f.lexed) f.there.none
means_or_not Depth b text p i m f = shallow (query_of p.select) (map token_of f.before) (map token_of f.rest) i (split_words text p f.before f.rest m f.lexed) m.shallow f.there
means_or_not DuplicateName b text p i m f = f
means_or_not UnknownStream b text p i m f = f
means_or_not UnknownColumn b text p i m f = f
means_or_not Ambiguous b text p i m f = f
means_or_not TooMany b text p i m f = f
means_or_not WindowRange b text p i m f = f
means_or_not Overlap b text p i m f = f
means_or_not Shape b text p i m f = f
means_or_not NotGrouped b text p i m f = f
means_or_not ExprTooWide b text p i m f = f
means_or_not SumTooWide b text p i m f = f

pub fault_or_plan : (text : List ℕ) (byte : ℕ) (cause : Cause) (tree : Tree) → HasFault text byte cause → ¬ (HasPlan text tree)
fault_or_plan text byte cause tree (means_none f) p = means_or_not cause byte text p.query p.parsed.real p.means f
fault_or_plan text byte cause tree (fails_checks f) p =
    let P : Query → Type 0 = λ q. IsFaultless q in
    subst P (same_query text p.query f.query p.means f.means) p.faultless f.fails.index cause f.fails.first.there

pub one_plan : (text : List ℕ) (tree other : Tree) → HasPlan text tree → HasPlan text other → tree ≡ other
one_plan text tree other p r = p.same ∙ ap plan_tree (same_query text p.query r.query p.means r.means) ∙ sym r.same
