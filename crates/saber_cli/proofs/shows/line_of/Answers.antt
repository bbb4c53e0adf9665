use Rattle.std.proofs.Common.{◌≡◌, refl, ℕ, List, [], ◌∷◌, ◌++◌, Result, Ok, Err, IfOk, IfErr, OnOk}
use Rattle.saber_query.specs.declared.fault.QueryFault.{QueryFault}
use Rattle.saber_query.specs.Trees.{query_of}
use Rattle.saber_query.specs.Words.{words}
use Rattle.saber_query.specs.Parsed.{Parsed, IsParsed}
use Rattle.saber_query.specs.Spelling.{spelled_text}
use Rattle.saber_query.specs.Means.{MeansTree}
use Rattle.saber_check.specs.Outcome.{IsFaultless, IsFaultOf}
use Rattle.saber_check.specs.Plans.{plan_tree}
use Rattle.saber_check.specs.Texts.{IsFaultIn}
use Rattle.saber_cli.specs.Due.{Shows}
use Rattle.saber_cli.proofs.ShowLemmas.{check_fault}
use Rattle.saber_cli.proofs.shows.line_of.Goals as goal

-- the line of a query that passes its checks shows the text that means it
shows_line : {T : Type 0} (items : T → List ℕ) (text : List ℕ) (p : Parsed) (r : Result T QueryFault) → IsParsed p.select p.starts → MeansTree text p → OnOk r (IsFaultless (query_of p.select)) → IfOk r (λ out. items out ≡ spelled_text (words (query_of p.select)) ++ 10 ∷ []) → IfOk r (λ out. Shows text (items out))
shows_line items text p (Ok out) i m n e = (plan_tree (query_of p.select), record { query = p; parsed = i; means = m; faultless = n; same = refl }, e)
shows_line items text p (Err f) i m n e = tt

-- a fault of a query is one of the text that means it
fault_in : {T : Type 0} (text : List ℕ) (p : Parsed) (r : Result T QueryFault) → MeansTree text p → IfErr r (IsFaultOf p) → IfErr r (IsFaultIn text)
fault_in text p (Ok out) m f = tt
fault_in text p (Err e) m f = check_fault text p e m f

pub returns-clause-shows : goal.returns-clause-shows
returns-clause-shows c = shows_line (λ out. out.items) c.args.text.now _ c.checked_line-line.result c.checked_line-line.ensures.parsed c.in_ok-query.ensures c.checked_line-line.ensures.faultless c.checked_line-line.ensures.text

pub returns-clause-fault : goal.returns-clause-fault
returns-clause-fault c = fault_in c.args.text.now _ c.checked_line-line.result c.in_ok-query.ensures c.checked_line-line.ensures.fault
