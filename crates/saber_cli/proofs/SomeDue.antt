-- Something is due for each command that is no chain, whatever the files have.
use Rattle.std.proofs.Common.{◌≡◌, ℕ, List, [], ◌∷◌, ◌++◌, length, Bool, true, false, Option, Some, None, inl, inr, refl, sym, ◌∙◌, arith}
use Rattle.std.proofs.lemmas.Bool.Decides.{nat_tests}
use Rattle.std.specs.Prelude.{◌==◌}
use Rattle.saber_io.specs.Outside.{content_in}
use Rattle.saber_plan.specs.Files.{input_of}
use Rattle.saber_plan.specs.Sizes.{limits_of}
use Rattle.saber_plan.specs.Trees.{Tree}
use Rattle.saber_query.specs.Spelling.{spelled_text}
use Rattle.saber_query.specs.Trees.{query_of}
use Rattle.saber_query.specs.Words.{words}
use Rattle.saber_check.proofs.PlanOrFault.{plan_or_fault}
use Rattle.saber_words.specs.Commands.{Asked, run, check, demo, chain, AskedRun, AskedCheck}
use Rattle.saber_cli.specs.Demo.{summary_of_run, tasks_of_run}
use Rattle.saber_cli.specs.Due.{Contents, Due, missing, faulty, unlike, shows, tells, runs, HasRun, IsDueFor, IsLike, contents_of, row_names}
use Rattle.saber_cli.proofs.DueLemmas.{HasQuery}

abbrev pub IsNoChain : Asked → Type 0
IsNoChain (run r) = Unit {0}
IsNoChain (check c) = Unit {0}
IsNoChain (demo d) = Unit {0}
IsNoChain (chain a) = ⊥

pub no_chain : (c : Asked) → HasQuery c → IsNoChain c
no_chain (run r) h = tt
no_chain (check c) h = tt
no_chain (demo d) h = tt
no_chain (chain a) h = h

abbrev pub SomeDue : Contents → Asked → Type 0
SomeDue files c = (d : Due) × IsDueFor files c d

-- ---- a run

same_count : (a b : ℕ) → (a == b) ≡ true → a ≡ b
same_count a b e = grind (arith, nat_tests)

other_count : (a b : ℕ) → (a == b) ≡ false → a ≡ b → ⊥
other_count a b e h = let t : (a == b) ≡ true = grind (arith, nat_tests) in let clash : true ≡ false = sym t ∙ e in cc

of_rows : (files : Contents) (r : AskedRun) (q : Tree) → HasRun files r q → IsLike r q → (o : Option (List (List ℕ))) → contents_of files (row_names r) ≡ o → SomeDue files (run r)
of_rows files r q h l None e = (missing, inr (q, h, l, e))
of_rows files r q h l (Some all) e = (runs q r.sizes.task r.sizes.ring r.sizes.flush (input_of q (limits_of r.sizes) all), (all, h, l, e, refl, refl, refl, refl))

of_plan : (files : Contents) (r : AskedRun) (q : Tree) → HasRun files r q → (b : Bool) → (length q.streams == length (row_names r)) ≡ b → SomeDue files (run r)
of_plan files r q h true e = of_rows files r q h (same_count (length q.streams) (length (row_names r)) e) (contents_of files (row_names r)) refl
of_plan files r q h false e = (unlike (length q.streams) (length (row_names r)), (q, h, refl, refl, other_count (length q.streams) (length (row_names r)) e))

of_run : (files : Contents) (r : AskedRun) (o : Option (List ℕ)) → content_in files r.query ≡ o → SomeDue files (run r)
of_run files r None e = (missing, inl e)
of_run files r (Some text) e = elim (plan_or_fault text) [
  | inl h ↦ of_plan files r h.0 (record { text = text; there = e; plan = h.1 }) (length h.0.streams == length (row_names r)) refl
  | inr h ↦ (faulty h.0 h.1, (text, e, h.2))
]

-- ---- a check

of_check : (files : Contents) (c : AskedCheck) (o : Option (List ℕ)) → content_in files c.query ≡ o → SomeDue files (check c)
of_check files c None e = (missing, e)
of_check files c (Some text) e = elim (plan_or_fault text) [
  | inl h ↦ (shows (spelled_text (words (query_of h.1.query.select)) ++ 10 ∷ []), (text, e, (h.0, h.1, refl)))
  | inr h ↦ (faulty h.0 h.1, (text, e, h.2))
]

-- ---- each command

pub some_due : (files : Contents) (c : Asked) → IsNoChain c → SomeDue files c
some_due files (run r) n = of_run files r (content_in files r.query) refl
some_due files (check c) n = of_check files c (content_in files c.query) refl
some_due files (demo d) n = (tells (summary_of_run d.seed d.rows) (tasks_of_run d), (refl, refl))
some_due files (chain a) n = absurd n
