-- The files that the answers go to, created one after another.
use Rattle.std.proofs.Common.{◌≡◌, ◌≤◌, inl, inr, ℕ, suc, ◌+◌, List, [], ◌∷◌, length, take, Option, Some, None, refl, sym, ◌∙◌, ap, subst, arith, append-nil, append_assoc}
use Rattle.std.proofs.lemmas.List.{take_all}
use Rattle.std.specs.Prelude.{Result, Ok, Err}
use Rattle.saber_io.specs.Outs.{after_naming}
use Rattle.saber_io.specs.declared.outs.CreateFault.{CreateFault as Refusal}
use Rattle.saber_io.specs.declared.outs.CreateFault.TheVariants as fault
use Rattle.saber_notes.specs.declared.early.Early.{Early}
use Rattle.saber_notes.specs.declared.early.Early.TheVariants.{Usage, QueryUnopened, QueryUnread, QueryFault, Unshareable, LeftUnopened, CreateFault, NoMemory}
use Rattle.saber_words.specs.Many.{out_name}
use Rattle.saber_top.specs.Commands.{out_names}
use Rattle.saber_top.specs.Made.{EarlyMade, MadeFirst, IsNotCreated, IsOfCreate, naming_all}

-- a file that failed to be created did not lack memory
pub not_both : {X : Type 0} (r : Result X Refusal) → r ≡ Err fault.Failed → r ≡ Err fault.NoMemory → ⊥
not_both (Ok x) e f = cc
not_both (Err fault.Failed) e f = cc
not_both (Err fault.NoMemory) e f = cc

-- one name and then others
one_more : (old : Option (List (List ℕ))) (name : List ℕ) (names : List (List ℕ)) → naming_all (after_naming old name) names ≡ naming_all old (name ∷ names)
one_more None name names = refl
one_more (Some asked) name names = ap Some (append_assoc asked (name ∷ []) names)

pub no_more : (old : Option (List (List ℕ))) → old ≡ naming_all old []
no_more None = refl
no_more (Some asked) = ap Some (sym (append-nil asked))

just_one : (old : Option (List (List ℕ))) (name : List ℕ) → after_naming old name ≡ naming_all old (name ∷ [])
just_one None name = refl
just_one (Some asked) name = refl

-- all, behind the first
pub all_made : (query : List ℕ) (queries : List (List ℕ)) (old mid new : Option (List (List ℕ))) → mid ≡ after_naming old (out_name query) → new ≡ naming_all mid (out_names queries) → new ≡ naming_all old (out_names (query ∷ queries))
all_made query queries old mid new e f = f ∙ ap (λ x. naming_all x (out_names queries)) e ∙ one_more old (out_name query) (out_names queries)

pub none_made : (old : Option (List (List ℕ))) → old ≡ naming_all old (out_names [])
none_made old = no_more old

-- none, where memory lacks before
pub lacks_first : (others : ℕ) (queries : List (List ℕ)) (old : Option (List (List ℕ))) → MadeFirst queries (EarlyMade others NoMemory) old old
lacks_first others queries old = record { count = 0; few = omega arith; asked = no_more old; matches = tt }

-- each query has one
long : (queries : List (List ℕ)) → length (out_names queries) ≤ length queries
long [] = omega arith
long (query ∷ queries) = omega (arith, long queries)

-- all, where memory lacks behind them
pub lacks_behind : (others : ℕ) (queries : List (List ℕ)) (old new : Option (List (List ℕ))) → new ≡ naming_all old (out_names queries) → MadeFirst queries (EarlyMade others NoMemory) old new
lacks_behind others queries old new e = record {
  count = length (out_names queries);
  few = long queries;
  asked = e ∙ ap (naming_all old) (sym (take_all (length (out_names queries)) (out_names queries) (omega arith)));
  matches = tt;
}

-- the first one is not created
pub first_not : (others : ℕ) (query : List ℕ) (queries : List (List ℕ)) (e : Early) (old new : Option (List (List ℕ))) → IsNotCreated (others + 1) query e old new → MadeFirst (query ∷ queries) (EarlyMade others e) old new
first_not others query queries e old new (inl (k, s)) = subst (λ x. MadeFirst (query ∷ queries) (EarlyMade others x) old new) (sym k) (record { count = 1; few = omega arith; asked = s ∙ just_one old (out_name query); matches = (refl, omega arith) })
first_not others query queries e old new (inr (k, s)) = subst (λ x. MadeFirst (query ∷ queries) (EarlyMade others x) old new) (sym k) (subst (MadeFirst (query ∷ queries) (EarlyMade others NoMemory) old) (sym s) (lacks_first others (query ∷ queries) old))

pub not_kinds : (number : ℕ) (query : List ℕ) (e : Early) (old new : Option (List (List ℕ))) → IsNotCreated number query e old new → IsOfCreate e
not_kinds number query e old new (inl (k, s)) = subst IsOfCreate (sym k) tt
not_kinds number query e old new (inr (k, s)) = subst IsOfCreate (sym k) tt

-- or a later one
later_matches : (others count : ℕ) (e : Early) → IsOfCreate e → EarlyMade (others + 1) e count → EarlyMade others e (suc count)
later_matches others count Usage k h = absurd k
later_matches others count (QueryUnopened number) k h = absurd k
later_matches others count (QueryUnread number) k h = absurd k
later_matches others count (QueryFault number byte cause) k h = absurd k
later_matches others count (Unshareable number) k h = absurd k
later_matches others count LeftUnopened k h = absurd k
later_matches others count (CreateFault number) k h = (h.0 ∙ omega arith, omega arith)
later_matches others count NoMemory k h = tt

pub later_not : (others : ℕ) (query : List ℕ) (queries : List (List ℕ)) (e : Early) (old mid new : Option (List (List ℕ))) → IsOfCreate e → mid ≡ after_naming old (out_name query) → MadeFirst queries (EarlyMade (others + 1) e) mid new → MadeFirst (query ∷ queries) (EarlyMade others e) old new
later_not others query queries e old mid new k m h = record {
  count = suc h.count;
  few = omega (arith, h.few);
  asked = h.asked ∙ ap (λ x. naming_all x (take h.count (out_names queries))) m ∙ one_more old (out_name query) (take h.count (out_names queries));
  matches = later_matches others h.count e k h.matches;
}
