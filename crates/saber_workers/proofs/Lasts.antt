-- What entries that come to the end leave of what the last seat knows.
use Rattle.std.proofs.Common.{◌≡◌, ◌≢◌, ℕ, Bool, true, false, ◌+◌, ◌<◌, ◌≤◌, List, [], ◌∷◌, ◌++◌, refl, sym, ap, ◌∙◌, subst, arith, inl, inr}
use mathlib.Core.Logic.{dite}
use native.Mathlib.Decide.{ℕ_discrete, dec_le}
use Rattle.std.specs.Prelude.{◌⊎◌, Option, Some, None, IfSome}
use Rattle.std.proofs.lemmas.Bool.Decides.{nat_tests}
use Rattle.saber_ring.specs.declared.view.Lead.{Lead}
use Rattle.saber_ring.specs.declared.view.View.{View}
use Rattle.saber_ring.specs.Closing.{IsLast}
use Rattle.saber_ring.specs.Calls.{NotLast}
use Rattle.saber_ring.specs.declared.view.Entry.{Entry}
use Rattle.saber_ring.specs.declared.view.Entry.TheVariants.{Claim, Take, Give}
use Rattle.saber_ring.specs.Shows.{times}
use Rattle.saber_ring.specs.Plays.{Leaves}
use Rattle.saber_workers.specs.Grows.{Grows}
use Rattle.saber_workers.specs.Lasts.{GaveAll, IsClaimed}
use Rattle.saber_workers.proofs.Grows.{times_append}

-- an entry stays
pub still : (e : Entry) (own own' more : List Entry) → own' ≡ own ++ more → times e own ≢ 0 → times e own' ≢ 0
still e own own' more is some z = let p = ap (times e) is ∙ times_append e own more in some (omega arith)

pub gave_more : (k : ℕ) (own own' more : List Entry) → own' ≡ own ++ more → GaveAll k own → GaveAll k own'
gave_more k own own' more is gave t lt = still (Give t) own own' more is (gave t lt)

pub last_entry : (t : ℕ) (own own' : List Entry) → own' ≡ own ++ Give t ∷ [] → times (Give t) own' ≢ 0
last_entry t own own' is z = let p = ap (times (Give t)) is ∙ times_append (Give t) own (Give t ∷ []) in let one : times (Give t) (Give t ∷ []) ≡ 1 = grind (arith, nat_tests) in omega arith

-- a task that was claimed just now
pub just_claimed : (t : ℕ) (own own' : List Entry) → own' ≡ own ++ Claim t ∷ [] → times (Claim t) own' ≢ 0
just_claimed t own own' is z = let p = ap (times (Claim t)) is ∙ times_append (Claim t) own (Claim t ∷ []) in let one : times (Claim t) (Claim t ∷ []) ≡ 1 = grind (arith, nat_tests) in omega arith

-- one more task was taken and given
pub gave_next : (k : ℕ) (own took gave : List Entry) → took ≡ own ++ Take k ∷ [] → gave ≡ took ++ Give k ∷ [] → GaveAll k own → GaveAll (k + 1) gave
gave_next k own took gave one two all t lt = dite (ℕ_discrete t k)
    (λ same. subst (λ (z : ℕ). times (Give z) gave ≢ 0) (sym same) (last_entry k took gave two))
    (λ ne. still (Give t) took gave (Give k ∷ []) two (still (Give t) own took (Take k ∷ []) one (all t (omega arith))))

-- with the first k tasks behind the stage, each was given
pub gave_left : (k : ℕ) (x : Bool) (own : List Entry) → Leaves own k x → GaveAll k own
gave_left k x own left t lt z = let p = left.0 t in absurd (grind (arith, nat_tests))

-- what entries leave has all tasks that were given behind it
pub behind_all : (tasks k : ℕ) (x : Bool) (own : List Entry) → GaveAll tasks own → Leaves own k x → tasks ≤ k
behind_all tasks k x own gave left = dite (dec_le tasks k) (λ le. le) (λ gt. let p = left.0 k in absurd (gave k (omega arith) (grind (arith, nat_tests))))

-- each task was claimed, and one was not: it is none of them
pub all_given : (tasks k : ℕ) (own : List Entry) → ((t : ℕ) → t < tasks → times (Claim t) own ≢ 0) → GaveAll k own → times (Claim k) own ≡ 0 → GaveAll tasks own
all_given tasks k own made gave not_made t lt = gave t (dite (dec_le tasks k) (λ le. omega arith) (λ gt. absurd (made k (omega arith) not_made)))

pub claimed_more : {T : Type 0} (t : ℕ) (lead : Option (Lead T)) (v w : View T) (s : Bool) → Grows v w s → IsClaimed t lead v.own → IsClaimed t lead w.own
claimed_more t lead v w s grows made l is out lt = still (Claim t) v.own w.own grows.0 grows.1 (made l is out lt)

-- a drive of the last seat leaves a stopped stage, or all tasks given
pub done_by : (tasks : ℕ) (r x : Bool) (own : List Entry) → (r ≡ true → x ≡ true) → (r ≡ false → (k : ℕ) × GaveAll k own × (times (Claim k) own ≡ 0)) → ((t : ℕ) → t < tasks → times (Claim t) own ≢ 0) → (x ≡ true) ⊎ GaveAll tasks own
done_by tasks true x own a b made = inl (a refl)
done_by tasks false x own a b made = let o = b refl in inr (all_given tasks o.0 own made o.1 o.2)

pub last_of : {T : Type 0} (o : Option (Lead T)) → IsLast o → (l : Lead T) × (o ≡ Some l) × (l.out ≡ 0)
last_of None h = absurd h
last_of (Some l) h = (l, refl, h)

-- the last seat is held up by none
pub not_held : {T : Type 0} (o : Option (Lead T)) (waits : Option ℕ) → IsLast o → IfSome waits (λ u. NotLast o) → waits ≡ None
not_held o None last others = refl
not_held o (Some u) last others = let l = last_of o last in absurd (others l.0 l.1 l.2)
