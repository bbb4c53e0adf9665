-- Counts of faults, call after call.
use Rattle.std.proofs.Common.{◌≡◌, ◌∙◌, ℕ, List, [], ◌∷◌, Bool, true, false, cond, refl, sym, ap, arith}
use Rattle.std.specs.Prelude.{Option, Some, None, Result, Err}
use Rattle.saber_dispatch.specs.declared.ends.End.{End}
use Rattle.saber_dispatch.specs.declared.ends.End.TheVariants.{AllRead, Bad, ReadFault, TooWide, NoMemory}
use Rattle.saber_fragment.specs.declared.blocks.Block.{Block}
use Rattle.saber_dispatch.specs.declared.cutter.Cut.{Cut}
use Rattle.saber_dispatch.specs.declared.cutter.Cut.TheVariants as cuts
use Rattle.saber_dispatch.specs.Cutting.{stops, told_end, is_due}
use Rattle.saber_plan.specs.declared.rows.Side.{Side}
use Rattle.saber_plan.specs.declared.rows.Side.TheVariants.{Left, Right}
use Rattle.saber_dispatch.specs.Sources.{RoseAt, NoneFell}

pub none_same : (a : List ℕ) → NoneFell a a
none_same [] = tt
none_same (x ∷ a) = (omega arith, none_same a)

pub none_on : (a b c : List ℕ) → NoneFell a b → NoneFell b c → NoneFell a c
none_on [] [] c h k = k
none_on [] (y ∷ b) c h k = absurd h
none_on (x ∷ a) [] c h k = absurd h
none_on (x ∷ a) (y ∷ b) [] h k = absurd k
none_on (x ∷ a) (y ∷ b) (z ∷ c) h k = (omega (arith, h.0, k.0), none_on a b c h.1 k.1)

rose_left : (a b c : List ℕ) → NoneFell a b → RoseAt Left b c → RoseAt Left a c
rose_left [] [] c h k = absurd k
rose_left [] (y ∷ b) c h k = absurd h
rose_left (x ∷ a) [] c h k = absurd h
rose_left (x ∷ a) (y ∷ b) [] h k = absurd k
rose_left (x ∷ a) (y ∷ b) (z ∷ c) h k = omega (arith, h.0, k)

rose_right : (a b c : List ℕ) → NoneFell a b → RoseAt Right b c → RoseAt Right a c
rose_right [] [] c h k = absurd k
rose_right [] (y ∷ b) c h k = absurd h
rose_right (x ∷ a) [] c h k = absurd h
rose_right (x ∷ []) (y ∷ []) c h k = absurd k
rose_right (x ∷ []) (y ∷ w ∷ b) c h k = absurd h.1
rose_right (x ∷ v ∷ a) (y ∷ []) c h k = absurd h.1
rose_right (x ∷ v ∷ a) (y ∷ w ∷ b) [] h k = absurd k
rose_right (x ∷ v ∷ a) (y ∷ w ∷ b) (z ∷ []) h k = absurd k
rose_right (x ∷ v ∷ a) (y ∷ w ∷ b) (z ∷ u ∷ c) h k = omega (arith, h.1.0, k)

pub rose_on : (side : Side) (a b c : List ℕ) → NoneFell a b → RoseAt side b c → RoseAt side a c
rose_on Left a b c h k = rose_left a b c h k
rose_on Right a b c h k = rose_right a b c h k

-- a read fault is the end that comes in place of a block
pub fault_stops : (filled : Result (Unit {0}) End) (count : ℕ) (end : End) (side : Side) → filled ≡ Err (ReadFault side) → stops filled count ≡ Some end → end ≡ ReadFault side
fault_stops filled count end side f e = let same : Some (ReadFault side) ≡ Some end = sym (ap (λ r. stops r count) f) ∙ e in cc

pub fault_goes_on : (filled : Result (Unit {0}) End) (count : ℕ) (side : Side) → filled ≡ Err (ReadFault side) → stops filled count ≡ None → ⊥
fault_goes_on filled count side f e = let same : Some (ReadFault side) ≡ None = sym (ap (λ r. stops r count) f) ∙ e in cc

-- and so is want of memory
pub lack_stops : (filled : Result (Unit {0}) End) (count : ℕ) (end : End) → filled ≡ Err NoMemory → stops filled count ≡ Some end → end ≡ NoMemory
lack_stops filled count end f e = let same : Some NoMemory ≡ Some end = sym (ap (λ r. stops r count) f) ∙ e in cc

pub lack_goes_on : (filled : Result (Unit {0}) End) (count : ℕ) → filled ≡ Err NoMemory → stops filled count ≡ None → ⊥
lack_goes_on filled count f e = let same : Some NoMemory ≡ None = sym (ap (λ r. stops r count) f) ∙ e in cc

pub all_not_fault : (side : Side) → ◌≡◌ {A = Option End} (Some AllRead) (Some (ReadFault side)) → ⊥
all_not_fault side e = cc

-- nor is a task that is too wide, or want of memory, that all is read, or a fault
pub wide_not_all : (task needs : ℕ) (end : End) → end ≡ TooWide task needs → ◌≡◌ {A = Option End} (Some end) (Some AllRead) → ⊥
wide_not_all task needs end w e = cc

pub wide_not_fault : (task needs : ℕ) (end : End) (side : Side) → end ≡ TooWide task needs → ◌≡◌ {A = Option End} (Some end) (Some (ReadFault side)) → ⊥
wide_not_fault task needs end side w e = cc

pub wide_no_fault : (task needs : ℕ) (end : End) (side : Side) → end ≡ TooWide task needs → end ≡ ReadFault side → ⊥
wide_no_fault task needs end side w e = cc

pub lack_not_all : ◌≡◌ {A = Option End} (Some NoMemory) (Some AllRead) → ⊥
lack_not_all e = cc

pub lack_not_fault : (side : Side) → ◌≡◌ {A = Option End} (Some NoMemory) (Some (ReadFault side)) → ⊥
lack_not_fault side e = cc

pub lack_no_fault : (side : Side) → ◌≡◌ {A = End} NoMemory (ReadFault side) → ⊥
lack_no_fault side e = cc

-- a block is no end
pub block_no_end : (b : Block) (end : End) → ◌≡◌ {A = Cut} (cuts.Block b) (cuts.Ended end) → ⊥
block_no_end b end e = cc

pub same_told : (a b : End) → ◌≡◌ {A = Cut} (cuts.Ended a) (cuts.Ended b) → a ≡ b
same_told a b e = cc

-- only where all is read is the end's block to come
off : true ≡ false → ⊥
off e = cc

pub due_all : (flush : Bool) (count : ℕ) (end : End) → is_due flush count end ≡ true → end ≡ AllRead
due_all flush count AllRead h = refl
due_all flush count (Bad s l c) h = absurd (off (sym h))
due_all flush count (ReadFault s) h = absurd (off (sym h))
due_all flush count (TooWide t n) h = absurd (off (sym h))
due_all flush count NoMemory h = absurd (off (sym h))

pub not_due : (flush : Bool) (count : ℕ) (end : End) → is_due flush count end ≡ true → is_due flush count end ≡ false → ⊥
not_due flush count end h k = off (sym h ∙ k)

-- the end that is told where no block of it is to come
pub told_as : (flush : Bool) (count : ℕ) (ended : Option End) (end : End) → ended ≡ Some end → is_due flush count end ≡ false → told_end flush count ended ≡ Some end
told_as flush count ended end e h = ap (told_end flush count) e ∙ ap (λ b. cond {A = Option End} b None (Some end)) h

-- a fault is told at once
pub fault_told : (flush : Bool) (count : ℕ) (ended : Option End) (side : Side) → told_end flush count ended ≡ Some (ReadFault side) → ended ≡ Some (ReadFault side)
fault_told flush count None side e = e
fault_told flush count (Some AllRead) side e = absurd (by_case (is_due flush count AllRead) e) where
  by_case : (b : Bool) → cond {A = Option End} b None (Some AllRead) ≡ Some (ReadFault side) → ⊥
  by_case true i = cc
  by_case false i = cc
fault_told flush count (Some (Bad s l c)) side e = e
fault_told flush count (Some (ReadFault s)) side e = e
fault_told flush count (Some (TooWide t n)) side e = e
fault_told flush count (Some NoMemory) side e = e
