-- What is said of one or the other.
use Rattle.saber_fragment.specs.declared.one_of.OneOf.{OneOf}
use Rattle.saber_fragment.specs.declared.one_of.OneOf.TheVariants.{First, Second}

-- what each says, of whichever it is
abbrev pub of_one : {A B C : Type 0} → (A → C) → (B → C) → OneOf A B → C
of_one f g (First a) = f a
of_one f g (Second b) = g b

-- of two that are of one kind
abbrev pub OfOne : {A B C D : Type 0} → (A → C → Type 0) → (B → D → Type 0) → OneOf A B → OneOf C D → Type 0
OfOne R S (First a) (First c) = R a c
OfOne R S (Second b) (Second d) = S b d
OfOne R S (First a) (Second d) = ⊥
OfOne R S (Second b) (First c) = ⊥
