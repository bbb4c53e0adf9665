-- Expressions that no row makes overflow.
use Rattle.std.specs.Prelude.{ℕ, ◌+◌, ◌*◌, ◌^◌, List, [], ◌∷◌, map, length, true, if◌then◌else◌, nat_lt, Option, Some, None, option_and_then}
use Rattle.std.specs.Option.{option_map_or}
use Rattle.saber_query.specs.declared.token.Token.{Token}
use Rattle.saber_query.specs.declared.tree.Factor.{Factor}
use Rattle.saber_query.specs.declared.tree.Factor.TheVariants as f
use Rattle.saber_query.specs.declared.tree.Prod.{Prod}
use Rattle.saber_query.specs.declared.tree.Term.{Term}
use Rattle.saber_query.specs.declared.tree.Expr.{Expr}
use Rattle.saber_check.specs.declared.fault.Fault.{Fault}
use Rattle.saber_query.specs.declared.fault.Cause.TheVariants.{ExprTooWide}
use Rattle.saber_check.specs.Least.{row}

-- how great a factor can be, without its sign
abbrev pub factor_bound : Factor → ℕ
factor_bound (f.Column c) = 2 ^ 63
factor_bound (f.Number n) = n
factor_bound (f.Negative n) = n

-- a running bound, none past the limit
abbrev pub within : ℕ → Option ℕ
within n = if nat_lt (2 ^ 126) n then None else Some n

-- the factors of a product in order
abbrev pub factors : Prod → List Factor
factors p = p.first ∷ p.more

-- the products of an expression in order
abbrev pub products : Expr → List Prod
products e = e.first ∷ map (λ (t : Term). t.prod) e.more

-- the bound behind all of some parts, where `more` says what one makes of that before it; none where one passes the limit
abbrev pub running : {X : Type 0} → (ℕ → X → Option ℕ) → ℕ → List X → Option ℕ
running more n [] = Some n
running more n (x ∷ xs) = option_and_then (λ m. running more m xs) (more n x)

-- the fault at the first part that passes the limit; the parts stand one after the other, the first at i, with a word between each two
abbrev pub passes : {X : Type 0} → (X → List Token) → (ℕ → X → Option ℕ) → ℕ → ℕ → List X → List Fault
passes words more n i [] = []
passes words more n i (x ∷ xs) = option_map_or (λ m. passes words more m (i + length (words x) + 1) xs) (more n x) (row true i ExprTooWide)

-- with one factor more
abbrev pub times : ℕ → Factor → Option ℕ
times n f = within (n * factor_bound f)

-- the bound of a whole product, none where a running product passes the limit
abbrev pub product_bound : Prod → Option ℕ
product_bound p = running times 1 (factors p)

-- with one product more, none also where that product has none
abbrev pub plus : ℕ → Prod → Option ℕ
plus n p = option_and_then (λ b. within (n + b)) (product_bound p)

-- with one product more; one that passes the limit by itself counts for nothing
abbrev pub plus_fit : ℕ → Prod → Option ℕ
plus_fit n p = option_map_or (λ b. within (n + b)) (product_bound p) (Some n)

-- the bound of an expression
abbrev pub expr_bound : Expr → Option ℕ
expr_bound e = running plus 0 (products e)
