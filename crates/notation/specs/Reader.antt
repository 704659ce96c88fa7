-- Readers: each takes a value from the front of a text and leaves the rest, or finds none.
use Rattle.std.specs.Prelude.{ℕ, cond, List, [], ◌∷◌, drop, Some, None, Option, ◌==◌}
use Rattle.std.specs.Option.{option_map}
use Rattle.std.specs.Borrow.{Bor}

-- a value, and then what follows from it
abbrev pub on : {V W : Type 0} → Option V → (V → Option W) → Option W
on None k = None
on (Some v) k = k v

-- what is read, and then what follows from it and the rest
abbrev pub then : {V W : Type 0} → Option (V × List ℕ) → (V → List ℕ → Option W) → Option W
then None k = None
then (Some x) k = k x.0 x.1

-- the rest behind a byte that must stand in front
abbrev pub past : ℕ → List ℕ → Option (List ℕ)
past byte [] = None
past byte (b ∷ t) = cond (b == byte) (Some t) None

-- a value with the rest
abbrev pub with : {V : Type 0} → V → Option (List ℕ) → Option (V × List ℕ)
with v r = option_map (λ t. (v, t)) r

-- a value with a byte behind it
abbrev pub behind : {V : Type 0} → ℕ → Option (V × List ℕ) → Option (V × List ℕ)
behind byte r = then r (λ v t. with v (past byte t))

-- a value with the place behind it, as a value with the rest
abbrev pub rest_of : {U V : Type 0} → (U → V) → List ℕ → Option (U × ℕ) → Option (V × List ℕ)
rest_of f t None = None
rest_of f t (Some x) = Some (f x.0, drop x.1 t)

-- a value with the rest as the code has them, where f says what the value is
abbrev pub read_as : {U V : Type 0} → (U → V) → Option (U × Bor (List ℕ)) → Option (V × List ℕ)
read_as f None = None
read_as f (Some x) = Some (f x.0, x.1.now)
