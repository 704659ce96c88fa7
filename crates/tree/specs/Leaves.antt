-- The leaves of legal play.
use Rattle.std.specs.Prelude.{ℕ, zero, suc, sum_by}
use Rattle.rules.specs.Parts.{Parts}
use Rattle.rules.specs.After.{after}
use Rattle.rules.specs.Legal.{legal_moves}

-- how many positions legal play leads to in exactly so many moves
unfoldable pub leaf_count : Parts → ℕ → ℕ
leaf_count p zero = 1
leaf_count p (suc n) = sum_by (λ m. leaf_count (after p m) n) (legal_moves p)
