-- Attacks on a square by the kind of the piece and by direction: how a make of board searches.
use Rattle.std.specs.Prelude.{ℕ, Bool, ◌&&◌, List}
use Rattle.board.specs.declared.side.Side.{Side}
use Rattle.board.specs.declared.piece.Kind.{Kind}
use Rattle.board.specs.Below.{some_below}
use Rattle.board.specs.Piece.{holds}
use Rattle.board.specs.Attack.{attacks_along}

-- a piece of a kind that steps attacks t
unfoldable pub step_hit : Side → List ℕ → Kind → (ℕ → ℕ → Bool) → ℕ → Bool
step_hit side codes kind step t = some_below 64 (λ s. holds codes side kind s && step s t)

-- a line piece attacks t from direction d; from some direction
unfoldable pub line_hit : Side → List ℕ → ℕ → ℕ → Bool
line_hit side codes d t = some_below 64 (λ s. attacks_along side codes d s t)

unfoldable pub lines_hit : Side → List ℕ → ℕ → Bool
lines_hit side codes t = some_below 8 (λ d. line_hit side codes d t)
