-- The squares of a line between two of it.
use Rattle.std.specs.Prelude.{◌≡◌, ℕ, ◌/◌, ◌%◌, ◌<◌, cond, List, ◌==◌, ◌≢◌, nat_lt, slice_index}
use Rattle.board.specs.declared.side.Side.{Side}
use Rattle.board.specs.Rule.{Line, On, StrictlyBetween, Mover}

-- every square of the line strictly between s and t is empty
abbrev pub Free : Line → List ℕ → ℕ → ℕ → Type 0
Free line codes s t = (u : ℕ) → u < 64 → On line s u → On line u t → StrictlyBetween s u t → slice_index codes u ≡ 0

-- from one square of a line to the next higher one
abbrev pub line_step : ℕ → ℕ → ℕ
line_step low high = cond (low / 8 == high / 8) 1 (cond (low % 8 == high % 8) 8 (cond (nat_lt (low % 8) (high % 8)) 9 7))

-- a line piece of the side moves along a line from s to t
abbrev pub Slides : Side → ℕ → ℕ → ℕ → Type 0
Slides side c s t = (s ≢ t) × ((l : Line) × On l s t × Mover side l c)
