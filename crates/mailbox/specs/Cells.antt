-- The 120 cells, ten to a row: a border of two rows above and below and a column at each side, and the squares within it.
use Rattle.std.specs.Prelude.{◌≡◌, ℕ, ◌+◌, ◌-◌, ◌*◌, ◌/◌, ◌%◌, ◌<◌, ◌≤◌, Bool, cond, ◌&&◌, List, [], ◌∷◌, map, length, nat_eq, nat_le, nat_lt, slice_index}
use Rattle.std.specs.List.{range_with_len}
use Rattle.board.specs.declared.side.Side.{Side}
use Rattle.board.specs.declared.side.Side.TheVariants.{White, Black}
use Rattle.board.specs.declared.piece.Kind.{Kind}
use Rattle.board.specs.declared.piece.Kind.TheVariants.{Pawn, Knight, Bishop, Rook, Queen, King}
use Rattle.board.specs.Below.{some_below}

-- the cell of a square
unfoldable pub cell_of : ℕ → ℕ
cell_of s = 21 + 10 * (s / 8) + s % 8

-- the square of a cell, 64 for the border
unfoldable pub square_of : ℕ → ℕ
square_of c = cond (nat_le 20 c && nat_lt c 100 && nat_le 1 (c % 10) && nat_le (c % 10) 8) (8 * (c / 10 - 2) + (c % 10 - 1)) 64

-- what stands in the cell of a square; the codes that the cells stand for
abbrev pub at_square : List ℕ → ℕ → ℕ
at_square cells s = slice_index cells (cell_of s)

unfoldable pub codes_of : List ℕ → List ℕ
codes_of cells = map (at_square cells) (range_with_len 0 64)

-- the border stands, and within it are codes
abbrev pub Bordered : List ℕ → Type 0
Bordered cells = (c : ℕ) → c < 120 → square_of c ≡ 64 → slice_index cells c ≡ 255

abbrev pub Coded : List ℕ → Type 0
Coded cells = (s : ℕ) → s < 64 → at_square cells s ≤ 12

-- one step in each direction, raised by 11
abbrev pub steps : List ℕ
steps = 12 ∷ 20 ∷ 21 ∷ 22 ∷ 10 ∷ 2 ∷ 1 ∷ 0 ∷ []

-- the leaps from a square to a knight, a king and a pawn that attack it, raised by 21
abbrev pub knight_leaps : List ℕ
knight_leaps = 42 ∷ 33 ∷ 13 ∷ 2 ∷ 0 ∷ 9 ∷ 29 ∷ 40 ∷ []

abbrev pub king_leaps : List ℕ
king_leaps = 31 ∷ 32 ∷ 22 ∷ 12 ∷ 11 ∷ 10 ∷ 20 ∷ 30 ∷ []

abbrev pub pawn_leaps : Side → List ℕ
pawn_leaps White = 10 ∷ 12 ∷ []
pawn_leaps Black = 30 ∷ 32 ∷ []

-- the leaps to a side's piece of a kind; a line piece takes none
abbrev pub leaps_of : Side → Kind → List ℕ
leaps_of side Pawn = pawn_leaps side
leaps_of side Knight = knight_leaps
leaps_of side Bishop = []
leaps_of side Rook = []
leaps_of side Queen = []
leaps_of side King = king_leaps

-- a code stands at one of the leaps from t
unfoldable pub leap_hit : List ℕ → ℕ → ℕ → List ℕ → Bool
leap_hit cells t code leaps = some_below (length leaps) (λ i. nat_eq (slice_index cells (cell_of t + slice_index leaps i - 21)) code)
