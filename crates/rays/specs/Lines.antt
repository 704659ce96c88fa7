-- What the tables hold, and the first occupied square in a direction.
use Rattle.std.specs.Prelude.{ℕ, zero, suc, ◌+◌, ◌*◌, Bool, not, ◌&&◌, ◌||◌, List, nat_lt, slice_index}
use Rattle.board.specs.declared.side.Side.TheVariants.{White, Black}
use Rattle.board.specs.Below.{all_below, ◌and_then◌}
use Rattle.board.specs.Geometry.{direction, beyond, knight_step, king_step}
use Rattle.board.specs.Attack.{pawn_attack}
use Rattle.rays.specs.Sets.{has}

-- the square s lies beyond the square t in the direction d
unfoldable pub lies : ℕ → ℕ → ℕ → Bool
lies d t s = (nat_lt d 8 && nat_lt t 64) && beyond (direction d) t s

-- the squares between t and s are free
unfoldable pub free_between : ℕ → ℕ → ℕ → ℕ → Bool
free_between occupied d t s = all_below 64 (λ u. not (beyond (direction d) t u && beyond (direction d) u s) || not (has occupied u))

-- s is the first occupied square beyond t
unfoldable pub first_on : ℕ → ℕ → ℕ → ℕ → Bool
first_on occupied d t s = (lies d t s && has occupied s) and_then free_between occupied d t s

-- a piece that leaps attacks t from s: by row of the table, a white pawn, a black pawn, a knight and a king
abbrev pub leap : ℕ → ℕ → ℕ → Bool
leap zero t s = pawn_attack White s t
leap (suc zero) t s = pawn_attack Black s t
leap (suc (suc zero)) t s = knight_step s t
leap (suc (suc (suc k))) t s = king_step s t

-- the entry of a table with 64 to a row
unfoldable pub entry_of : List ℕ → ℕ → ℕ → ℕ
entry_of table row t = slice_index table (64 * row + t)
