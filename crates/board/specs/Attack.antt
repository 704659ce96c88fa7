-- Which squares a piece attacks, on a list of 64 codes.
use Rattle.std.specs.Prelude.{ℕ, ◌+◌, ◌%◌, Bool, false, cond, not, ◌&&◌, ◌||◌, List, ◌==◌, nat_lt, slice_index}
use Rattle.board.specs.declared.side.Side.{Side}
use Rattle.board.specs.declared.side.Side.TheVariants.{White, Black}
use Rattle.board.specs.declared.piece.Kind.{Kind}
use Rattle.board.specs.declared.piece.Kind.TheVariants.{Pawn, Knight, Bishop, Rook, Queen, King}
use Rattle.board.specs.Below.{some_below, all_below, ◌and_then◌}
use Rattle.board.specs.Geometry.{file, rank, direction, beyond, near, knight_step, king_step}
use Rattle.board.specs.Piece.{other, code, holds}

-- t is one of the two squares diagonally ahead of the side's pawn on s
unfoldable pub pawn_attack : Side → ℕ → ℕ → Bool
pawn_attack White s t = rank s + 1 == rank t && near (file s) (file t)
pawn_attack Black s t = rank t + 1 == rank s && near (file s) (file t)

-- a piece of a kind that takes steps, of the side, attacks t from s; a line piece takes none
abbrev pub step : Side → Kind → ℕ → ℕ → Bool
step side Pawn s t = pawn_attack side s t
step side Knight s t = knight_step s t
step side Bishop s t = false
step side Rook s t = false
step side Queen s t = false
step side King s t = king_step s t

-- a code is a piece of the side that moves along direction d: a queen along each, a rook along ranks and files, a bishop along diagonals
unfoldable pub slides : Side → ℕ → ℕ → Bool
slides side d c = c == code side Queen || c == cond (d % 2 == 0) (code side Rook) (code side Bishop)

-- the squares between t and s, which lies beyond t in direction d, are empty
unfoldable pub clear_between : List ℕ → ℕ → ℕ → ℕ → Bool
clear_between codes d t s = all_below 64 (λ u. not (beyond (direction d) t u && beyond (direction d) u s) || slice_index codes u == 0)

-- a line piece of the side on s attacks t, from which it lies in direction d
unfoldable pub attacks_along : Side → List ℕ → ℕ → ℕ → ℕ → Bool
attacks_along side codes d s t = (slides side d (slice_index codes s) && beyond (direction d) t s) and_then clear_between codes d t s

-- the piece on s is the side's and attacks t
unfoldable pub attacks_from : Side → List ℕ → ℕ → ℕ → Bool
attacks_from side codes s t =
    (holds codes side Pawn s && pawn_attack side s t)
    || ((holds codes side Knight s && knight_step s t)
    || ((holds codes side King s && king_step s t)
    || some_below 8 (λ d. attacks_along side codes d s t)))

-- the side attacks t: a piece of it does, from some square
unfoldable pub attacks : Side → List ℕ → ℕ → Bool
attacks side codes t = nat_lt t 64 && some_below 64 (λ s. attacks_from side codes s t)

-- the side is in check: a king of it is attacked
unfoldable pub in_check : Side → List ℕ → Bool
in_check side codes = some_below 64 (λ k. holds codes side King k and_then attacks (other side) codes k)
