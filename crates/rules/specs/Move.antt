-- Moves, and what sort of move one is.
use Rattle.std.specs.Prelude.{ℕ, ◌+◌, ◌*◌, ◌/◌, ◌%◌, Bool, false, not, ◌&&◌, ◌||◌, Some, None, Option, ◌==◌, slice_index}
use Rattle.board.specs.declared.piece.Kind.TheVariants.{Pawn, King}
use Rattle.board.specs.Geometry.{file, rank, far}
use Rattle.board.specs.Piece.{holds}
use Rattle.rules.specs.Parts.{Parts}

-- a move: the squares that a piece leaves and reaches, and the number of the kind that a pawn becomes, 2 to 5, or 0
pub record Move : Type 0 where
  pub from : ℕ
  pub to : ℕ
  pub promotion : ℕ

-- moves by number
abbrev pub move_number : Move → ℕ
move_number m = m.from + 64 * m.to + 4096 * m.promotion

abbrev pub numbered_move : ℕ → Move
numbered_move n = record { from = n % 64; to = n / 64 % 64; promotion = n / 4096 }

-- the code of the piece that moves
abbrev pub mover : Parts → Move → ℕ
mover p m = slice_index p.codes m.from

abbrev pub is_pawn_move : Parts → Move → Bool
is_pawn_move p m = holds p.codes p.side Pawn m.from

-- castling is the king's move by two files
abbrev pub is_castling : Parts → Move → Bool
is_castling p m = holds p.codes p.side King m.from && far (file m.from) (file m.to)

-- a pawn's move by two ranks
abbrev pub is_double_step : Parts → Move → Bool
is_double_step p m = is_pawn_move p m && far (rank m.from) (rank m.to)

-- a square is the en passant square
abbrev pub is_square : Option ℕ → ℕ → Bool
is_square None s = false
is_square (Some e) s = e == s

-- a pawn takes en passant
abbrev pub takes_en_passant : Parts → Move → Bool
takes_en_passant p m = is_pawn_move p m && is_square p.en_passant m.to && not (file m.from == file m.to)

abbrev pub is_capture : Parts → Move → Bool
is_capture p m = not (slice_index p.codes m.to == 0) || takes_en_passant p m
