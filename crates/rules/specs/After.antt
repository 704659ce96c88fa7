-- The position after a move.
use Rattle.std.specs.Prelude.{ℕ, ◌+◌, ◌-◌, min, Bool, cond, not, ◌&&◌, ◌||◌, List, Some, None, Option, ◌==◌, nat_lt, slice_set}
use Rattle.board.specs.declared.side.Side.{Side}
use Rattle.board.specs.declared.side.Side.TheVariants.{White, Black}
use Rattle.board.specs.declared.piece.Kind.TheVariants.{Rook}
use Rattle.board.specs.Piece.{other, code}
use Rattle.rules.specs.declared.rights.Castling.{Castling}
use Rattle.rules.specs.declared.rights.Rights.{Rights}
use Rattle.rules.specs.Parts.{Parts}
use Rattle.rules.specs.Lawful.{king_home, kingside_home, queenside_home, ahead}
use Rattle.rules.specs.Move.{Move, mover, is_pawn_move, is_castling, is_double_step, takes_en_passant, is_capture}

-- the code of a side's piece whose kind has a number
abbrev pub coloured : Side → ℕ → ℕ
coloured White n = n
coloured Black n = n + 6

-- what stands on the target: the mover, or what it promotes to
abbrev pub arrival : Parts → Move → ℕ
arrival p m = cond (m.promotion == 0) (mover p m) (coloured p.side m.promotion)

-- a code has gone from one square to another
unfoldable pub moved : List ℕ → ℕ → ℕ → ℕ → List ℕ
moved codes from to c = slice_set (slice_set codes from 0) to c

-- the rook has gone to the square that the castling king crossed
unfoldable pub rook_moved : List ℕ → Side → ℕ → ℕ → List ℕ
rook_moved codes side from to =
    cond (nat_lt from to) (moved codes (kingside_home side) (from + 1) (code side Rook)) (moved codes (queenside_home side) (from - 1) (code side Rook))

-- the codes after a move: a castling move moves the rook too, and one en passant takes the pawn beside its target
unfoldable pub codes_after : Parts → Move → List ℕ
codes_after p m =
    let b = moved p.codes m.from m.to (arrival p m) in
    let castled = rook_moved b p.side m.from m.to in
    let taken = slice_set b (ahead (other p.side) m.to) 0 in
    cond (is_castling p m) castled (cond (takes_en_passant p m) taken b)

-- a move leaves or reaches a square
abbrev pub touches : Move → ℕ → Bool
touches m s = m.from == s || m.to == s

-- a right falls when a move leaves or reaches its king's or its rook's home square
abbrev pub castling_after : Side → Castling → Move → Castling
castling_after side r m = record {
  kingside = r.kingside && not (touches m (king_home side)) && not (touches m (kingside_home side));
  queenside = r.queenside && not (touches m (king_home side)) && not (touches m (queenside_home side));
}

abbrev pub rights_after : Rights → Move → Rights
rights_after r m = record { white = castling_after White r.white m; black = castling_after Black r.black m }

-- the square that a double step just crossed, capturable or not
abbrev pub en_passant_after : Parts → Move → Option ℕ
en_passant_after p m = cond (is_double_step p m) (Some (ahead p.side m.from)) None

-- a counter does not grow past 9,999
abbrev pub counted_on : ℕ → ℕ
counted_on n = min (n + 1) 9999

-- the clock starts anew after a pawn's move or a capture
abbrev pub clock_after : Parts → Move → ℕ
clock_after p m = cond (is_pawn_move p m || is_capture p m) 0 (counted_on p.clock)

-- the number grows after Black's move
abbrev pub number_after : Side → ℕ → ℕ
number_after White n = n
number_after Black n = counted_on n

unfoldable pub after : Parts → Move → Parts
after p m = record {
  codes = codes_after p m;
  side = other p.side;
  rights = rights_after p.rights m;
  en_passant = en_passant_after p m;
  clock = clock_after p m;
  number = number_after p.side p.number;
}
