-- What is drawn of positions, and of what is none, line by line.
use Rattle.std.specs.Prelude.{ℕ, zero, suc, ◌+◌, ◌-◌, ◌*◌, Bool, true, false, cond, List, [], ◌∷◌, ◌++◌, map, length, Ok, Err, codes as bytes, ◌==◌, slice_index}
use Rattle.board.specs.declared.side.Side.{Side}
use Rattle.board.specs.declared.side.Side.TheVariants.{White, Black}
use Rattle.board.specs.Piece.{letter}
use Rattle.board.specs.Attack.{in_check}
use Rattle.faults.specs.declared.SheetFault.{SheetFault}
use Rattle.faults.specs.Numbers.{sheet_number, layer_of}
use Rattle.rules.specs.Parts.{Parts}
use Rattle.rules.specs.Legal.{legal_moves, checkmate, stalemate}
use Rattle.san.specs.Written.{san}
use Rattle.notation.specs.Decimal.{digits}
use Rattle.notation.specs.Fen.{fen}
use Rattle.notation.specs.Answers.{start_answer}

abbrev pub line_feed : ℕ
line_feed = 10

-- the first n squares of a rank, a space before each
unfoldable pub squares_drawn : List ℕ → ℕ → ℕ → List ℕ
squares_drawn codes rank zero = []
squares_drawn codes rank (suc n) = squares_drawn codes rank n ++ (32 ∷ letter (slice_index codes (8 * rank + n)) ∷ [])

-- a rank, counted from 0, behind its number
abbrev pub rank_drawn : List ℕ → ℕ → List ℕ
rank_drawn codes rank = (49 + rank) ∷ (squares_drawn codes rank 8 ++ (line_feed ∷ []))

-- the first n ranks from the eighth down
unfoldable pub ranks_drawn : List ℕ → ℕ → List ℕ
ranks_drawn codes zero = []
ranks_drawn codes (suc n) = ranks_drawn codes n ++ rank_drawn codes (7 - n)

abbrev pub side_name : Side → List ℕ
side_name White = bytes "White"
side_name Black = bytes "Black"

-- whose move it is, and whether that side is in check
abbrev pub turn_drawn : Side → Bool → List ℕ
turn_drawn side check = side_name side ++ (bytes " to move" ++ (cond check (bytes ", in check") [] ++ (line_feed ∷ [])))

-- the letters of the files
abbrev pub files_drawn : List ℕ
files_drawn = bytes "  a b c d e f g h" ++ (line_feed ∷ [])

-- a space before each text
unfoldable pub spaced : List (List ℕ) → List ℕ
spaced [] = []
spaced (t ∷ ts) = 32 ∷ (t ++ spaced ts)

-- single spaces between texts
abbrev pub joined : List (List ℕ) → List ℕ
joined [] = []
joined (t ∷ ts) = t ++ spaced ts

-- a position itself: the ranks, the letters of the files, the turn, and its FEN
unfoldable pub place_drawn : Parts → List ℕ
place_drawn p = ranks_drawn p.codes 8 ++ (files_drawn ++ (turn_drawn p.side (in_check p.side p.codes) ++ (fen p ++ (line_feed ∷ []))))

-- how play goes on: that the side to move is mated or stalemated, or else its legal moves in SAN
unfoldable pub play_drawn : Parts → List ℕ
play_drawn p = cond (checkmate p) (bytes "checkmate") (cond (stalemate p) (bytes "stalemate") (joined (map (san p) (legal_moves p))))

-- a position, how play goes on, and an empty line
abbrev pub position_drawn : Parts → List ℕ
position_drawn p = place_drawn p ++ (play_drawn p ++ (line_feed ∷ line_feed ∷ []))

-- a fault: its number and layer, the byte of its line in the input, and the line's number; and an empty line
unfoldable pub fault_drawn : SheetFault → ℕ → ℕ → List ℕ
fault_drawn f byte line =
    bytes "% fault " ++ (digits (sheet_number f) ++ (bytes " layer " ++ (digits (layer_of (sheet_number f))
    ++ (bytes " byte " ++ (digits byte ++ (bytes " line " ++ (digits line ++ (line_feed ∷ line_feed ∷ []))))))))

-- what is drawn of a line that starts at a byte
abbrev pub line_drawn : List ℕ → ℕ → ℕ → List ℕ
line_drawn text byte line = elim (start_answer text) [ Ok p ↦ position_drawn p | Err f ↦ fault_drawn f byte line ]

-- what is drawn of the rest of an input, behind what has been read of a line; a last line may lack its line feed
unfoldable pub rest_drawn : List ℕ → ℕ → ℕ → List ℕ → List ℕ
rest_drawn read byte line [] = elim read [ [] ↦ [] | b ∷ t ↦ line_drawn (b ∷ t) byte line ]
rest_drawn read byte line (b ∷ t) =
    elim (b == line_feed) [
      | true ↦ line_drawn read byte line ++ rest_drawn [] (byte + length read + 1) (line + 1) t
      | false ↦ rest_drawn (read ++ (b ∷ [])) byte line t
    ]

-- what is drawn of a whole input
abbrev pub input_drawn : List ℕ → List ℕ
input_drawn input = rest_drawn [] 0 1 input
