-- Legal moves.
use Rattle.std.specs.Prelude.{◌≡◌, ℕ, ◌+◌, ◌-◌, Bool, true, false, cond, not, ◌&&◌, ◌||◌, List, [], ◌∷◌, map, Option, ◌==◌, nat_eq, nat_le, nat_lt, slice_index}
use Rattle.std.specs.List.{range_with_len}
use Rattle.board.specs.declared.side.Side.{Side}
use Rattle.board.specs.declared.side.Side.TheVariants.{White, Black}
use Rattle.board.specs.declared.piece.Kind.TheVariants.{King}
use Rattle.board.specs.Below.{some_below, ◌and_then◌}
use Rattle.board.specs.Geometry.{rank}
use Rattle.board.specs.Piece.{other, holds}
use Rattle.board.specs.Attack.{pawn_attack, attacks_from, attacks, in_check}
use Rattle.rules.specs.declared.rights.Castling.{Castling}
use Rattle.rules.specs.Parts.{Parts}
use Rattle.rules.specs.Lawful.{king_home, ahead, lawful}
use Rattle.rules.specs.Move.{Move, numbered_move, mover, is_pawn_move, is_castling, is_square}
use Rattle.rules.specs.Side.{rights_of}
use Rattle.rules.specs.After.{coloured, codes_after, after}

-- a piece of the side
abbrev pub of_side : Side → ℕ → Bool
of_side White c = nat_le 1 c && nat_le c 6
of_side Black c = nat_le 7 c && nat_le c 12

-- the ranks, counted from 0, on which a side's pawns start and promote
abbrev pub pawn_home : Side → ℕ
pawn_home White = 1
pawn_home Black = 6

abbrev pub last_rank : Side → ℕ
last_rank White = 7
last_rank Black = 0

abbrev pub empty : List ℕ → ℕ → Bool
empty codes s = slice_index codes s == 0

-- a pawn goes one square ahead, or two from its first rank, over empty squares
unfoldable pub pawn_advance : List ℕ → Side → ℕ → ℕ → Bool
pawn_advance codes side from to =
    let one = ahead side from in
    (to == one && empty codes to)
    || (rank from == pawn_home side && to == ahead side one && empty codes one && empty codes to)

-- a pawn captures diagonally ahead: an enemy's piece, or a pawn en passant
unfoldable pub pawn_capture : List ℕ → Side → Option ℕ → ℕ → ℕ → Bool
pawn_capture codes side en_passant from to =
    pawn_attack side from to && (of_side (other side) (slice_index codes to) || is_square en_passant to)

-- a pawn promotes, to a knight, bishop, rook or queen, exactly on the last rank
abbrev pub promotes : Side → Move → Bool
promotes side m = cond (rank m.to == last_rank side) (nat_le 2 m.promotion && nat_le m.promotion 5) (m.promotion == 0)

-- castling: the right, no piece between king and rook, and no attack on the king's square, the crossed one and the target
unfoldable pub castles_kingside : List ℕ → Side → Bool → Bool
castles_kingside codes side right =
    let k = king_home side in
    (right && empty codes (k + 1) && empty codes (k + 2))
    and_then (not (attacks (other side) codes k) && not (attacks (other side) codes (k + 1)) && not (attacks (other side) codes (k + 2)))

unfoldable pub castles_queenside : List ℕ → Side → Bool → Bool
castles_queenside codes side right =
    let k = king_home side in
    (right && empty codes (k - 1) && empty codes (k - 2) && empty codes (k - 3))
    and_then (not (attacks (other side) codes k) && not (attacks (other side) codes (k - 1)) && not (attacks (other side) codes (k - 2)))

abbrev pub own_rights : Parts → Castling
own_rights p = rights_of p.rights p.side

unfoldable pub castles : Parts → Move → Bool
castles p m =
    (holds p.codes p.side King m.from && m.from == king_home p.side)
    and_then (
    (nat_eq m.to (king_home p.side + 2) and_then castles_kingside p.codes p.side (own_rights p).kingside)
    || (nat_eq m.to (king_home p.side - 2) and_then castles_queenside p.codes p.side (own_rights p).queenside))

-- a piece moves as its kind does, whatever becomes of its king
unfoldable pub goes : Parts → Move → Bool
goes p m =
    elim (is_pawn_move p m) [
      | true ↦ promotes p.side m && (pawn_advance p.codes p.side m.from m.to || pawn_capture p.codes p.side p.en_passant m.from m.to)
      | false ↦ (m.promotion == 0) && (attacks_from p.side p.codes m.from m.to || castles p m)
    ]

-- a move of an own piece, as its kind goes, to a square with no own piece, that does not leave the own king attacked
unfoldable pub legal : Parts → Move → Bool
legal p m =
    (nat_lt m.to 64 && of_side p.side (mover p m) && not (of_side p.side (slice_index p.codes m.to)))
    and_then (goes p m and_then not (in_check p.side (codes_after p m)))

-- one more than the highest number that a move can have
abbrev pub move_numbers : ℕ
move_numbers = 24576

-- the members of a list that pass
unfoldable pub keep : {X : Type 0} → (X → Bool) → List X → List X
keep f [] = []
keep f (x ∷ xs) = elim (f x) [ true ↦ x ∷ keep f xs | false ↦ keep f xs ]

-- the legal moves, in ascending order of their numbers
unfoldable pub legal_moves : Parts → List Move
legal_moves p = keep (legal p) (map numbered_move (range_with_len 0 move_numbers))

-- the move to a target with a promotion, from a square
abbrev pub going_from : ℕ → ℕ → ℕ → Move
going_from t q s = record { from = s; to = t; promotion = q }

-- from s a piece of the side to move, of the kind with a number, goes legally to a target with a promotion; castling apart
unfoldable pub source : Parts → ℕ → ℕ → ℕ → ℕ → Bool
source p k t q s =
    (slice_index p.codes s == coloured p.side k && not (is_castling p (going_from t q s))) and_then legal p (going_from t q s)

-- there is a legal move
unfoldable pub can_move : Parts → Bool
can_move p = some_below move_numbers (λ n. legal p (numbered_move n))

-- the side to move is mated; it is stalemated
unfoldable pub checkmate : Parts → Bool
checkmate p = in_check p.side p.codes and_then not (can_move p)

unfoldable pub stalemate : Parts → Bool
stalemate p = not (in_check p.side p.codes) and_then not (can_move p)

-- a legal move from a lawful position leads to a lawful one
abbrev pub StaysLawful : Type 0
StaysLawful = (p : Parts) (m : Move) → lawful p ≡ true → legal p m ≡ true → lawful (after p m) ≡ true
