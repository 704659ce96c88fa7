-- The laws of a position.
use Rattle.std.specs.Prelude.{ℕ, ◌+◌, ◌-◌, Bool, true, cond, not, ◌&&◌, ◌||◌, List, [], ◌∷◌, length, Some, None, Ok, Err, Option, Result, ◌==◌, nat_le, slice_index}
use Rattle.board.specs.declared.side.Side.{Side}
use Rattle.board.specs.declared.side.Side.TheVariants.{White, Black}
use Rattle.board.specs.declared.piece.Kind.TheVariants.{Pawn, Rook, King}
use Rattle.board.specs.Below.{all_below}
use Rattle.board.specs.Geometry.{rank}
use Rattle.board.specs.Piece.{other, code, holds}
use Rattle.board.specs.Attack.{in_check}
use Rattle.rules.specs.declared.rights.Castling.{Castling}
use Rattle.rules.specs.declared.rights.Rights.{Rights}
use Rattle.rules.specs.declared.breach.Breach.{Breach}
use Rattle.rules.specs.declared.breach.Breach.TheVariants as breach
use Rattle.rules.specs.Parts.{Parts}

-- 64 codes, none above 12
unfoldable pub is_board : List ℕ → Bool
is_board codes = length codes == 64 && all_below 64 (λ s. nat_le (slice_index codes s) 12)

-- how many squares hold a code
unfoldable pub count : ℕ → List ℕ → ℕ
count c [] = 0
count c (x ∷ xs) = cond (x == c) 1 0 + count c xs

unfoldable pub one_king_each : List ℕ → Bool
one_king_each codes = count (code White King) codes == 1 && count (code Black King) codes == 1

abbrev pub is_pawn : ℕ → Bool
is_pawn c = c == code White Pawn || c == code Black Pawn

-- no pawn stands on the first or the last rank
unfoldable pub edges_free : List ℕ → Bool
edges_free codes = all_below 8 (λ f. not (is_pawn (slice_index codes f)) && not (is_pawn (slice_index codes (56 + f))))

-- the home squares of a side's king, and of its rooks on the king's side and on the queen's side
abbrev pub king_home : Side → ℕ
king_home White = 4
king_home Black = 60

abbrev pub kingside_home : Side → ℕ
kingside_home White = 7
kingside_home Black = 63

abbrev pub queenside_home : Side → ℕ
queenside_home White = 0
queenside_home Black = 56

-- a right stands only while its king and rook are at home
abbrev pub right_stands : List ℕ → Side → Bool → ℕ → Bool
right_stands codes side right rook = not right || (holds codes side King (king_home side) && holds codes side Rook rook)

abbrev pub side_rights_stand : List ℕ → Side → Castling → Bool
side_rights_stand codes side r =
    right_stands codes side r.kingside (kingside_home side) && right_stands codes side r.queenside (queenside_home side)

unfoldable pub rights_stand : List ℕ → Rights → Bool
rights_stand codes r = side_rights_stand codes White r.white && side_rights_stand codes Black r.black

-- one rank ahead of a side's man
abbrev pub ahead : Side → ℕ → ℕ
ahead White s = s + 8
ahead Black s = s - 8

-- the rank of an en passant square, counted from 0, by the side to move
abbrev pub en_passant_rank : Side → ℕ
en_passant_rank White = 5
en_passant_rank Black = 2

-- an enemy pawn has just gone over the en passant square: that and the one it came from are empty, it stands one rank nearer, and the clock is 0
unfoldable pub en_passant_stands : List ℕ → Side → Option ℕ → ℕ → Bool
en_passant_stands codes side None clock = true
en_passant_stands codes side (Some e) clock =
    (rank e == en_passant_rank side) && slice_index codes e == 0 && slice_index codes (ahead side e) == 0
    && holds codes (other side) Pawn (ahead (other side) e) && clock == 0

unfoldable pub counters_stand : ℕ → ℕ → Bool
counters_stand clock number = nat_le clock 9999 && nat_le 1 number && nat_le number 9999

-- the laws, each with its breach
abbrev pub laws : Parts → List (Bool × Breach)
laws p =
    (is_board p.codes, breach.Codes)
    ∷ (one_king_each p.codes, breach.Kings)
    ∷ (edges_free p.codes, breach.Pawns)
    ∷ (not (in_check (other p.side) p.codes), breach.Check)
    ∷ (rights_stand p.codes p.rights, breach.Rights)
    ∷ (en_passant_stands p.codes p.side p.en_passant p.clock, breach.EnPassant)
    ∷ (counters_stand p.clock p.number, breach.Counters)
    ∷ []

-- the first of them that does not hold
abbrev pub first_broken : List (Bool × Breach) → Option Breach
first_broken [] = None
first_broken (l ∷ ls) = cond l.0 (first_broken ls) (Some l.1)

unfoldable pub broken : Parts → Option Breach
broken p = first_broken (laws p)

-- all hold
abbrev pub all_hold : List (Bool × Breach) → Bool
all_hold [] = true
all_hold (l ∷ ls) = l.0 && all_hold ls

unfoldable pub lawful : Parts → Bool
lawful p = all_hold (laws p)

-- parts judged: themselves where they are lawful, else the first law that they break
abbrev pub judged : Parts → Result Parts Breach
judged p = elim (broken p) [ None ↦ Ok p | Some b ↦ Err b ]
