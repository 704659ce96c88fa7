-- How a game stands: occurrences of a position, and draws.
use Rattle.std.specs.Prelude.{ℕ, ◌+◌, ◌-◌, Bool, true, false, cond, not, ◌&&◌, ◌||◌, List, [], ◌∷◌, ◌++◌, length, take, Some, None, Option, ◌==◌, nat_eq, nat_le, slice_index, slice_index_or}
use Rattle.board.specs.declared.side.Side.{Side}
use Rattle.board.specs.declared.side.Side.TheVariants.{White, Black}
use Rattle.board.specs.declared.piece.Kind.TheVariants.{Pawn}
use Rattle.board.specs.Below.{some_below, all_below}
use Rattle.board.specs.Piece.{holds}
use Rattle.board.specs.Attack.{pawn_attack, in_check}
use Rattle.rules.specs.declared.rights.Castling.{Castling}
use Rattle.rules.specs.declared.rights.Rights.{Rights}
use Rattle.rules.specs.Parts.{Parts}
use Rattle.rules.specs.Move.{Move}
use Rattle.rules.specs.After.{after}
use Rattle.rules.specs.Legal.{checkmate, stalemate}
use Rattle.game.specs.declared.standing.Ruling.{Ruling}
use Rattle.game.specs.declared.standing.Ruling.TheVariants as ruling
use Rattle.game.specs.declared.standing.Standing.{Standing}
use Rattle.game.specs.Record.{Item, move, glyph, remark, opening, ending, Game}
use Rattle.game.specs.Lines.{present}

-- the moves of the current line from the start of the game, and those of the lines around it, the outermost first
pub record Moves : Type 0 where
  pub current : List Move
  pub around : List (List Move)

-- a branch takes the place of the last move of its line
abbrev pub moves_on : Moves → Item → Moves
moves_on w (move m) = record { current = w.current ++ (m ∷ []); around = w.around }
moves_on w (glyph n) = w
moves_on w (remark t) = w
moves_on w opening = record { current = take (length w.current - 1) w.current; around = w.around ++ (w.current ∷ []) }
moves_on w ending = record { current = slice_index_or w.around (length w.around - 1) w.current; around = take (length w.around - 1) w.around }

abbrev pub moves_of : Moves → List Item → Moves
moves_of w [] = w
moves_of w (x ∷ xs) = moves_of (moves_on w x) xs

-- the moves from the start to the present position
unfoldable pub line_moves : List Item → List Move
line_moves xs = (moves_of (record { current = []; around = [] }) xs).current

-- the positions along some moves, the first one too
abbrev pub positions : Parts → List Move → List Parts
positions p [] = p ∷ []
positions p (m ∷ ms) = p ∷ positions (after p m) ms

-- the en passant square is available when a pawn of the side to move attacks it
unfoldable pub available : Parts → Option ℕ
available p = elim p.en_passant [
  | None ↦ None
  | Some e ↦ cond (some_below 64 (λ s. holds p.codes p.side Pawn s && pawn_attack p.side s e)) (Some e) None
]

abbrev pub same_side : Side → Side → Bool
same_side White White = true
same_side White Black = false
same_side Black White = false
same_side Black Black = true

abbrev pub same_flag : Bool → Bool → Bool
same_flag true b = b
same_flag false b = not b

abbrev pub same_castling : Castling → Castling → Bool
same_castling a b = same_flag a.kingside b.kingside && same_flag a.queenside b.queenside

abbrev pub same_rights : Rights → Rights → Bool
same_rights a b = same_castling a.white b.white && same_castling a.black b.black

abbrev pub same_square : Option ℕ → Option ℕ → Bool
same_square None None = true
same_square None (Some e) = false
same_square (Some e) None = false
same_square (Some d) (Some e) = d == e

abbrev pub same_codes : List ℕ → List ℕ → Bool
same_codes a b = all_below 64 (λ s. nat_eq (slice_index a s) (slice_index b s))

-- two positions are the same when codes, side, rights and available en passant square agree
unfoldable pub same_position : Parts → Parts → Bool
same_position p q =
    same_side p.side q.side && same_codes p.codes q.codes && same_rights p.rights q.rights && same_square (available p) (available q)

-- how many of some positions are the same as one
unfoldable pub times : Parts → List Parts → ℕ
times p [] = 0
times p (q ∷ qs) = cond (same_position q p) 1 0 + times p qs

-- how often the present position occurred along the moves from the start to it
unfoldable pub occurrences : Game → ℕ
occurrences g = times (present g) (positions g.start (line_moves g.items))

-- a draw by itself from five occurrences or a clock of 150 on, at a claim from three or 100 on; none at mate
abbrev pub draw_ruling : Bool → ℕ → ℕ → Option Ruling
draw_ruling mate clock times =
    cond mate None
    (cond (nat_le 5 times || nat_le 150 clock) (Some ruling.Automatic)
    (cond (nat_le 3 times || nat_le 100 clock) (Some ruling.Claimable) None))

unfoldable pub standing : Game → Standing
standing g =
    let p = present g in
    record {
      check = in_check p.side p.codes;
      checkmate = checkmate p;
      stalemate = stalemate p;
      clock = p.clock;
      occurrences = occurrences g;
      ruling = draw_ruling (checkmate p) p.clock (occurrences g);
    }
