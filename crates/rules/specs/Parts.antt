-- The parts of a position, as plain values.
use Rattle.std.specs.Prelude.{ℕ, true, List, [], ◌∷◌, None, Option}
use Rattle.board.specs.declared.side.Side.{Side}
use Rattle.board.specs.declared.side.Side.TheVariants.{White}
use Rattle.rules.specs.declared.rights.Castling.{Castling}
use Rattle.rules.specs.declared.rights.Rights.{Rights}

-- the codes of the 64 squares, the side to move, the castling rights, the en passant square, the halfmove clock and the move number
pub record Parts : Type 0 where
  pub codes : List ℕ
  pub side : Side
  pub rights : Rights
  pub en_passant : Option ℕ
  pub clock : ℕ
  pub number : ℕ

abbrev pub both_rights : Castling
both_rights = record { kingside = true; queenside = true }

-- the initial position
abbrev pub initial_codes : List ℕ
initial_codes =
    4 ∷ 2 ∷ 3 ∷ 5 ∷ 6 ∷ 3 ∷ 2 ∷ 4 ∷
    1 ∷ 1 ∷ 1 ∷ 1 ∷ 1 ∷ 1 ∷ 1 ∷ 1 ∷
    0 ∷ 0 ∷ 0 ∷ 0 ∷ 0 ∷ 0 ∷ 0 ∷ 0 ∷
    0 ∷ 0 ∷ 0 ∷ 0 ∷ 0 ∷ 0 ∷ 0 ∷ 0 ∷
    0 ∷ 0 ∷ 0 ∷ 0 ∷ 0 ∷ 0 ∷ 0 ∷ 0 ∷
    0 ∷ 0 ∷ 0 ∷ 0 ∷ 0 ∷ 0 ∷ 0 ∷ 0 ∷
    7 ∷ 7 ∷ 7 ∷ 7 ∷ 7 ∷ 7 ∷ 7 ∷ 7 ∷
    10 ∷ 8 ∷ 9 ∷ 11 ∷ 12 ∷ 9 ∷ 8 ∷ 10 ∷ []

abbrev pub initial_parts : Parts
initial_parts = record {
  codes = initial_codes;
  side = White;
  rights = record { white = both_rights; black = both_rights };
  en_passant = None;
  clock = 0;
  number = 1;
}
