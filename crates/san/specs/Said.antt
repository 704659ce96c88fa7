-- What a move text says, which moves it matches, and what is said of a move.
use Rattle.std.specs.Prelude.{ℕ, ◌-◌, Bool, true, false, cond, not, ◌&&◌, List, [], ◌∷◌, Some, None, Ok, Err, Option, Result, ◌==◌, nat_eq, nat_le, nat_lt}
use Rattle.board.specs.Below.{some_below, ◌and_then◌}
use Rattle.board.specs.Geometry.{file, rank}
use Rattle.faults.specs.declared.LawsFault.{LawsFault}
use Rattle.faults.specs.declared.LawsFault.TheVariants.{NoMatch, SeveralMatch}
use Rattle.rules.specs.Parts.{Parts}
use Rattle.rules.specs.Move.{Move, mover, is_pawn_move, is_castling, is_capture}
use Rattle.rules.specs.Legal.{legal, legal_moves, keep}

-- a move text says castling, to the queen's side or not; or a kind by its number, an origin file and an origin rank where they are given, a target, and the number of a promotion or 0
pub data Said : Type 0 where
  castling : Bool → Said
  going : ℕ → Option ℕ → Option ℕ → ℕ → ℕ → Said

-- the number of a code's kind
abbrev pub kind_of : ℕ → ℕ
kind_of c = cond (nat_le c 6) c (c - 6)

abbrev pub kind : Parts → Move → ℕ
kind p m = kind_of (mover p m)

-- castling to the queen's side goes down the files
abbrev pub is_queenside : Move → Bool
is_queenside m = nat_lt m.to m.from

-- a mark that is given agrees
abbrev pub agrees : Option ℕ → ℕ → Bool
agrees None n = true
agrees (Some k) n = k == n

-- a pawn text without a file means the target's file
abbrev pub file_agrees : ℕ → Option ℕ → ℕ → ℕ → Bool
file_agrees k None f t = cond (k == 1) (f == file t) true
file_agrees k (Some g) f t = g == f

abbrev pub same : Bool → Bool → Bool
same true b = b
same false b = not b

-- a text matches a move when kind, target, promotion and the given origin marks agree; castling is matched only by a castling text
unfoldable pub matches : Parts → Said → Move → Bool
matches p (castling queenside) m = is_castling p m && same queenside (is_queenside m)
matches p (going k f r t q) m =
    not (is_castling p m) && k == kind p m && t == m.to && q == m.promotion
    && file_agrees k f (file m.from) t && agrees r (rank m.from)

-- the legal moves that a text matches
unfoldable pub matching : Parts → Said → List Move
matching p s = keep (matches p s) (legal_moves p)

-- the one move among them
abbrev pub only : List Move → Result Move LawsFault
only [] = Err NoMatch
only (m ∷ []) = Ok m
only (m ∷ (n ∷ ms)) = Err SeveralMatch

-- the same move from another square
abbrev pub from_square : Move → ℕ → Move
from_square m s = record { from = s; to = m.to; promotion = m.promotion }

-- a rival: another legal move of that kind to the target, from s
unfoldable pub rival_on : Parts → Move → ℕ → Bool
rival_on p m s = (mover p (from_square m s) == mover p m && not (s == m.from)) and_then legal p (from_square m s)

unfoldable pub rival : Parts → Move → Bool
rival p m = some_below 64 (rival_on p m)

-- a rival shares the file; the rank
unfoldable pub rival_on_file : Parts → Move → Bool
rival_on_file p m = some_below 64 (λ s. nat_eq (file s) (file m.from) and_then rival_on p m s)

unfoldable pub rival_on_rank : Parts → Move → Bool
rival_on_rank p m = some_below 64 (λ s. nat_eq (rank s) (rank m.from) and_then rival_on p m s)

pub data Mark : Type 0 where
  unmarked by_file by_rank by_both : Mark

-- the origin mark of a piece other than a pawn: none without rivals; else the file if no rival shares it, else the rank if no rival shares it, else both
unfoldable pub piece_mark : Parts → Move → Mark
piece_mark p m =
    elim (rival p m) [
      | false ↦ unmarked
      | true ↦ elim (rival_on_file p m) [
        | false ↦ by_file
        | true ↦ elim (rival_on_rank p m) [ false ↦ by_rank | true ↦ by_both ]
      ]
    ]

-- a pawn's is its file, only when it captures
unfoldable pub origin_mark : Parts → Move → Mark
origin_mark p m = elim (is_pawn_move p m) [ true ↦ cond (is_capture p m) by_file unmarked | false ↦ piece_mark p m ]

abbrev pub marked_file : Mark → ℕ → Option ℕ
marked_file unmarked f = None
marked_file by_file f = Some f
marked_file by_rank f = None
marked_file by_both f = Some f

abbrev pub marked_rank : Mark → ℕ → Option ℕ
marked_rank unmarked r = None
marked_rank by_file r = None
marked_rank by_rank r = Some r
marked_rank by_both r = Some r

-- what SAN says of a move
unfoldable pub said : Parts → Move → Said
said p m =
    elim (is_castling p m) [
      | true ↦ castling (is_queenside m)
      | false ↦ going (kind p m) (marked_file (origin_mark p m) (file m.from)) (marked_rank (origin_mark p m) (rank m.from)) m.to m.promotion
    ]
