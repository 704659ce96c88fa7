-- The fields of FEN: how each is written, and how it is read.
use Rattle.std.specs.Prelude.{ℕ, zero, suc, ◌+◌, ◌-◌, ◌*◌, ◌/◌, ◌%◌, Bool, true, false, cond, not, ◌&&◌, ◌||◌, List, [], ◌∷◌, ◌++◌, length, take, drop, replicate, Some, None, Option, ◌==◌, nat_le, nat_lt}
use Rattle.std.specs.Option.{option_map, option_or, unwrap_or}
use Rattle.board.specs.declared.side.Side.{Side}
use Rattle.board.specs.declared.side.Side.TheVariants.{White, Black}
use Rattle.board.specs.Piece.{letter, code_of_letter}
use Rattle.rules.specs.declared.rights.Castling.{Castling}
use Rattle.rules.specs.declared.rights.Rights.{Rights}
use Rattle.notation.specs.Reader.{on, then, past, with, behind}

-- a digit for the empty squares in a row, if there are any
abbrev pub gap_text : ℕ → List ℕ
gap_text zero = []
gap_text (suc n) = (48 + suc n) ∷ []

-- the codes of a rank, behind some empty squares
unfoldable pub rank_text : ℕ → List ℕ → List ℕ
rank_text gap [] = gap_text gap
rank_text gap (c ∷ cs) = cond (c == 0) (rank_text (gap + 1) cs) (gap_text gap ++ (letter c ∷ rank_text 0 cs))

-- a slash behind each rank, and a space behind the last, with n ranks to come
abbrev pub rank_end : ℕ → ℕ
rank_end zero = 32
rank_end (suc n) = 47

-- the codes of a rank, the first being rank 0
abbrev pub rank_codes : ℕ → List ℕ → List ℕ
rank_codes n codes = take 8 (drop (8 * n) codes)

-- the first n ranks, from the top one down
unfoldable pub ranks_text : ℕ → List ℕ → List ℕ
ranks_text zero codes = []
ranks_text (suc n) codes = rank_text 0 (rank_codes n codes) ++ (rank_end n ∷ ranks_text n codes)

abbrev pub is_gap : ℕ → Bool
is_gap b = nat_le 49 b && nat_le b 56

-- the squares that a byte stands for: so many empty ones, or one piece
abbrev pub squares : ℕ → Option (List ℕ)
squares b = cond (is_gap b) (Some (replicate (b - 48) 0)) (option_map (λ c. c ∷ []) (code_of_letter b))

-- what is left of a rank, behind the codes so far: it has eight squares, and no two digits side by side
unfoldable pub read_rank : Bool → List ℕ → List ℕ → Option (List ℕ × List ℕ)
read_rank digit codes [] = cond (nat_le 8 (length codes)) (Some (codes, [])) None
read_rank digit codes (b ∷ t) =
    cond (nat_le 8 (length codes)) (Some (codes, b ∷ t))
    (on (squares b) (λ more.
    cond ((digit && is_gap b) || nat_lt 8 (length (codes ++ more))) None (read_rank (is_gap b) (codes ++ more) t)))

-- n ranks, from the top one down, below the ranks above
unfoldable pub read_ranks : ℕ → List ℕ → List ℕ → Option (List ℕ × List ℕ)
read_ranks zero above t = Some (above, t)
read_ranks (suc n) above t = then (behind (rank_end n) (read_rank false [] t)) (λ codes rest. read_ranks n (codes ++ above) rest)

-- w or b
abbrev pub side_letter : Side → ℕ
side_letter White = 119
side_letter Black = 98

abbrev pub read_side : List ℕ → Option (Side × List ℕ)
read_side t = option_or (with White (past 119 t)) (with Black (past 98 t))

-- a letter for each right, or a hyphen for none
abbrev pub right_text : ℕ → Bool → List ℕ
right_text byte true = byte ∷ []
right_text byte false = []

abbrev pub no_right : Rights → Bool
no_right r = not (r.white.kingside || r.white.queenside || r.black.kingside || r.black.queenside)

unfoldable pub rights_text : Rights → List ℕ
rights_text r =
    cond (no_right r) (45 ∷ [])
    (right_text 75 r.white.kingside ++ (right_text 81 r.white.queenside
    ++ (right_text 107 r.black.kingside ++ right_text 113 r.black.queenside)))

-- whether a letter stands in front
abbrev pub read_right : ℕ → List ℕ → Bool × List ℕ
read_right byte t = unwrap_or (with true (past byte t)) (false, t)

unfoldable pub read_castling : ℕ → ℕ → List ℕ → Castling × List ℕ
read_castling king queen t =
    let k = read_right king t in
    let q = read_right queen k.1 in
    (record { kingside = k.0; queenside = q.0 }, q.1)

unfoldable pub read_rights : List ℕ → Option (Rights × List ℕ)
read_rights t =
    let w = read_castling 75 81 t in
    let b = read_castling 107 113 w.1 in
    let r : Rights = record { white = w.0; black = b.0 } in
    cond (no_right r) (with r (past 45 b.1)) (Some (r, b.1))

-- a square by its file and its rank, or a hyphen for none
abbrev pub en_passant_text : Option ℕ → List ℕ
en_passant_text None = 45 ∷ []
en_passant_text (Some s) = (97 + s % 8) ∷ (49 + s / 8) ∷ []

-- one of eight bytes in a row, the first of which counts as 0
abbrev pub read_eighth : ℕ → List ℕ → Option (ℕ × List ℕ)
read_eighth first [] = None
read_eighth first (b ∷ t) = cond (nat_le first b && nat_lt b (first + 8)) (Some (b - first, t)) None

abbrev pub read_square : List ℕ → Option (ℕ × List ℕ)
read_square t = then (read_eighth 97 t) (λ file t. then (read_eighth 49 t) (λ rank t. Some (8 * rank + file, t)))

abbrev pub read_en_passant : List ℕ → Option (Option ℕ × List ℕ)
read_en_passant t = option_or (with None (past 45 t)) (then (read_square t) (λ s rest. Some (Some s, rest)))
