-- FEN, written and read.
use Rattle.std.specs.Prelude.{◌≡◌, ℕ, ◌<◌, true, List, [], ◌∷◌, ◌++◌, IfSome, Some, None, Option}
use Rattle.rules.specs.Parts.{Parts}
use Rattle.rules.specs.Lawful.{is_board}
use Rattle.notation.specs.Reader.{then, behind}
use Rattle.notation.specs.Decimal.{digits, read_number}
use Rattle.notation.specs.Fields.{ranks_text, read_ranks, side_letter, read_side, rights_text, read_rights, en_passant_text, read_en_passant}

-- six fields with a space between: piece placement, side to move, castling rights, en passant square, halfmove clock and move number
unfoldable pub fen : Parts → List ℕ
fen p =
    ranks_text 8 p.codes ++ (side_letter p.side ∷ 32 ∷ (rights_text p.rights ++ (32 ∷ (en_passant_text p.en_passant
    ++ (32 ∷ (digits p.clock ++ (32 ∷ digits p.number)))))))

-- nothing stands behind
abbrev pub at_end : Parts → List ℕ → Option Parts
at_end p [] = Some p
at_end p (b ∷ t) = None

-- the parts that a text says, if it is FEN
unfoldable pub fen_parts : List ℕ → Option Parts
fen_parts t =
    then (read_ranks 8 [] t) (λ codes t.
    then (behind 32 (read_side t)) (λ side t.
    then (behind 32 (read_rights t)) (λ rights t.
    then (behind 32 (read_en_passant t)) (λ en_passant t.
    then (behind 32 (read_number t)) (λ clock t.
    then (read_number t) (λ number t.
    at_end (record { codes = codes; side = side; rights = rights; en_passant = en_passant; clock = clock; number = number }) t))))))

-- each position's FEN reads back as that position
abbrev pub ReadsBack : Parts → Type 0
ReadsBack p =
    is_board p.codes ≡ true → IfSome p.en_passant (λ s. s < 64) → p.clock < 65535 → p.number < 65535 → fen_parts (fen p) ≡ Some p

-- a text that is read is the FEN of what it says
abbrev pub OnlyFen : List ℕ → Parts → Type 0
OnlyFen t p = fen_parts t ≡ Some p → p.clock < 65535 → p.number < 65535 → fen p ≡ t
