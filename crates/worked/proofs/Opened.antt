-- Opens every definition that the worked positions compute with.
use Rattle.std.proofs.Common.{ℕ}
use Rattle.board.specs.Piece.{code_of_letter}
use Rattle.notation.specs.Decimal.{digits_in, digits, read_digits, read_number}
use Rattle.notation.specs.Fields.{rank_text, ranks_text, read_rank, read_ranks, rights_text, read_castling, read_rights}
use Rattle.notation.specs.Fen.{fen, fen_parts}
use Rattle.san.specs.Opened.{san_open}

unfoldable pub all_open : ℕ
unfolding san_open code_of_letter digits_in digits read_digits read_number rank_text ranks_text read_rank read_ranks rights_text read_castling read_rights fen fen_parts
all_open = 0
