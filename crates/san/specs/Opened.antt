-- For proofs by computing: opens every definition of SAN, of the rules and of the board.
use Rattle.std.specs.Prelude.{ℕ}
use Rattle.rules.specs.Opened.{rules_open}
use Rattle.san.specs.Said.{matches, matching, rival_on, rival, rival_on_file, rival_on_rank, piece_mark, origin_mark, said}
use Rattle.san.specs.Written.{kind_text, said_text, suffix, san}
use Rattle.san.specs.Text.{read_origin, read_target, read_promotion, read_castling, read_text, move_answer}

unfoldable pub san_open : ℕ
unfolding rules_open matches matching rival_on rival rival_on_file rival_on_rank piece_mark origin_mark said kind_text said_text suffix san read_origin read_target read_promotion read_castling read_text move_answer
san_open = 0
