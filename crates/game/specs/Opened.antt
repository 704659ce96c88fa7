-- For proofs by computing: opens every definition of the record and its calls, of SAN, of the rules and of the board.
use Rattle.std.specs.Prelude.{ℕ}
use Rattle.san.specs.Opened.{san_open}
use Rattle.game.specs.Record.{remark_bytes}
use Rattle.game.specs.Lines.{place, allowed, all_allowed}
use Rattle.game.specs.Words.{words, is_bad_remark, kept, remark_answer}
use Rattle.game.specs.Results.{is_wrong}
use Rattle.game.specs.Calls.{refused, done}
use Rattle.game.specs.Standing.{line_moves, available, same_position, times, occurrences, standing}

unfoldable pub game_open : ℕ
unfolding san_open remark_bytes place allowed all_allowed words is_bad_remark kept remark_answer is_wrong refused done line_moves available same_position times occurrences standing
game_open = 0
