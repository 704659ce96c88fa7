use Rattle.std.proofs.Common.{◌≡◌, get_or, sym, ◌∙◌, rules}
use Rattle.bitboard.specs.Codes.{code_at, codes_of}
use Rattle.bitboard.specs.CodeLaws.{codes_at}
use Rattle.board.proofs.SquareLaws.{by_square}
use Rattle.bitboard.proofs.BitboardBoard.look.Goals as goal

pub returns : goal.returns
returns c =
    let words = c.args.self.now.words in
    by_square c.args.square c.new.result c.map_or.result 255 (λ n. get_or (codes_of words) n 0) _ c.new.ensures c.map_or.ensures
    (λ s k. let e : c.map_or.result ≡ code_at words s.number = search rules in e ∙ sym (codes_at words s.number s.on_board))
