use Rattle.std.proofs.Common.{◌∙◌}
use Rattle.bitboard.specs.Codes.{codes_of}
use Rattle.bitboard.specs.CodeLaws.{next_is}
use Rattle.bitboard.proofs.BitboardBoard.next.Goals as goal

pub returns : goal.returns
returns c =
    c.lowest.ensures
    ∙ next_is (codes_of c.args.self.now.words) c.args.from c.args.code c.squares.result c.upward.result c.squares.ensures c.upward.ensures
