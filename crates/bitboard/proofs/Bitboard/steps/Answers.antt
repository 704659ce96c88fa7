use Rattle.std.proofs.Common.{◌∙◌}
use Rattle.board.specs.Attack.{step}
use Rattle.bitboard.specs.Codes.{codes_of}
use Rattle.bitboard.proofs.HitLaws.{step_answer}
use Rattle.bitboard.proofs.Bitboard.steps.Goals as goal

pub returns : goal.returns
returns c =
    let by = c.args.by in
    let kind = c.args.kind in
    c.meet.ensures
    ∙ step_answer by (codes_of c.args.self.now.words) kind (step by kind) c.args.square.number c.pieces.result c.leapers.result c.args.square.on_board
    c.pieces.ensures (rw c.number.ensures at c.leapers.ensures)
