use Rattle.std.proofs.Common.{◌≡◌}
use Rattle.board.specs.Meaning.{put_below}
use Rattle.board.proofs.picture.show.Given as goal

abbrev pub invariant-loop-square : goal.invariant-loop-square
invariant-loop-square g l = g.B.Board.codes l.board ≡ put_below l.square (g.B.Board.codes l.initial.board) l.picture
