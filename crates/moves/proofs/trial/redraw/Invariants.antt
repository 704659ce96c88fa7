use Rattle.std.proofs.Common.{drop}
use Rattle.moves.specs.Change.{SameBut}
use Rattle.moves.proofs.trial.redraw.Given as goal

abbrev pub invariant-loop-square : goal.invariant-loop-square
invariant-loop-square g l = SameBut (drop l.square-index l.squares) (g.B.Board.codes l.board) l.picture
