use Rattle.std.proofs.Common.{length, vec_items}
use Rattle.drawing.proofs.Lines.{GoesOn}
use Rattle.drawing.proofs.draw_input.Given as goal

abbrev pub invariant-loop-rest : goal.invariant-loop-rest
invariant-loop-rest g l = GoesOn l.input (vec_items l.out) l.rest l.line

abbrev pub decreases-loop-rest : goal.decreases-loop-rest
decreases-loop-rest g l = length l.rest
