use Rattle.notation.proofs.RankSteps.{Ranked}
use Rattle.notation.proofs.fen.placement.placement.Given as goal

abbrev pub invariant-loop-row : goal.invariant-loop-row
invariant-loop-row l = Ranked l.text l.codes l.row l.rest
