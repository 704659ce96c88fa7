use Rattle.std.proofs.Common.{◌-◌}
use Rattle.notation.proofs.RankSteps.{Filled}
use Rattle.notation.proofs.fen.placement.rank.Given as goal

abbrev pub invariant-loop-file : goal.invariant-loop-file
invariant-loop-file l = Filled l.text l.codes l.file l.after_gap l.rest

abbrev pub decreases-loop-file : goal.decreases-loop-file
decreases-loop-file l = 8 - l.file
