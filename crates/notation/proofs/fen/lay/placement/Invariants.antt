use Rattle.std.proofs.Common.{◌≡◌}
use Rattle.notation.proofs.Laying.{LaidRanks}
use Rattle.notation.proofs.fen.lay.placement.Given as goal

abbrev pub invariant-loop-row : goal.invariant-loop-row
invariant-loop-row l = record { count : l.row-iterator.iter.count ≡ 0; laid : LaidRanks l.initial.text.items l.codes l.text.items l.row-iterator.iter.iter.rest.now }
