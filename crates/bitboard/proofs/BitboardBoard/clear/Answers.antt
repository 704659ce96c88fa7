use Rattle.bitboard.specs.CodeLaws.{empty_apart, empty_codes}
use Rattle.bitboard.proofs.BitboardBoard.clear.Goals as goal

pub invariant_of-self : goal.invariant_of-self
invariant_of-self c = record { apart = empty_apart }

pub returns : goal.returns
returns c = empty_codes
