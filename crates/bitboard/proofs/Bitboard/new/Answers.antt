use Rattle.bitboard.specs.CodeLaws.{empty_apart, empty_codes}
use Rattle.bitboard.proofs.Bitboard.new.Goals as goal

pub invariant_of-result : goal.invariant_of-result
invariant_of-result c = record { apart = empty_apart }

pub returns : goal.returns
returns c = empty_codes
