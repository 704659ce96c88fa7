use Rattle.std.proofs.Common.{eqb, rules}
use borrow.Author.Tests.{tests}
use Rattle.board.specs.Piece.{letter, code_of_letter}
use Rattle.board.proofs.ChainLaws.{least_from_find}
use Rattle.board.proofs.piece.from_letter.Goals as goal

pub returns : goal.returns
unfolding code_of_letter
returns c = least_from_find _ (λ k. eqb (letter k) c.args.byte) _ _ _ c.find.ensures.ran (λ x b q k. search (rules, tests))
