use Rattle.std.proofs.Common.{◌+◌, ◌*◌, refl, rules}
use borrow.Author.Tests.{tests}
use Rattle.board.specs.declared.piece.Kind.TheVariants.{Pawn}
use Rattle.board.specs.Piece.{other, holds}
use Rattle.board.proofs.ChainLaws.{some_from_any}
use Rattle.rules.specs.Legal.{pawn_home}
use Rattle.moves.proofs.legal.may_promote.Goals as goal

pub returns : goal.returns
returns c =
    let setup = c.args.setup.now in
    some_from_any _ (λ f. holds setup.codes setup.side Pawn (8 * pawn_home (other setup.side) + f)) 8 _ _ c.any.result refl c.any.ensures.ran (λ x b q k. search (rules, tests))
