use Rattle.std.proofs.Common.{false, arith}
use Rattle.std.proofs.lemmas.List.FromFn.{fill_by_all}
use Rattle.board.specs.Piece.{number}
use Rattle.rules.specs.Legal.{source}
use Rattle.laws.specs.Position.{position_parts}
use Rattle.moves.specs.Action.{promotion_number}
use Rattle.moves.proofs.source.sources.Goals as goal

pub returns-clause-answer : goal.returns-clause-answer
returns-clause-answer g c =
    fill_by_all (source (position_parts c.args.position.now) (number c.args.kind) c.args.to.number (promotion_number c.args.promotion)) c.loop-number.found 64 false
    c.loop-number.invariant.size (λ s h. c.loop-number.invariant.found s (omega arith))
