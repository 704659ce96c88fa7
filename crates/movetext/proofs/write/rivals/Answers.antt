use Rattle.std.proofs.Common.{false, arith}
use Rattle.std.proofs.lemmas.List.FromFn.{fill_by_all}
use Rattle.laws.specs.Position.{position_parts}
use Rattle.moves.specs.Action.{plain}
use Rattle.san.specs.Said.{rival_on}
use Rattle.movetext.proofs.write.rivals.Goals as goal

pub returns-clause-answer : goal.returns-clause-answer
returns-clause-answer g c =
    fill_by_all (rival_on (position_parts c.args.position.now) (plain c.args.m)) c.loop-number.found 64 false c.loop-number.invariant.size
    (λ s h. c.loop-number.invariant.found s (omega arith))
