use Rattle.std.proofs.Common.{sym, arith}
use Rattle.rules.specs.Move.{numbered_move}
use Rattle.laws.specs.Setup.{parts}
use Rattle.moves.specs.Action.{plain}
use Rattle.moves.proofs.TrialLaws.{some_legal, can_found, can_missed}
use Rattle.moves.proofs.table.Table.can_move.Goals as goal

pub returns-then-is_some-clause-answer : goal.returns-then-is_some-clause-answer
returns-then-is_some-clause-answer g c =
    let n = c.loop-number.number in
    let e = rw c.loop-number.invariant.setup at c.legal_numbered.ensures.answer in
    can_found (parts c.args.self.now.setup.now) n (omega arith) (some_legal _ (numbered_move n) plain _ e (sym c.if-is_some.ensures))

pub returns-clause-answer : goal.returns-clause-answer
returns-clause-answer g c = can_missed (parts c.args.self.now.setup.now) (λ k h. c.loop-number.invariant.none k (omega arith))
