use Rattle.notation.proofs.WriteLaws.{position_back}
use Rattle.notation.proofs.fen.write.Goals as goal

pub returns-then-out-len-clause-back : goal.returns-then-out-len-clause-back
returns-then-out-len-clause-back c = position_back c.args.position.now

pub returns-clause-back : goal.returns-clause-back
returns-clause-back c = position_back c.args.position.now
