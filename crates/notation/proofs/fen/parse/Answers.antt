use Rattle.notation.proofs.FenLaws.{reads_back, only_fen}
use Rattle.notation.proofs.fen.parse.Goals as goal

pub returns-clause-exact : goal.returns-clause-exact
returns-clause-exact c = only_fen c.args.text.now

pub returns-clause-back : goal.returns-clause-back
returns-clause-back c = reads_back
