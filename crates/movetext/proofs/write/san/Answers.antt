use Rattle.san.proofs.Sans.{matches_alone}
use Rattle.movetext.proofs.write.san.Goals as goal

pub returns-in_err-next-clause-matches_alone : goal.returns-in_err-next-clause-matches_alone
returns-in_err-next-clause-matches_alone g c = matches_alone

pub returns-clause-matches_alone : goal.returns-clause-matches_alone
returns-clause-matches_alone g c = matches_alone
