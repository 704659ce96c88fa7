use Rattle.san.proofs.Sans.{matches_alone}
use Rattle.san.proofs.san_matches_alone.Goals as goal

pub returns : goal.returns
returns c = matches_alone
