use Rattle.san.proofs.Sans.{reads_back}
use Rattle.san.proofs.san_reads_back.Goals as goal

pub returns : goal.returns
returns c = reads_back
