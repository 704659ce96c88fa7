use Rattle.san.proofs.Sans.{reads_spelling}
use Rattle.san.proofs.text_reads_spelling.Goals as goal

pub returns : goal.returns
returns c = reads_spelling
