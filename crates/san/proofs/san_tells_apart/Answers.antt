use Rattle.san.proofs.Sans.{tells_apart}
use Rattle.san.proofs.san_tells_apart.Goals as goal

pub returns : goal.returns
returns c = tells_apart
