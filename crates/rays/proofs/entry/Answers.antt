use Rattle.std.proofs.Common.{rules}
use Rattle.rays.specs.Lines.{entry_of}
use Rattle.rays.proofs.entry.Goals as goal

pub returns : goal.returns
unfolding entry_of
returns c = search rules
