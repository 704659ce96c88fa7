use Rattle.std.proofs.Common.{arith}
use Rattle.mailbox.specs.Cells.{cell_of}
use Rattle.mailbox.proofs.cell.Goals as goal

pub returns-clause-place : goal.returns-clause-place
unfolding cell_of
returns-clause-place c = omega arith
