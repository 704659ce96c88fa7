use Rattle.std.proofs.Common.{arith}
use Rattle.rays.proofs.SetLaws.{upward_in, upward_past}
use Rattle.rays.proofs.bits.upward.Goals as goal

pub returns-then-square-gt63 : goal.returns-then-square-gt63
returns-then-square-gt63 c = upward_past c.args.set c.args.square (omega arith)

pub returns-else-square-gt63 : goal.returns-else-square-gt63
returns-else-square-gt63 c = upward_in c.args.set c.args.square c.ranges.set.fits
