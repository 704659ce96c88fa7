use Rattle.std.proofs.Common.{arith}
use Rattle.rays.proofs.SetLaws.{has_and, has_or, has_not}
use Rattle.rays.proofs.bits.without.Goals as goal

pub returns : goal.returns
returns c s l = grind (arith, has_and, has_or, has_not, c.only.ensures s l)
