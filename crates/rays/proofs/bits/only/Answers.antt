use Rattle.rays.proofs.SetLaws.{only_is}
use Rattle.rays.proofs.bits.only.Goals as goal

pub returns : goal.returns
returns c = rw (c.unwrap_or.ensures) (only_is c.args.square c.checked_shl.result (rw c.from.ensures at c.checked_shl.ensures))
