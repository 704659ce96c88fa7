use Rattle.rays.proofs.SetLaws.{with_all}
use Rattle.rays.proofs.bits.with.Goals as goal

pub returns : goal.returns
returns c = with_all c.args.set c.only.result _ c.only.ensures
