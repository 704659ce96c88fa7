use Rattle.rays.proofs.SetLaws.{meet_is}
use Rattle.rays.proofs.bits.meet.Goals as goal

pub returns : goal.returns
returns c = meet_is c.args.one c.args.other c.ranges.one.fits
