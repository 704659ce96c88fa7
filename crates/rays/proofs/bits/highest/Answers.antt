use Rattle.std.proofs.Common.{rules}
use Rattle.std.proofs.lemmas.Option.{IfSome_then}
use Rattle.rays.proofs.SetLaws.{highest_is}
use Rattle.rays.proofs.bits.highest.Goals as goal

pub returns : goal.returns
returns c =
    highest_is c.args.set c.then.result c.ranges.set.fits c.then.ensures.variant (IfSome_then c.then.result c.then.ensures.some (λ n k. search rules))
