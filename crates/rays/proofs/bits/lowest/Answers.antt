use Rattle.std.proofs.Common.{rules}
use Rattle.std.proofs.lemmas.Option.{IfSome_then}
use Rattle.rays.proofs.SetLaws.{lowest_is}
use Rattle.rays.proofs.bits.lowest.Goals as goal

pub returns : goal.returns
returns c =
    lowest_is c.args.set c.then.result c.ranges.set.fits c.then.ensures.variant (IfSome_then c.then.result c.then.ensures.some (λ n k. search rules))
