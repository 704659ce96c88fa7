use Rattle.std.proofs.Common.{sym, ◌∙◌}
use Rattle.std.proofs.lemmas.Bool.{le-ltb}
use Rattle.rays.proofs.SetLaws.{has_digit, has_past}
use Rattle.rays.proofs.bits.contains.Goals as goal

pub returns-then-square-lt64 : goal.returns-then-square-lt64
returns-then-square-lt64 c = has_digit c.args.set c.args.square

pub returns-else-square-lt64 : goal.returns-else-square-lt64
returns-else-square-lt64 c = le-ltb _ _ c.if-square-lt64.false ∙ sym (has_past c.args.set c.args.square c.ranges.set.fits c.if-square-lt64.false)
