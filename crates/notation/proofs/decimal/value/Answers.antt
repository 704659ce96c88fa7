use Rattle.std.proofs.Common.{arith}
use Rattle.std.proofs.lemmas.Grind.{common_steps}
use Rattle.notation.proofs.DecimalLaws.{digits_first, digits_last}
use Rattle.notation.proofs.decimal.value.Goals as goal

pub loop-rest-preserved : goal.loop-rest-preserved
loop-rest-preserved c = grind (arith, common_steps, digits_first)

pub returns : goal.returns
returns c = grind (arith, common_steps, digits_last)
