use Rattle.std.proofs.Common.{arith}
use Rattle.std.proofs.lemmas.Grind.{common_steps}
use Rattle.notation.proofs.DecimalLaws.{number_zeros, number_zero, number_digits, number_none}
use Rattle.notation.proofs.decimal.front.Goals as goal

pub returns-in-48 : goal.returns-in-48
returns-in-48 c = grind (arith, common_steps, number_zeros)

pub returns-in-49-to-57 : goal.returns-in-49-to-57
returns-in-49-to-57 c = grind (arith, common_steps, number_digits)

pub returns-in-48-2 : goal.returns-in-48-2
returns-in-48-2 c = grind (arith, common_steps, number_zero)

pub returns-in_default : goal.returns-in_default
returns-in_default c = grind (arith, common_steps, number_none)
