use Rattle.std.proofs.Common.{arith}
use Rattle.std.proofs.lemmas.Grind.{common_steps}
use Rattle.std.proofs.lemmas.List.{drop_all}
use Rattle.notation.proofs.DecimalLaws.{number_none, number_at}
use Rattle.notation.proofs.decimal.number.Goals as goal

pub returns-in_err-get : goal.returns-in_err-get
returns-in_err-get c = grind (arith, common_steps, drop_all, number_none)

pub overflow_sub-result : goal.overflow_sub-result
overflow_sub-result c = (number_at c.args.text.now c.args.at _ _ _ c.in_ok-get.ensures.lookup.0.2 c.in_ok-value.ensures).fits

pub returns : goal.returns
returns c = (number_at c.args.text.now c.args.at _ _ _ c.in_ok-get.ensures.lookup.0.2 c.in_ok-value.ensures).is
