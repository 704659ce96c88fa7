use Rattle.std.proofs.Common.{◌≡◌, length}
use Rattle.notation.specs.Decimal.{read_digits}
use Rattle.notation.proofs.decimal.value.Given as goal

abbrev pub invariant-loop-rest : goal.invariant-loop-rest
invariant-loop-rest l = read_digits l.sum l.rest ≡ read_digits 0 l.text

abbrev pub decreases-loop-rest : goal.decreases-loop-rest
decreases-loop-rest l = length l.rest
