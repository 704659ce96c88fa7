use Rattle.std.proofs.Common.{◌≡◌, ℕ, ◌^◌, ◌<◌, List, [], ◌++◌, ap, ◌∙◌, rules, arith}
use Rattle.std.specs.Fmt.{decimal}
use Rattle.std.proofs.lemmas.List.{append-nil}
use Rattle.std.proofs.lemmas.Fmt.{length-decimal-le, decimal_nonempty}
use Rattle.notation.specs.Decimal.{digits}
use Rattle.notation.proofs.DecimalLaws.{digits_decimal}
use Rattle.notation.proofs.decimal.Digits.of.Goals as goal

shown : (number written : ℕ) (text : List ℕ) → text ≡ decimal written ++ [] → written < 2 ^ 64 → written ≡ number → text ≡ digits number
shown number written text is small same = is ∙ append-nil _ ∙ digits_decimal written small ∙ ap digits same

pub write_digits-from-requires : goal.write_digits-from-requires
write_digits-from-requires c = search (rules, length-decimal-le 20)

pub invariant_of-result : goal.invariant_of-result
invariant_of-result c = record { within = omega (arith, decimal_nonempty) }

pub returns : goal.returns
returns c = shown _ _ _ c.write_digits-from.ensures.written (omega arith) (omega arith)
