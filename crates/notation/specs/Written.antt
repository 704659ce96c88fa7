-- What the code holds of a text.
use Rattle.std.specs.Prelude.{ℕ, List, drop}
use Rattle.notation.specs.declared.decimal.Digits.{Digits}

-- the digits of a number
abbrev pub digits_shown : Digits → List ℕ
digits_shown d = drop d.from d.bytes
