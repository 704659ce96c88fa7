-- Decimal numbers.
use Rattle.std.specs.Prelude.{ℕ, zero, suc, ◌+◌, ◌-◌, ◌*◌, ◌/◌, ◌%◌, min, Bool, true, false, cond, ◌&&◌, List, [], ◌∷◌, ◌++◌, Some, None, Option, ◌==◌, nat_le, nat_lt}

-- at most k digits of a number, the last ones
unfoldable pub digits_in : ℕ → ℕ → List ℕ
digits_in zero n = []
digits_in (suc k) n = elim (nat_lt n 10) [ true ↦ (48 + n) ∷ [] | false ↦ digits_in k (n / 10) ++ ((48 + n % 10) ∷ []) ]

-- the digits of a number, with no leading zero: no more than itself and one
unfoldable pub digits : ℕ → List ℕ
digits n = digits_in (suc n) n

abbrev pub is_digit : ℕ → Bool
is_digit b = nat_le 48 b && nat_le b 57

abbrev pub starts_digit : List ℕ → Bool
starts_digit [] = false
starts_digit (b ∷ t) = is_digit b

-- a number above 65,535 is read as 65,535: that is past every limit, so nothing can tell the two apart
abbrev pub capped : ℕ → ℕ
capped n = min n 65535

-- the value of the digits in front, behind digits with the value v, and the rest
unfoldable pub read_digits : ℕ → List ℕ → ℕ × List ℕ
read_digits v [] = (v, [])
read_digits v (b ∷ t) = cond (is_digit b) (read_digits (capped (10 * v + (b - 48))) t) (v, b ∷ t)

-- a number: one digit or more, none of them a leading zero
unfoldable pub read_number : List ℕ → Option (ℕ × List ℕ)
read_number [] = None
read_number (b ∷ t) = cond (b == 48) (cond (starts_digit t) None (Some (0, t))) (cond (is_digit b) (Some (read_digits 0 (b ∷ t))) None)
