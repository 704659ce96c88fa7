-- A word of 64 bits as a set of squares.
use Rattle.std.specs.Prelude.{◌≡◌, ℕ, zero, suc, ◌/◌, ◌%◌, ◌^◌, ◌<◌, Bool, cond, Some, None, Option, ◌==◌}

-- a binary digit of a word; the square is a member where its digit is 1
unfoldable pub bit : ℕ → ℕ → ℕ
bit w s = w / 2 ^ s % 2

unfoldable pub has : ℕ → ℕ → Bool
has w s = bit w s == 1

-- the members of a word are the squares that pass a test
abbrev pub SetOf : (ℕ → Bool) → ℕ → Type 0
SetOf p w = (s : ℕ) → s < 64 → has w s ≡ p s

-- the greatest number below n that passes
unfoldable pub greatest_below : ℕ → (ℕ → Bool) → Option ℕ
greatest_below zero p = None
greatest_below (suc n) p = cond (p n) (Some n) (greatest_below n p)
