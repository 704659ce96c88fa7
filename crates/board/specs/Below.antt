-- Tests over the numbers below a bound, and the least that passes.
use Rattle.std.specs.Prelude.{ℕ, zero, suc, Bool, true, false, cond, ◌&&◌, ◌||◌, Some, None, Option}
use Rattle.std.specs.Option.{option_or}

-- some number below n passes
unfoldable pub some_below : ℕ → (ℕ → Bool) → Bool
some_below zero p = false
some_below (suc n) p = p n || some_below n p

-- every number below n passes
unfoldable pub all_below : ℕ → (ℕ → Bool) → Bool
all_below zero p = true
all_below (suc n) p = p n && all_below n p

-- the least number below n that passes
unfoldable pub least_below : ℕ → (ℕ → Bool) → Option ℕ
least_below zero p = None
least_below (suc n) p = option_or (least_below n p) (cond (p n) (Some n) None)

-- a dear test that is looked at only after a cheap one has passed
infixr 20 ◌and_then◌
abbrev pub ◌and_then◌ : Bool → Bool → Bool
a and_then b = elim a [ true ↦ b | false ↦ false ]
