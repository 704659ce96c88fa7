-- Twelve words, one for each code from 1, and the list of 64 codes that they stand for.
use Rattle.std.specs.Prelude.{◌≡◌, ℕ, suc, ◌<◌, Bool, true, not, ◌&&◌, ◌||◌, List, map, Some, None, Option, ◌==◌, slice_index}
use Rattle.std.specs.List.{range_with_len}
use Rattle.board.specs.Below.{least_below}
use Rattle.rays.specs.Sets.{has, SetOf}

-- the word of a place has a square
abbrev pub in_word : List ℕ → ℕ → ℕ → Bool
in_word words i s = has (slice_index words i) s

-- the code of a place; 0 for none
abbrev pub code_of : Option ℕ → ℕ
code_of None = 0
code_of (Some i) = suc i

-- the code on a square: that of the first word that has it
unfoldable pub code_at : List ℕ → ℕ → ℕ
code_at words s = code_of (least_below 12 (λ i. in_word words i s))

unfoldable pub codes_of : List ℕ → List ℕ
codes_of words = map (code_at words) (range_with_len 0 64)

-- a square is in two words; no square is
abbrev pub InTwo : List ℕ → ℕ → ℕ → ℕ → Type 0
InTwo words i j s = (i < j) × (j < 12) × (s < 64) × (in_word words i s ≡ true) × (in_word words j s ≡ true)

abbrev pub Apart : List ℕ → Type 0
Apart words = (i j s : ℕ) → InTwo words i j s → ⊥

-- the words after a square has been taken out of the word of a code, and after it has been put in; code 0 has no word
abbrev pub Lifted : ℕ → ℕ → List ℕ → List ℕ → Type 0
Lifted code square words after = (i : ℕ) → i < 12 → SetOf (λ s. not (s == square && code == suc i) && in_word words i s) (slice_index after i)

abbrev pub Placed : ℕ → ℕ → List ℕ → List ℕ → Type 0
Placed code square words after = (i : ℕ) → i < 12 → SetOf (λ s. (s == square && code == suc i) || in_word words i s) (slice_index after i)
