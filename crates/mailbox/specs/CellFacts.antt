-- Cells and squares, by tests of all of them.
use Rattle.std.specs.Prelude.{◌≡◌, ℕ, ◌<◌, ◌≤◌, Bool, true, false, ◌&&◌, ◌==◌, nat_le, nat_lt, refl}
use Rattle.std.proofs.Common.{arith}
use Rattle.std.proofs.lemmas.Bool.{and_parts, eqb-true, ltb-true, leb-true, lt-ltb, false≢true}
use Rattle.board.specs.Below.{all_below}
use Rattle.board.proofs.BelowLaws.{all_at}
use Rattle.mailbox.specs.Cells.{cell_of, square_of}

-- one test follows from another
abbrev pub implies : Bool → Bool → Bool
implies true b = b
implies false b = true

pub implied : (a b : Bool) → implies a b ≡ true → a ≡ true → b ≡ true
implied true b e h = e
implied false b e h = absurd (false≢true h)

squares_tested : all_below 64 (λ s. (square_of (cell_of s) == s) && nat_lt (cell_of s) 120) ≡ true
unfolding all_below cell_of square_of
squares_tested = refl

pub square_of_cell : (s : ℕ) → s < 64 → square_of (cell_of s) ≡ s
square_of_cell s h = eqb-true _ _ (and_parts _ _ (all_at 64 _ squares_tested s h)).0

pub cell_in : (s : ℕ) → s < 64 → cell_of s < 120
cell_in s h = ltb-true _ _ (and_parts (square_of (cell_of s) == s) _ (all_at 64 _ squares_tested s h)).1

cells_tested : all_below 120 (λ c. nat_le (square_of c) 64 && implies (nat_lt (square_of c) 64) (cell_of (square_of c) == c)) ≡ true
unfolding all_below cell_of square_of
cells_tested = refl

pub square_of_le : (c : ℕ) → c < 120 → square_of c ≤ 64
square_of_le c h = leb-true _ _ (and_parts _ _ (all_at 120 _ cells_tested c h)).0

pub cell_of_square : (c : ℕ) → c < 120 → square_of c < 64 → cell_of (square_of c) ≡ c
cell_of_square c h k = eqb-true _ _ (implied _ _ (and_parts (nat_le (square_of c) 64) _ (all_at 120 _ cells_tested c h)).1 (lt-ltb _ _ k))

pub cell_low : (s : ℕ) → 21 ≤ cell_of s
unfolding cell_of
cell_low s = omega arith

pub cell_high : (s : ℕ) → s < 64 → cell_of s ≤ 98
unfolding cell_of
cell_high s h = omega arith
