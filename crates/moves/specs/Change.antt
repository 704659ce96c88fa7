-- Boards that differ on a few squares only.
use Rattle.std.specs.Prelude.{◌≡◌, ℕ, Bool, false, ◌||◌, List, [], ◌∷◌, ◌==◌, slice_index}

-- a square is one of some
abbrev pub among : ℕ → List ℕ → Bool
among j [] = false
among j (s ∷ ss) = j == s || among j ss

-- two boards have the same code on every square but some
abbrev pub SameBut : List ℕ → List ℕ → List ℕ → Type 0
SameBut squares l k = (j : ℕ) → among j squares ≡ false → slice_index l j ≡ slice_index k j
