-- Squares, and how one lies from another.
use Rattle.std.specs.Prelude.{ℕ, zero, suc, ◌+◌, ◌-◌, ◌*◌, ◌/◌, ◌%◌, Bool, cond, ◌&&◌, ◌||◌, Some, None, Option, ◌==◌, nat_le, nat_lt}

-- files a to h and ranks 1 to 8, both counted from 0
abbrev pub file : ℕ → ℕ
file s = s % 8

abbrev pub rank : ℕ → ℕ
rank s = s / 8

-- the square that a file's letter, a to h, and a rank's digit, 1 to 8, name
abbrev pub square_named : ℕ → ℕ → Option ℕ
square_named f r = cond (nat_le 97 f && nat_le f 104 && nat_le 49 r && nat_le r 56) (Some (8 * (r - 49) + (f - 97))) None

pub data Direction : Type 0 where
  East NorthWest North NorthEast West SouthEast South SouthWest : Direction

-- the directions by number: ranks and files have the even ones; the squares' numbers rise along the first four, and fall along the others
abbrev pub direction : ℕ → Direction
direction zero = East
direction (suc zero) = NorthWest
direction (suc (suc zero)) = North
direction (suc (suc (suc zero))) = NorthEast
direction (suc (suc (suc (suc zero)))) = West
direction (suc (suc (suc (suc (suc zero))))) = SouthEast
direction (suc (suc (suc (suc (suc (suc zero)))))) = South
direction (suc (suc (suc (suc (suc (suc (suc d))))))) = SouthWest

-- the square s lies beyond t in the direction
abbrev pub beyond : Direction → ℕ → ℕ → Bool
beyond East t s = rank s == rank t && nat_lt (file t) (file s)
beyond West t s = rank s == rank t && nat_lt (file s) (file t)
beyond North t s = file s == file t && nat_lt (rank t) (rank s)
beyond South t s = file s == file t && nat_lt (rank s) (rank t)
beyond NorthEast t s = file s + rank t == file t + rank s && nat_lt (rank t) (rank s)
beyond SouthWest t s = file s + rank t == file t + rank s && nat_lt (rank s) (rank t)
beyond NorthWest t s = file s + rank s == file t + rank t && nat_lt (rank t) (rank s)
beyond SouthEast t s = file s + rank s == file t + rank t && nat_lt (rank s) (rank t)

-- two files, or two ranks, are one apart; two apart
abbrev pub near : ℕ → ℕ → Bool
near a b = a + 1 == b || b + 1 == a

abbrev pub far : ℕ → ℕ → Bool
far a b = a + 2 == b || b + 2 == a

-- a knight's and a king's step
unfoldable pub knight_step : ℕ → ℕ → Bool
knight_step s t = (near (file s) (file t) && far (rank s) (rank t)) || (far (file s) (file t) && near (rank s) (rank t))

unfoldable pub king_step : ℕ → ℕ → Bool
king_step s t =
    (near (file s) (file t) && (near (rank s) (rank t) || rank s == rank t))
    || (file s == file t && near (rank s) (rank t))
