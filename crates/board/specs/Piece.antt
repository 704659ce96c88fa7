-- Sides, and pieces as codes and as letters.
use Rattle.std.specs.Prelude.{ℕ, ◌+◌, Bool, ◌&&◌, List, [], ◌∷◌, Option, ◌==◌, nat_le, slice_index}
use Rattle.board.specs.declared.side.Side.{Side}
use Rattle.board.specs.declared.side.Side.TheVariants.{White, Black}
use Rattle.board.specs.declared.piece.Kind.{Kind}
use Rattle.board.specs.declared.piece.Kind.TheVariants.{Pawn, Knight, Bishop, Rook, Queen, King}
use Rattle.board.specs.Below.{least_below}

abbrev pub other : Side → Side
other White = Black
other Black = White

-- the number of a kind, which is the code of the white piece
abbrev pub number : Kind → ℕ
number Pawn = 1
number Knight = 2
number Bishop = 3
number Rook = 4
number Queen = 5
number King = 6

-- the code of a side's piece of a kind; 0 is an empty square
abbrev pub code : Side → Kind → ℕ
code White kind = number kind
code Black kind = number kind + 6

-- the letter of each code, in the order of the codes: a period, PNBRQK and pnbrqk
abbrev pub letters : List ℕ
letters = 46 ∷ 80 ∷ 78 ∷ 66 ∷ 82 ∷ 81 ∷ 75 ∷ 112 ∷ 110 ∷ 98 ∷ 114 ∷ 113 ∷ 107 ∷ []

-- 0 above the last code
abbrev pub letter : ℕ → ℕ
letter c = slice_index letters c

-- the code of the piece that a letter stands for
unfoldable pub code_of_letter : ℕ → Option ℕ
code_of_letter byte = least_below 13 (λ c. nat_le 1 c && letter c == byte)

-- a side's piece of a kind stands on a square
abbrev pub holds : List ℕ → Side → Kind → ℕ → Bool
holds codes side kind s = slice_index codes s == code side kind
