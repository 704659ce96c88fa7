-- Attacks in the words of the laws of chess, with no directions: along a rank, a file or a diagonal, and not over a piece.
use Rattle.std.specs.Prelude.{◌≡◌, ℕ, ◌+◌, ◌-◌, ◌<◌, ◌≤◌, ◌⊎◌, List, ◌≢◌, slice_index, slice_index_or}
use Rattle.board.specs.declared.side.Side.{Side}
use Rattle.board.specs.declared.side.Side.TheVariants.{White, Black}
use Rattle.board.specs.declared.piece.Kind.TheVariants.{Pawn, Knight, Bishop, Rook, Queen, King}
use Rattle.board.specs.Geometry.{file, rank}
use Rattle.board.specs.Piece.{other, code}

-- how many files, and how many ranks, apart two squares are
abbrev pub gap : ℕ → ℕ → ℕ
gap a b = (a - b) + (b - a)

abbrev pub files : ℕ → ℕ → ℕ
files s t = gap (file s) (file t)

abbrev pub ranks : ℕ → ℕ → ℕ
ranks s t = gap (rank s) (rank t)

-- the three sorts of line, and two squares on one line
pub data Line : Type 0 where
  Rank File Diagonal : Line

abbrev pub On : Line → ℕ → ℕ → Type 0
On Rank s t = rank s ≡ rank t
On File s t = file s ≡ file t
On Diagonal s t = files s t ≡ ranks s t

-- u lies on the way from s to t: its distances to the two add up to theirs, and it is neither of them
abbrev pub StrictlyBetween : ℕ → ℕ → ℕ → Type 0
StrictlyBetween s u t = (u ≢ s) × (u ≢ t) × (files s u + files u t ≡ files s t) × (ranks s u + ranks u t ≡ ranks s t)

-- another square on the line, with every square of the line strictly between empty
abbrev pub Reaches : Line → List ℕ → ℕ → ℕ → Type 0
Reaches line codes s t =
    (s ≢ t) × On line s t × ((u : ℕ) → u < 64 → On line s u → On line u t → StrictlyBetween s u t → slice_index codes u ≡ 0)

-- a line piece of the side that moves along a line: a queen along each, a rook along ranks and files, a bishop along diagonals
abbrev pub Mover : Side → Line → ℕ → Type 0
Mover side Rank c = (c ≡ code side Queen) ⊎ (c ≡ code side Rook)
Mover side File c = (c ≡ code side Queen) ⊎ (c ≡ code side Rook)
Mover side Diagonal c = (c ≡ code side Queen) ⊎ (c ≡ code side Bishop)

-- one rank ahead
abbrev pub OneAhead : Side → ℕ → ℕ → Type 0
OneAhead White s t = rank t ≡ rank s + 1
OneAhead Black s t = rank s ≡ rank t + 1

-- the piece on s is the side's and attacks t
pub data Attacks (side : Side) (codes : List ℕ) (s t : ℕ) : Type 0 where
  pawn : slice_index_or codes s 0 ≡ code side Pawn → OneAhead side s t → files s t ≡ 1 → Attacks side codes s t
  knight : slice_index_or codes s 0 ≡ code side Knight → ((files s t ≡ 1) × (ranks s t ≡ 2)) ⊎ ((files s t ≡ 2) × (ranks s t ≡ 1)) → Attacks side codes s t
  bishop : slice_index_or codes s 0 ≡ code side Bishop → Reaches Diagonal codes s t → Attacks side codes s t
  rook : slice_index_or codes s 0 ≡ code side Rook → Reaches Rank codes s t ⊎ Reaches File codes s t → Attacks side codes s t
  queen : slice_index_or codes s 0 ≡ code side Queen → (line : Line) → Reaches line codes s t → Attacks side codes s t
  king : slice_index_or codes s 0 ≡ code side King → (s ≢ t) → files s t ≤ 1 → ranks s t ≤ 1 → Attacks side codes s t

-- the side's king on k is attacked by the piece on s
pub record InCheck (side : Side) (codes : List ℕ) : Type 0 where
  pub k : ℕ
  pub s : ℕ
  pub k_within : k < 64
  pub s_within : s < 64
  pub king_stands : slice_index_or codes k 0 ≡ code side King
  pub attacked : Attacks (other side) codes s k
