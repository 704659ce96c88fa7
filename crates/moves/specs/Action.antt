-- Moves of the code as the rules have them.
use Rattle.std.specs.Prelude.{ℕ, ◌/◌, Bool, not, ◌&&◌, Some, None, Option, ◌==◌, nat_lt}
use Rattle.board.specs.declared.piece.Kind.{Kind}
use Rattle.board.specs.declared.piece.Kind.TheVariants as kind
use Rattle.rules.specs.Move as rules
use Rattle.rules.specs.Legal.{move_numbers}
use Rattle.moves.specs.declared.action.Promotion.{Promotion}
use Rattle.moves.specs.declared.action.Promotion.TheVariants.{Knight, Bishop, Rook, Queen}
use Rattle.moves.specs.declared.action.Move.{Move}

-- the kind that a pawn becomes
abbrev pub promoted_kind : Promotion → Kind
promoted_kind Knight = kind.Knight
promoted_kind Bishop = kind.Bishop
promoted_kind Rook = kind.Rook
promoted_kind Queen = kind.Queen

-- the number of a promotion: that of the kind, or 0
abbrev pub promotion_number : Option Promotion → ℕ
promotion_number None = 0
promotion_number (Some Knight) = 2
promotion_number (Some Bishop) = 3
promotion_number (Some Rook) = 4
promotion_number (Some Queen) = 5

abbrev pub plain : Move → rules.Move
plain m = record { from = m.from.number; to = m.to.number; promotion = promotion_number m.promotion }

-- a number is that of some move: its promotion is no pawn
abbrev pub is_move_number : ℕ → Bool
is_move_number n = nat_lt n move_numbers && not (n / 4096 == 1)
