-- Numbers of promotions.
use Rattle.std.proofs.Common.{◌≤◌, Some, None, Option, arith}
use Rattle.moves.specs.declared.action.Promotion.{Promotion}
use Rattle.moves.specs.declared.action.Promotion.TheVariants.{Knight, Bishop, Rook, Queen}
use Rattle.moves.specs.Action.{promotion_number}

pub promotion_most : (k : Option Promotion) → promotion_number k ≤ 5
promotion_most None = omega arith
promotion_most (Some Knight) = omega arith
promotion_most (Some Bishop) = omega arith
promotion_most (Some Rook) = omega arith
promotion_most (Some Queen) = omega arith
