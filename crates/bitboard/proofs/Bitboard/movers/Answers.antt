use Rattle.std.proofs.Common.{◌||◌, ◌∙◌, ap₂}
use Rattle.rays.proofs.SetLaws.{has_or}
use Rattle.bitboard.proofs.Bitboard.movers.Goals as goal

pub returns : goal.returns
returns c s l = has_or c.pieces.result c.pieces-2.result s ∙ ap₂ ◌||◌ (c.pieces.ensures s l) (c.pieces-2.ensures s l)
