-- Castling by its wing.
use Rattle.std.specs.Prelude.{ℕ, Bool, List}
use Rattle.board.specs.declared.side.Side.{Side}
use Rattle.rules.specs.declared.rights.Wing.{Wing}
use Rattle.rules.specs.declared.rights.Wing.TheVariants.{Kingside, Queenside}
use Rattle.rules.specs.Legal.{castles_kingside, castles_queenside}

abbrev pub castles_to : List ℕ → Side → Wing → Bool → Bool
castles_to codes side Kingside right = castles_kingside codes side right
castles_to codes side Queenside right = castles_queenside codes side right
