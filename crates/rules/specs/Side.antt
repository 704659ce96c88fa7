-- What belongs to a side.
use Rattle.board.specs.declared.side.Side.{Side}
use Rattle.board.specs.declared.side.Side.TheVariants.{White, Black}
use Rattle.rules.specs.declared.rights.Castling.{Castling}
use Rattle.rules.specs.declared.rights.Rights.{Rights}

-- the castling rights of a side
abbrev pub rights_of : Rights → Side → Castling
rights_of r White = r.white
rights_of r Black = r.black
