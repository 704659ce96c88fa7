use Rattle.std.proofs.Common.{rules}
use Rattle.notation.specs.Fields.{read_castling}
use Rattle.notation.proofs.fen.fields.castling.Goals as goal

pub returns : goal.returns
unfolding read_castling
returns c = search rules
