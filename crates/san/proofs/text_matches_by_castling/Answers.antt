use Rattle.san.proofs.SourceLaws.{by_castling}
use Rattle.san.proofs.text_matches_by_castling.Goals as goal

pub returns : goal.returns
returns c = by_castling
