use Rattle.san.proofs.SourceLaws.{by_source}
use Rattle.san.proofs.text_matches_by_source.Goals as goal

pub returns : goal.returns
returns c = by_source
