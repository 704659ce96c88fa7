use Rattle.rules.proofs.StaysLawful.{stays_lawful}
use Rattle.rules.proofs.legal_moves_stay_lawful.Goals as goal

pub returns : goal.returns
returns c = stays_lawful
