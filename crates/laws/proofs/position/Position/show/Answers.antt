use Rattle.rules.proofs.LawfulLaws.{board_shown, lawful_board}
use Rattle.laws.proofs.position.Position.show.Goals as goal

pub returns : goal.returns
returns g c = c.show.ensures.whole (board_shown _ (lawful_board _ c.args.self.now.ok))
