use Rattle.std.proofs.Common.{sym, ap, ◌∙◌, subst}
use Rattle.board.specs.Attack.{in_check}
use Rattle.board.specs.Meaning.{Shown}
use Rattle.rules.proofs.LawfulLaws.{board_shown}
use Rattle.laws.proofs.setup.Setup.exposed.Goals as goal

pub returns : goal.returns
returns g c =
    let codes = g.B.Board.codes in
    let start = c.args.board.now in
    let shown = c.show.ensures.whole (board_shown c.args.self.now.codes c.requires) in
    let former : Shown c.picture-former.result =
    subst Shown (sym c.picture-former.ensures) (g.met.B.Board.size start, g.met.B.Board.small start) in
    record {
      answer = c.in_check-answer.ensures.answer ∙ ap (in_check c.args.side) shown;
      list = c.show-2.ensures.whole former ∙ c.picture-former.ensures;
    }
