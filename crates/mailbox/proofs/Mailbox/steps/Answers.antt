use Rattle.std.proofs.Common.{◌∙◌, ap}
use Rattle.board.specs.Attack.{step}
use Rattle.mailbox.specs.Cells.{leaps_of, leap_hit}
use Rattle.mailbox.proofs.LeapLaws.{leap_answer, leap_law}
use Rattle.mailbox.proofs.Mailbox.steps.Goals as goal

pub returns : goal.returns
returns c =
    let m = c.args.self.now in
    let by = c.args.by in
    let kind = c.args.kind in
    let square = c.args.square in
    leap_answer m.cells m.border square.number square.on_board (step by kind) (leaps_of by kind) (leap_law by kind) by kind c.code.result _ c.code.ensures
    (c.leaper.ensures ∙ ap (leap_hit m.cells square.number c.code.result) c.leaps.ensures.leaps)
