use Rattle.std.proofs.Common.{arith}
use Rattle.std.proofs.lemmas.Bool.Decides.{nat_tests}
use Rattle.board.proofs.HitLaws.{attacks_by_kind}
use Rattle.mailbox.specs.Cells.{codes_of}
use Rattle.mailbox.proofs.Mailbox.attacks.Goals as goal

pub returns-then-steps-3 : goal.returns-then-steps-3
returns-then-steps-3 c =
    let e = attacks_by_kind c.args.by (codes_of c.args.self.now.cells) c.args.square.number c.args.square.on_board in
    grind (arith, nat_tests)

pub returns-else-steps-3 : goal.returns-else-steps-3
returns-else-steps-3 c =
    let e = attacks_by_kind c.args.by (codes_of c.args.self.now.cells) c.args.square.number c.args.square.on_board in
    grind (arith, nat_tests)
