use Rattle.std.proofs.Common.{◌≡◌, get_or, sym, ◌∙◌, rules}
use Rattle.mailbox.specs.Cells.{at_square, codes_of}
use Rattle.mailbox.specs.CellLists.{codes_at}
use Rattle.board.proofs.SquareLaws.{by_square}
use Rattle.mailbox.proofs.MailboxBoard.look.Goals as goal

pub returns : goal.returns
returns c =
    let cells = c.args.self.now.cells in
    by_square c.args.square c.new.result c.map_or.result 255 (λ n. get_or (codes_of cells) n 0) _ c.new.ensures c.map_or.ensures
    (λ s k. let e : c.map_or.result ≡ at_square cells s.number = search rules in e ∙ sym (codes_at cells s.number s.on_board))
