use Rattle.mailbox.specs.CellLists.{codes_zero}
use Rattle.mailbox.proofs.MailboxBoard.clear.Goals as goal

pub returns : goal.returns
returns c = codes_zero _ c.cleared-self.ensures.zero
