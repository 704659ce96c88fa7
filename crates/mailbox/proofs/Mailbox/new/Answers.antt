use Rattle.mailbox.specs.CellLists.{codes_zero}
use Rattle.mailbox.proofs.Mailbox.new.Goals as goal

pub returns : goal.returns
returns c = codes_zero _ c.cleared.ensures.zero
