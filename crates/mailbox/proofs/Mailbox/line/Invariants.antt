use Rattle.mailbox.specs.Cells.{codes_of}
use Rattle.mailbox.proofs.Lines.{Walked}
use Rattle.mailbox.proofs.Mailbox.line.Given as goal

abbrev pub invariant-loop : goal.invariant-loop
invariant-loop l = Walked (codes_of l.self.cells) l.direction l.fn.square.number l.counter l.at
