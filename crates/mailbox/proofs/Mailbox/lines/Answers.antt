use Rattle.std.proofs.Common.{refl, rules}
use borrow.Author.Tests.{tests}
use Rattle.board.specs.Hits.{lines_hit, line_hit}
use Rattle.board.proofs.ChainLaws.{some_from_any}
use Rattle.mailbox.specs.Cells.{codes_of}
use Rattle.mailbox.proofs.Mailbox.lines.Goals as goal

pub returns : goal.returns
unfolding lines_hit
returns c =
    some_from_any _ (λ d. line_hit c.args.by (codes_of c.args.self.now.cells) d c.args.square.number) 8 _ _ c.any.result refl c.any.ensures.ran (λ x b q k. search (rules, tests))
