use Rattle.std.proofs.Common.{◌≡◌, ◌&&◌, eqb, ltb, leb, get_or, ap, ◌∙◌, rules, arith}
use borrow.Author.Tests.{tests}
use Rattle.std.proofs.lemmas.Bool.{cond-true, lt-ltb}
use Rattle.board.specs.Meaning.{looked, next_holding}
use Rattle.board.proofs.BelowLaws.{least_same}
use Rattle.board.proofs.ChainLaws.{least_from_find}
use Rattle.mailbox.specs.Cells.{codes_of}
use Rattle.mailbox.proofs.MailboxBoard.next.Goals as goal

pub returns : goal.returns
unfolding next_holding
returns c =
    let codes = codes_of c.args.self.now.cells in
    let found : c.find.result ≡ next_holding codes c.args.from c.args.code =
    least_from_find _ (λ k. eqb (looked codes k) c.args.code) _ _ c.find.result c.find.ensures.ran (λ x b q k. search (rules, tests))
    ∙ least_same 64 _ _ (λ k h. ap (λ v. leb c.args.from k && eqb v c.args.code) (cond-true (ltb k 64) (get_or codes k 0) 255 (lt-ltb k 64 h))) in
    grind arith
