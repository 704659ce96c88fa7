use Rattle.std.proofs.Common.{◌≡◌, ℕ, ◌+◌, ◌-◌, true, false, eqb, get_or, length, ap, ◌∙◌, rules}
use borrow.Author.Tests.{tests}
use Rattle.std.proofs.lemmas.Iterator.{cases_from_any, YieldsList-from_slice}
use Rattle.board.specs.Below.{some_below}
use Rattle.mailbox.specs.Cells.{leap_hit}
use Rattle.mailbox.proofs.LeapLaws.{some_place}
use Rattle.mailbox.proofs.Mailbox.leaper.Goals as goal

pub returns : goal.returns
unfolding leap_hit
returns c =
    let cells = c.args.self.now.cells in
    let leaps = c.args.leaps.now in
    let from = c.cell-from.result in
    let found = c.args.found in
    let test = λ (leap : ℕ). eqb (get_or cells (from + leap - 21) 0) found in
    some_place test leaps c.any.result
    (cases_from_any _ _ c.any.result (λ leap. test leap ≡ true) (λ leap. test leap ≡ false) c.any.ensures.ran (YieldsList-from_slice leaps cc)
    (λ x q k. search (rules, tests)) (λ x q k. search (rules, tests)))
    ∙ ap (λ cell. some_below (length leaps) (λ i. eqb (get_or cells (cell + get_or leaps i 0 - 21) 0) found)) c.cell-from.ensures.place
