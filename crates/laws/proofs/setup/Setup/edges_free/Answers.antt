use Rattle.std.proofs.Common.{not, ◌&&◌, ◌+◌, get_or, refl, rules}
use borrow.Author.Tests.{tests}
use Rattle.board.proofs.ChainLaws.{all_from_all}
use Rattle.rules.specs.Lawful.{is_pawn, edges_free}
use Rattle.laws.proofs.setup.Setup.edges_free.Goals as goal

pub returns : goal.returns
unfolding edges_free
returns c =
    let codes = c.args.self.now.codes in
    all_from_all _ (λ f. not (is_pawn (get_or codes f 0)) && not (is_pawn (get_or codes (56 + f) 0))) 8 _ _ _ refl c.all.ensures.ran (λ x b q k. search (rules, tests))
