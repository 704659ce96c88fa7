use Rattle.std.proofs.Common.{leb, ◌∙◌, rules}
use Rattle.std.proofs.lemmas.Iterator.{YieldsList-from_slice}
use Rattle.std.proofs.lemmas.Iterator.Search.{all_from_yields_List}
use borrow.Author.Tests.{tests}
use Rattle.rules.proofs.LawfulLaws.{is_board-list_all}
use Rattle.laws.proofs.setup.Setup.all_codes.Goals as goal

pub returns : goal.returns
returns c =
    all_from_yields_List (λ x. leb x 12) _ _ _ c.all.ensures.ran (YieldsList-from_slice c.args.self.now.codes cc) (λ x b q k. search (rules, tests))
    ∙ is_board-list_all c.args.self.now.codes (search rules)
