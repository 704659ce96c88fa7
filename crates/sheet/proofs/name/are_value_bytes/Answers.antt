use Rattle.std.proofs.Common.{rules}
use borrow.Author.Tests.{tests}
use Rattle.std.proofs.lemmas.Iterator.{YieldsList-from_slice}
use Rattle.std.proofs.lemmas.Iterator.Search.{all_from_yields_List}
use Rattle.game.specs.Tags.{is_value_byte}
use Rattle.sheet.proofs.name.are_value_bytes.Goals as goal

pub returns : goal.returns
returns c = all_from_yields_List is_value_byte _ _ c.all.result c.all.ensures.ran (YieldsList-from_slice c.args.text.now cc) (λ x b q k. search (rules, tests))
