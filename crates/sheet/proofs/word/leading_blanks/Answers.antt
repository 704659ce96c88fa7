use Rattle.std.proofs.Common.{ℕ, not, rules, ◌∙◌, arith}
use borrow.Author.Tests.{tests}
use Rattle.std.proofs.lemmas.Iterator.{YieldsList-from_slice}
use Rattle.std.proofs.lemmas.Iterator.Search.{position_from_yields_List}
use Rattle.std.proofs.lemmas.List.Sums.{prefix_len-le-length}
use Rattle.game.specs.Words.{is_blank}
use Rattle.sheet.proofs.WordLaws.{place_or_len}
use Rattle.sheet.proofs.word.leading_blanks.Goals as goal

pub returns : goal.returns
returns c =
    let at = position_from_yields_List (λ (b : ℕ). not (is_blank b)) _ _ c.position.result c.position.ensures.ran (YieldsList-from_slice c.args.text.now cc) (λ x b q k. search (rules, tests)) in
    let value = c.unwrap_or.ensures ∙ place_or_len (λ (b : ℕ). not (is_blank b)) c.args.text.now c.position.result at in
    record { value = value; most = omega (arith, value, prefix_len-le-length (λ b. not ((λ (b : ℕ). not (is_blank b)) b)) c.args.text.now) }
