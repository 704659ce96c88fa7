use Rattle.std.proofs.Common.{◌≡◌, bit_or, length, rules}
use borrow.Author.Tests.{tests}
use Rattle.std.proofs.lemmas.Iterator.{YieldsList-from_slice}
use Rattle.std.proofs.lemmas.Iterator.Consumers.{fold_from_yields_List}
use Rattle.bitboard.specs.CodeLaws.{covers_fold, covers_all}
use Rattle.bitboard.proofs.Bitboard.occupied.Goals as goal

pub returns : goal.returns
returns c =
    let words = c.args.self.now.words in
    let len : length words ≡ 12 = search rules in
    let e = fold_from_yields_List _ bit_or 0 c.fold.result c.fold.ensures.ran (YieldsList-from_slice words cc) (λ a x b q k. search (rules, tests)) in
    covers_all words c.fold.result (rw e (covers_fold words len))
