use Rattle.std.proofs.Common.{◌≡◌, true, false, length, rules}
use borrow.Author.Tests.{tests}
use Rattle.std.proofs.lemmas.Iterator.{IsFirst-from_position, YieldsList-from_slice}
use Rattle.rays.specs.Sets.{has}
use Rattle.bitboard.specs.CodeLaws.{code_found}
use Rattle.bitboard.proofs.Bitboard.holder.Goals as goal

pub returns : goal.returns
returns c =
    let words = c.args.self.now.words in
    let s = c.args.square.number in
    let len : length words ≡ 12 = search rules in
    code_found words s c.position.result c.map_or.result _ len
    (IsFirst-from_position _ _ c.position.result (λ w. has w s ≡ true) (λ w. has w s ≡ false) c.position.ensures.ran (YieldsList-from_slice words cc)
    (λ x q k. search (rules, tests)) (λ x q k. search (rules, tests)))
    c.map_or.ensures (λ i k. search rules)
