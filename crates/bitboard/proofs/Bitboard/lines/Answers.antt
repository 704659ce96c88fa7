use Rattle.std.proofs.Common.{◌∙◌, refl, rules}
use borrow.Author.Tests.{tests}
use Rattle.board.specs.Hits.{lines_hit}
use Rattle.board.proofs.BelowLaws.{some_same}
use Rattle.board.proofs.ChainLaws.{some_from_any}
use Rattle.bitboard.specs.Codes.{codes_of}
use Rattle.bitboard.proofs.HitLaws.{first_hit, first_line}
use Rattle.bitboard.proofs.Bitboard.lines.Goals as goal

pub returns : goal.returns
unfolding lines_hit
returns c =
    let all = c.occupied-occupied.result in
    let straight = c.movers-straight.result in
    let diagonal = c.movers-diagonal.result in
    let t = c.args.square in
    some_from_any _ (λ d. first_hit straight diagonal all d t.number) 8 _ _ c.any.result refl c.any.ensures.ran (λ x b q k. search (rules, tests))
    ∙ some_same 8 _ _ (λ d h. first_line c.args.by (codes_of c.args.self.now.words) straight diagonal all t.number t.on_board
    c.occupied-occupied.ensures c.movers-straight.ensures c.movers-diagonal.ensures d h)
