use Rattle.std.proofs.Common.{◌<◌, sym, ◌∙◌, ltb, rules, arith}
use Rattle.std.proofs.lemmas.Bool.{cond-true, lt-ltb}
use Rattle.std.proofs.lemmas.List.{ext_get_or}
use borrow.Author.Tests.{tests}
use Rattle.board.specs.Meaning.{looked}
use Rattle.board.proofs.ChainLaws.{at_from_fn}
use Rattle.board.proofs.picture.picture.Goals as goal

pub returns : goal.returns
returns g c =
    let codes = g.B.Board.codes c.args.board.now in
    let made = c.from_fn.ensures.items in
    ext_get_or 0 _ _ (made.long ∙ sym (g.met.B.Board.size c.args.board.now))
    (λ k h.
    let l : k < 64 = omega (arith, h, made.long) in
    at_from_fn _ _ 0 (looked codes) 64 (λ x y q l e. search (rules, tests)) made k l ∙ cond-true (ltb k 64) _ 255 (lt-ltb k 64 l))
