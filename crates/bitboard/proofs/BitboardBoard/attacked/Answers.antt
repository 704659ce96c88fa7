use Rattle.std.proofs.Common.{false, sym, ◌∙◌, ⊎_elim, rules}
use Rattle.std.proofs.lemmas.Bool.{cases_lt, cond-true, cond-false, lt-ltb, le-ltb}
use Rattle.board.specs.Attack.{attacks}
use Rattle.board.proofs.AttackLaws.{attacks_past}
use Rattle.bitboard.specs.Codes.{codes_of}
use Rattle.board.proofs.SquareLaws.{by_square}
use Rattle.bitboard.proofs.BitboardBoard.attacked.Goals as goal

pub returns : goal.returns
returns c =
    let by = c.args.by in
    let codes = codes_of c.args.self.now.words in
    let t = c.args.square in
    by_square t c.new.result c.is_some_and.result false (attacks by codes) _ c.new.ensures c.is_some_and.ensures (λ s k. search rules)
    ∙ ⊎_elim (λ h. cond-true _ (attacks by codes t) false (lt-ltb t 64 h))
    (λ h. cond-false _ (attacks by codes t) false (le-ltb t 64 h) ∙ sym (attacks_past by codes t h)) (cases_lt t 64)
