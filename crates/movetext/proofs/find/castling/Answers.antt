use Rattle.std.proofs.Common.{sym, ◌∙◌}
use Rattle.std.proofs.lemmas.Bool.{both_ways}
use Rattle.laws.specs.Position.{position_parts}
use Rattle.moves.specs.Action.{plain}
use Rattle.movetext.specs.Said.{is_queenside}
use Rattle.movetext.proofs.Finding.{castles, no_castling}
use Rattle.movetext.proofs.find.castling.Goals as goal
use Rattle.movetext.proofs.find.castling.Goals.{else-is_legal-via-then-is_legal+else-moves_rook_too, else-is_legal-via-else-is_legal}

pub returns-then-moves_rook_too-clause-answer : goal.returns-then-moves_rook_too-clause-answer
returns-then-moves_rook_too-clause-answer g c =
    castles (position_parts c.args.position.now) (is_queenside c.args.wing) c.args.position.now.ok (plain c.castling_move-m.result) c.castling_move-m.ensures
    (sym c.is_legal.ensures.answer ∙ c.if-is_legal.true) (sym c.moves_rook_too.ensures ∙ c.if-moves_rook_too.true)

pub returns-else-is_legal-clause-answer : goal.returns-else-is_legal-clause-answer
returns-else-is_legal-clause-answer g c =
    no_castling (position_parts c.args.position.now) (is_queenside c.args.wing) c.args.position.now.ok (plain c.castling_move-m.result) c.castling_move-m.ensures
    (λ l k. elim c.else-is_legal.branch [
      | else-is_legal-via-then-is_legal+else-moves_rook_too w ↦ both_ways _ (sym w.moves_rook_too.ensures ∙ w.if-moves_rook_too.false) k
      | else-is_legal-via-else-is_legal w ↦ both_ways _ (sym c.is_legal.ensures.answer ∙ w.if-is_legal.false) l
    ])
