use Rattle.std.proofs.Common.{◌≡◌}
use Rattle.std.specs.Option.{option_map, option_to_list}
use Rattle.board.specs.Piece.{number}
use Rattle.laws.specs.Position.{position_parts}
use Rattle.moves.specs.Action.{plain, promotion_number}
use Rattle.movetext.proofs.Finding.{both}
use Rattle.movetext.proofs.find.piece.Given as goal

-- the matches among the squares so far are the one that was found, or none
abbrev pub invariant-loop-number : goal.invariant-loop-number
invariant-loop-number g l =
    option_to_list (option_map plain l.one) ≡ both (position_parts l.position) (number l.text.kind) l.text.file l.text.rank l.text.to.number (promotion_number l.text.promotion) l.number
