-- What a move text of the code says.
use Rattle.std.specs.Prelude.{ℕ, Bool, true, false, Some, None, Ok, Err, Option, Result}
use Rattle.board.specs.declared.piece.Kind.{Kind}
use Rattle.board.specs.Piece.{number}
use Rattle.faults.specs.declared.NotationFault.{NotationFault}
use Rattle.moves.specs.Action.{promotion_number}
use Rattle.san.specs.Said.{Said, castling, going}
use Rattle.rules.specs.declared.rights.Wing.{Wing}
use Rattle.rules.specs.declared.rights.Wing.TheVariants.{Kingside, Queenside}
use Rattle.movetext.specs.declared.text.PieceText.{PieceText}
use Rattle.movetext.specs.declared.text.MoveText.{MoveText}
use Rattle.movetext.specs.declared.text.MoveText.TheVariants.{Castling, Piece}

abbrev pub is_queenside : Wing → Bool
is_queenside Kingside = false
is_queenside Queenside = true

abbrev pub piece_said : PieceText → Said
piece_said t = going (number t.kind) t.file t.rank t.to.number (promotion_number t.promotion)

abbrev pub text_said : MoveText → Said
text_said (Castling wing) = castling (is_queenside wing)
text_said (Piece t) = piece_said t

-- the number of a kind, 0 for none
abbrev pub kind_number : Option Kind → ℕ
kind_number None = 0
kind_number (Some k) = number k

-- what was read, or the fault
abbrev pub read_said : Result MoveText NotationFault → Result Said NotationFault
read_said (Ok t) = Ok (text_said t)
read_said (Err f) = Err f
