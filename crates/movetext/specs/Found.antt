-- The move that a move text matches, as the code finds it.
use Rattle.std.specs.Prelude.{ℕ, Bool, ◌&&◌, Ok, Err, Result}
use Rattle.board.specs.Geometry.{file, rank}
use Rattle.board.specs.Piece.{number}
use Rattle.faults.specs.declared.LawsFault.{LawsFault}
use Rattle.rules.specs.Move as rules
use Rattle.moves.specs.declared.action.Move.{Move}
use Rattle.moves.specs.Action.{plain}
use Rattle.san.specs.Said.{agrees, file_agrees}
use Rattle.movetext.specs.declared.text.PieceText.{PieceText}

-- the move that was found, or the fault
abbrev pub found : Result Move LawsFault → Result rules.Move LawsFault
found (Ok m) = Ok (plain m)
found (Err f) = Err f

-- the origin marks of a text, as far as they are given, agree with a square
abbrev pub marks_agree : PieceText → ℕ → Bool
marks_agree t s = file_agrees (number t.kind) t.file (file s) t.to.number && agrees t.rank (rank s)
