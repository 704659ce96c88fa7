-- Positions by their FEN, and moves by their text.
use Rattle.std.specs.Prelude.{ℕ, List, [], ◌∷◌, Some, None, Ok, Err, codes as bytes, Option}
use Prim.Native.String.{String}
use Rattle.rules.specs.Parts.{Parts, initial_parts}
use Rattle.rules.specs.Move.{Move}
use Rattle.rules.specs.After.{after}
use Rattle.notation.specs.Fen.{fen_parts}
use Rattle.san.specs.Text.{move_answer}

-- the position that a FEN text says
abbrev pub position : String → Parts
position t = elim (fen_parts (bytes t)) [ Some p ↦ p | None ↦ initial_parts ]

-- the move from one square to another, without a promotion
abbrev pub move : ℕ → ℕ → Move
move from to = record { from = from; to = to; promotion = 0 }

-- the position after the moves of some texts, if each matches one
abbrev pub played : Parts → List String → Option Parts
played p [] = Some p
played p (t ∷ ts) = elim (move_answer p (bytes t)) [ Ok m ↦ played (after p m) ts | Err f ↦ None ]
