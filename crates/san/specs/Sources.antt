-- The moves that a text matches, looked for only where they can be.
use Rattle.std.specs.Prelude.{◌≡◌, ℕ, ◌+◌, ◌-◌, ◌<◌, ◌≤◌, Bool, true, cond, [], ◌∷◌, map, Option}
use Rattle.std.specs.List.{range_with_len}
use Rattle.board.specs.declared.side.Side.{Side}
use Rattle.rules.specs.Parts.{Parts}
use Rattle.rules.specs.Move.{Move}
use Rattle.rules.specs.Lawful.{lawful, king_home}
use Rattle.rules.specs.Legal.{legal, keep, going_from}
use Rattle.san.specs.Said.{castling, going, matches, matching}

-- the castling move of a side
abbrev pub castling_move : Side → Bool → Move
castling_move side queenside = record { from = king_home side; to = cond queenside (king_home side - 2) (king_home side + 2); promotion = 0 }

-- a piece's text matches legal moves to its target alone, one for each square that they come from
abbrev pub BySource : Type 0
BySource = (p : Parts) (k : ℕ) (f r : Option ℕ) (t q : ℕ) → t < 64 → q ≤ 5
    → matching p (going k f r t q) ≡ keep (matches p (going k f r t q)) (keep (legal p) (map (going_from t q) (range_with_len 0 64)))

-- a castling text matches at most the castling move
abbrev pub ByCastling : Type 0
ByCastling = (p : Parts) (queenside : Bool) → lawful p ≡ true
    → matching p (castling queenside) ≡ keep (matches p (castling queenside)) (keep (legal p) (castling_move p.side queenside ∷ []))
