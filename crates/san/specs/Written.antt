-- SAN as bytes.
use Rattle.std.specs.Prelude.{ℕ, ◌+◌, Bool, true, false, cond, List, [], ◌∷◌, ◌++◌, Some, None, codes as bytes, Option, ◌==◌, slice_index}
use Rattle.board.specs.Geometry.{file, rank}
use Rattle.board.specs.Attack.{in_check}
use Rattle.rules.specs.Parts.{Parts}
use Rattle.rules.specs.Move.{Move, is_capture}
use Rattle.rules.specs.After.{after}
use Rattle.rules.specs.Legal.{can_move}
use Rattle.san.specs.Said.{Said, castling, going, said}

-- the letter of a kind from the knight on, in the order of their numbers
abbrev pub kind_letters : List ℕ
kind_letters = bytes "  NBRQK"

-- none for a pawn
unfoldable pub kind_text : ℕ → List ℕ
kind_text k = cond (k == 1) [] (slice_index kind_letters k ∷ [])

abbrev pub file_text : Option ℕ → List ℕ
file_text None = []
file_text (Some f) = (97 + f) ∷ []

abbrev pub rank_text : Option ℕ → List ℕ
rank_text None = []
rank_text (Some r) = (49 + r) ∷ []

abbrev pub capture_text : Bool → List ℕ
capture_text true = 120 ∷ []
capture_text false = []

abbrev pub square_text : ℕ → List ℕ
square_text s = (97 + file s) ∷ (49 + rank s) ∷ []

abbrev pub promotion_text : ℕ → List ℕ
promotion_text q = cond (q == 0) [] (61 ∷ kind_text q)

-- letter, origin mark, x for a capture, target, promotion; or castling
unfoldable pub said_text : Said → Bool → List ℕ
said_text (castling true) x = bytes "O-O-O"
said_text (castling false) x = bytes "O-O"
said_text (going k f r t q) x =
    kind_text k ++ (file_text f ++ (rank_text r ++ (capture_text x ++ (square_text t ++ promotion_text q))))

-- # for mate, else + for check
unfoldable pub suffix : Parts → List ℕ
suffix p = elim (in_check p.side p.codes) [ true ↦ elim (can_move p) [ true ↦ 43 ∷ [] | false ↦ 35 ∷ [] ] | false ↦ [] ]

unfoldable pub san : Parts → Move → List ℕ
san p m = said_text (said p m) (is_capture p m) ++ suffix (after p m)
