-- The castling texts, by their bytes.
use Rattle.std.specs.Prelude.{◌≡◌, ℕ, suc, ◌≤◌, ◌⊎◌, List, [], ◌∷◌, length, drop, codes as bytes, slice_index}
use Rattle.rules.specs.declared.rights.Wing.{Wing}
use Rattle.rules.specs.declared.rights.Wing.TheVariants.{Kingside, Queenside}

-- the bytes of p stand in s from index i on
abbrev pub ReadsAt : List ℕ → ℕ → List ℕ → Type 0
ReadsAt s i [] = Unit {0}
ReadsAt s i (c ∷ p) = (slice_index s i ≡ c) × ReadsAt s (suc i) p

-- s is the text p
abbrev pub Is : List ℕ → List ℕ → Type 0
Is p s = (length s ≡ length p) × ReadsAt s 0 p

-- nothing, + or #
abbrev pub Ends : List ℕ → Type 0
Ends s = (length s ≡ 0) ⊎ (Is (bytes "+") s ⊎ Is (bytes "#") s)

-- s is the text p with such an end
abbrev pub Ended : List ℕ → List ℕ → Type 0
Ended p s = ((length p ≤ length s) × ReadsAt s 0 p) × Ends (drop (length p) s)

-- the castling texts of a side
abbrev pub Castles : Wing → List ℕ → Type 0
Castles Kingside s = Ended (bytes "O-O") s ⊎ Ended (bytes "0-0") s
Castles Queenside s = Ended (bytes "O-O-O") s ⊎ Ended (bytes "0-0-0") s
