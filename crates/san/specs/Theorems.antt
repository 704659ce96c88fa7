-- The theorems of SAN.
use Rattle.std.specs.Prelude.{◌≡◌, ℕ, true, List, Some, Ok}
use Rattle.rules.specs.Parts.{Parts}
use Rattle.rules.specs.Move.{Move}
use Rattle.rules.specs.Lawful.{lawful}
use Rattle.rules.specs.Legal.{legal}
use Rattle.san.specs.Said.{Said, said, matches}
use Rattle.san.specs.Written.{san}
use Rattle.san.specs.Text.{read_text, move_answer, Spells}

-- a text is read as what it spells, and as nothing else
abbrev pub ReadsSpelling : Type 0
ReadsSpelling = (t : List ℕ) (s : Said) → (read_text t ≡ Some s → Spells t s) × (Spells t s → read_text t ≡ Some s)

-- in a lawful position the SAN of a legal move is read as that move
abbrev pub ReadsBack : Type 0
ReadsBack = (p : Parts) (m : Move) → lawful p ≡ true → legal p m ≡ true → move_answer p (san p m) ≡ Ok m

-- it matches that legal move and no other
abbrev pub MatchesAlone : Type 0
MatchesAlone = (p : Parts) (m : Move) → lawful p ≡ true → legal p m ≡ true →
    (read_text (san p m) ≡ Some (said p m)) × (matches p (said p m) m ≡ true) × ((n : Move) → legal p n ≡ true → matches p (said p m) n ≡ true → n ≡ m)

-- different legal moves have different SAN
abbrev pub TellsApart : Type 0
TellsApart = (p : Parts) (m n : Move) → lawful p ≡ true → legal p m ≡ true → legal p n ≡ true → san p m ≡ san p n → m ≡ n
