-- The marks that may stand at a text's end.
use Rattle.std.specs.Prelude.{ℕ, ◌+◌, Bool, ◌&&◌, List, ◌==◌, nat_le}
use Rattle.std.specs.List.{list_any}

-- a byte is one of these
abbrev pub is_one_of : List ℕ → ℕ → Bool
is_one_of marks b = list_any (λ m. m == b) marks

-- a byte is one of the eight from a first one on, as the files and the ranks are
abbrev pub is_mark : ℕ → ℕ → Bool
is_mark first b = nat_le first b && nat_le b (first + 7)
