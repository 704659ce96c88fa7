-- The record of a game.
use Rattle.std.specs.Prelude.{ℕ, List, [], ◌∷◌, ◌++◌, codes as bytes}
use Rattle.rules.specs.Parts.{Parts, initial_parts}
use Rattle.rules.specs.Move.{Move}
use Rattle.game.specs.declared.outcome.Outcome.{Outcome}
use Rattle.game.specs.declared.outcome.Outcome.TheVariants.{Open}

-- an item: a move, the number of a glyph, the words of a remark with single spaces, the opening of a branch, its end
pub data Item : Type 0 where
  move : Move → Item
  glyph : ℕ → Item
  remark : List ℕ → Item
  opening : Item
  ending : Item

pub record Tag : Type 0 where
  pub name : List ℕ
  pub value : List ℕ

-- the six values in the order of their tags, the further tags, the start position, the items and the result
pub record Game : Type 0 where
  pub values : List (List ℕ)
  pub tags : List Tag
  pub start : Parts
  pub items : List Item
  pub result : Outcome

-- the names of the six values
abbrev pub roster : List (List ℕ)
roster = bytes "Event" ∷ bytes "Site" ∷ bytes "Date" ∷ bytes "Round" ∷ bytes "White" ∷ bytes "Black" ∷ []

-- what they are at first
abbrev pub unknown : List ℕ
unknown = bytes "?"

abbrev pub first_values : List (List ℕ)
first_values = unknown ∷ unknown ∷ bytes "????.??.??" ∷ unknown ∷ unknown ∷ unknown ∷ []

-- the record of a new heading
abbrev pub new_game : Game
new_game = record { values = first_values; tags = []; start = initial_parts; items = []; result = Open }

-- a record with other items; with another result
abbrev pub with_items : Game → List Item → Game
with_items g xs = record { values = g.values; tags = g.tags; start = g.start; items = xs; result = g.result }

abbrev pub with_result : Game → Outcome → Game
with_result g r = record { values = g.values; tags = g.tags; start = g.start; items = g.items; result = r }

-- one item more
abbrev pub added : Game → Item → Game
added g x = with_items g (g.items ++ (x ∷ []))

-- what a record has room for
abbrev pub most_items : ℕ
most_items = 1024

abbrev pub most_remark_bytes : ℕ
most_remark_bytes = 4096

abbrev pub most_tags : ℕ
most_tags = 24

abbrev pub most_branches : ℕ
most_branches = 8

-- the bytes of the remarks among some items
unfoldable pub remark_bytes : List Item → List ℕ
remark_bytes [] = []
remark_bytes (remark t ∷ xs) = t ++ remark_bytes xs
remark_bytes (move m ∷ xs) = remark_bytes xs
remark_bytes (glyph n ∷ xs) = remark_bytes xs
remark_bytes (opening ∷ xs) = remark_bytes xs
remark_bytes (ending ∷ xs) = remark_bytes xs
