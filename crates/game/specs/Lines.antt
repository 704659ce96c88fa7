-- Where the items of a record lead.
use Rattle.std.specs.Prelude.{ℕ, ◌-◌, Bool, true, ◌&&◌, List, [], ◌∷◌, ◌++◌, length, take, is_some, Some, None, Option, ◌==◌, nat_le, nat_lt, slice_index_or}
use Rattle.board.specs.Below.{◌and_then◌}
use Rattle.rules.specs.Parts.{Parts}
use Rattle.rules.specs.After.{after}
use Rattle.rules.specs.Legal.{legal}
use Rattle.game.specs.Record.{Item, move, glyph, remark, opening, ending, Game, most_branches}

-- a line: its present position, and the one before its last move, if it has a move
pub record Line : Type 0 where
  pub here : Parts
  pub before : Option Parts

abbrev pub has_move : Line → Bool
has_move l = is_some l.before

-- the current line, and the lines around it that are open, the outermost first
pub record Place : Type 0 where
  pub current : Line
  pub around : List Line

-- a game's beginning
abbrev pub begun : Parts → Place
begun p = record { current = record { here = p; before = None }; around = [] }

-- where a branch of a line starts: before its last move
abbrev pub branch_start : Line → Parts
branch_start l = elim l.before [ Some p ↦ p | None ↦ l.here ]

-- an end leads back to just before its opening
abbrev pub advance : Place → Item → Place
advance w (move m) = record { current = record { here = after w.current.here m; before = Some w.current.here }; around = w.around }
advance w (glyph n) = w
advance w (remark t) = w
advance w opening = record { current = record { here = branch_start w.current; before = None }; around = w.around ++ (w.current ∷ []) }
advance w ending = record { current = slice_index_or w.around (length w.around - 1) w.current; around = take (length w.around - 1) w.around }

abbrev pub walk : Place → List Item → Place
walk w [] = w
walk w (x ∷ xs) = walk (advance w x) xs

-- where a record's items lead, and the present position
unfoldable pub place : Game → Place
place g = walk (begun g.start) g.items

abbrev pub present : Game → Parts
present g = (place g).current.here

-- how many branches are open; a game is at rest when none is
abbrev pub open_branches : Game → ℕ
open_branches g = length (place g).around

abbrev pub at_rest : Game → Bool
at_rest g = open_branches g == 0

-- an item may stand at a place
unfoldable pub allowed : Place → Item → Bool
allowed w (move m) = legal w.current.here m
allowed w (glyph n) = nat_le n 255 && has_move w.current
allowed w (remark t) = true
allowed w opening = nat_lt (length w.around) most_branches && has_move w.current
allowed w ending = nat_lt 0 (length w.around) && has_move w.current

-- every item may stand where it stands
abbrev pub sound : Place → List Item → Bool
sound w [] = true
sound w (x ∷ xs) = allowed w x and_then sound (advance w x) xs

unfoldable pub all_allowed : Game → Bool
all_allowed g = sound (begun g.start) g.items
