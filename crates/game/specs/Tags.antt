-- The heading of a game: its tags and its start.
use Rattle.std.specs.Prelude.{ℕ, Bool, true, false, cond, not, ◌&&◌, ◌||◌, List, [], ◌∷◌, length, get_or, replicate, Some, None, Ok, Err, codes as bytes, Option, ◌==◌, nat_le, nat_lt, slice_index_or, slice_set}
use Rattle.std.specs.List.{list_all}
use Rattle.board.specs.Below.{least_below}
use Rattle.faults.specs.declared.NotationFault.TheVariants.{TagName, TagValue}
use Rattle.faults.specs.declared.LawsFault.TheVariants.{InNotation}
use Rattle.faults.specs.declared.SheetFault.{SheetFault}
use Rattle.faults.specs.declared.SheetFault.TheVariants.{ReservedTag, TaggedTwice, TagsFull, InLaws}
use Rattle.rules.specs.Parts.{Parts}
use Rattle.san.specs.Text.{same_bytes}
use Rattle.notation.specs.Answers.{start_answer}
use Rattle.game.specs.Record.{Game, Tag, roster, new_game, most_tags}
use Rattle.game.specs.Results.{first, fault_of}

-- a letter, a digit or an underscore
abbrev pub is_name_byte : ℕ → Bool
is_name_byte b = (nat_le 65 b && nat_le b 90) || (nat_le 97 b && nat_le b 122) || (nat_le 48 b && nat_le b 57) || b == 95

unfoldable pub is_name : List ℕ → Bool
is_name n = nat_le 1 (length n) && nat_le (length n) 32 && list_all is_name_byte n

-- the tags that calls of their own set
unfoldable pub is_reserved : List ℕ → Bool
is_reserved n = same_bytes n (bytes "Result") || same_bytes n (bytes "SetUp") || same_bytes n (bytes "FEN")

-- neither below 32 nor 127
abbrev pub is_value_byte : ℕ → Bool
is_value_byte b = nat_le 32 b && not (b == 127)

unfoldable pub is_value : List ℕ → Bool
is_value v = nat_le (length v) 200 && list_all is_value_byte v

-- the place of a name among the six
unfoldable pub roster_place : List ℕ → Option ℕ
roster_place n = least_below 6 (λ i. same_bytes n (slice_index_or roster i []))

-- byte order
abbrev pub precedes : List ℕ → List ℕ → Bool
precedes [] [] = false
precedes [] (y ∷ ys) = true
precedes (x ∷ xs) [] = false
precedes (x ∷ xs) (y ∷ ys) = nat_lt x y || (x == y && precedes xs ys)

-- a name is among the further tags
abbrev pub is_tagged : List ℕ → List Tag → Bool
is_tagged n [] = false
is_tagged n (t ∷ ts) = same_bytes n t.name || is_tagged n ts

-- a tag put in its place by the byte order of the names
abbrev pub inserted : Tag → List Tag → List Tag
inserted t [] = t ∷ []
inserted t (u ∷ us) = cond (precedes t.name u.name) (t ∷ u ∷ us) (u ∷ inserted t us)

-- a heading: the record so far, and which of the six values a tag has set
pub record Heading : Type 0 where
  pub game : Game
  pub given : List Bool

abbrev pub new_heading : Heading
new_heading = record { game = new_game; given = replicate 6 false }

-- a call on a heading
pub data Entry : Type 0 where
  tag : List ℕ → List ℕ → Entry
  start : List ℕ → Entry

-- a tag is given already; there is no room for a further one
abbrev pub given_twice : List ℕ → Heading → Bool
given_twice n h = elim (roster_place n) [ Some i ↦ get_or h.given i false | None ↦ is_tagged n h.game.tags ]

abbrev pub no_room : List ℕ → Heading → Bool
no_room n h = elim (roster_place n) [ Some i ↦ false | None ↦ nat_le most_tags (length h.game.tags) ]

-- what refuses a call: its first case that holds
unfoldable pub entry_refusal : Entry → Heading → Option SheetFault
entry_refusal (tag n v) h = first (
    (not (is_name n), InLaws (InNotation TagName)) ∷ (is_reserved n, ReservedTag) ∷ (not (is_value v), InLaws (InNotation TagValue))
    ∷ (given_twice n h, TaggedTwice) ∷ (no_room n h, TagsFull) ∷ [])
entry_refusal (start t) h = fault_of (start_answer t)

-- what a call does when it is not refused
abbrev pub with_tag : List ℕ → List ℕ → Heading → Heading
with_tag n v h =
    let g = h.game in
    elim (roster_place n) [
      | Some i ↦ record { game = record { values = slice_set g.values i v; tags = g.tags; start = g.start; items = g.items; result = g.result }; given = slice_set h.given i true }
      | None ↦ record { game = record { values = g.values; tags = inserted (record { name = n; value = v }) g.tags; start = g.start; items = g.items; result = g.result }; given = h.given }
    ]

abbrev pub with_start : Parts → Heading → Heading
with_start p h =
    let g = h.game in
    record { game = record { values = g.values; tags = g.tags; start = p; items = g.items; result = g.result }; given = h.given }

unfoldable pub entry_done : Entry → Heading → Heading
entry_done (tag n v) h = with_tag n v h
entry_done (start t) h = elim (start_answer t) [ Ok p ↦ with_start p h | Err f ↦ h ]

-- a heading after a call: refused, as before
unfoldable pub entered : Entry → Heading → Heading
entered e h = elim (entry_refusal e h) [ None ↦ entry_done e h | Some f ↦ h ]

-- after a list of calls, each done or refused
abbrev pub entered_all : List Entry → Heading → Heading
entered_all [] h = h
entered_all (e ∷ es) h = entered_all es (entered e h)
