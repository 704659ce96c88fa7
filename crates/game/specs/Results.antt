-- Answers of calls, and the results of a game.
use Rattle.std.specs.Prelude.{ℕ, Bool, true, false, not, List, [], ◌∷◌, Some, None, Ok, Err, codes as bytes, Option, Result}
use Rattle.board.specs.declared.side.Side.{Side}
use Rattle.board.specs.declared.side.Side.TheVariants.{White, Black}
use Rattle.faults.specs.declared.SheetFault.{SheetFault}
use Rattle.rules.specs.Parts.{Parts}
use Rattle.rules.specs.Legal.{checkmate, stalemate}
use Rattle.game.specs.declared.outcome.Outcome.{Outcome}
use Rattle.game.specs.declared.outcome.Outcome.TheVariants as outcome

-- the fault of the first case that holds
abbrev pub first : List (Bool × SheetFault) → Option SheetFault
first [] = None
first (c ∷ cs) = elim c.0 [ true ↦ Some c.1 | false ↦ first cs ]

-- the fault of an answer
abbrev pub fault_of : {X : Type 0} → Result X SheetFault → Option SheetFault
fault_of (Ok x) = None
fault_of (Err f) = Some f

-- what a call answers: done, or its fault
abbrev pub answered : Option SheetFault → Result (Unit {0}) SheetFault
answered None = Ok tt
answered (Some f) = Err f

-- a result as it is written
abbrev pub outcome_text : Outcome → List ℕ
outcome_text outcome.White = bytes "1-0"
outcome_text outcome.Black = bytes "0-1"
outcome_text outcome.Draw = bytes "1/2-1/2"
outcome_text outcome.Open = bytes "*"

-- a result is not open
abbrev pub is_closed : Outcome → Bool
is_closed outcome.Open = false
is_closed outcome.White = true
is_closed outcome.Black = true
is_closed outcome.Draw = true

-- a side has lost; the game is drawn
abbrev pub is_loss : Side → Outcome → Bool
is_loss White r = elim r [ outcome.Black ↦ true | outcome.White ↦ false | outcome.Draw ↦ false | outcome.Open ↦ false ]
is_loss Black r = elim r [ outcome.White ↦ true | outcome.Black ↦ false | outcome.Draw ↦ false | outcome.Open ↦ false ]

abbrev pub is_draw : Outcome → Bool
is_draw outcome.Draw = true
is_draw outcome.White = false
is_draw outcome.Black = false
is_draw outcome.Open = false

-- a result that the position forbids: not the winner's at mate, not the draw at stalemate; an open one is never forbidden
unfoldable pub is_wrong : Parts → Outcome → Bool
is_wrong p r =
    elim (is_closed r) [
      | false ↦ false
      | true ↦ elim (checkmate p) [ true ↦ not (is_loss p.side r) | false ↦ elim (stalemate p) [ true ↦ not (is_draw r) | false ↦ false ] ]
    ]
