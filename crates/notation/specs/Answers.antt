-- What the calls answer, as parts.
use Rattle.std.specs.Prelude.{ℕ, Bool, cond, ◌&&◌, List, ◌++◌, length, drop, Some, None, Ok, Err, Option, Result, nat_le, nat_lt}
use Rattle.faults.specs.declared.NotationFault.{NotationFault}
use Rattle.faults.specs.declared.NotationFault.TheVariants.{NotFen}
use Rattle.faults.specs.declared.LawsFault.TheVariants.{InNotation}
use Rattle.faults.specs.declared.SheetFault.{SheetFault}
use Rattle.faults.specs.declared.SheetFault.TheVariants.{InLaws, Counters, BufferShort}
use Rattle.rules.specs.declared.breach.Breach.{Breach}
use Rattle.laws.specs.declared.position.Position.{Position}
use Rattle.laws.specs.declared.setup.Setup.{Setup}
use Rattle.rules.specs.Breach.{breach_fault}
use Rattle.rules.specs.Lawful.{judged}
use Rattle.rules.specs.Parts.{Parts}
use Rattle.laws.specs.Position.{position_parts}
use Rattle.laws.specs.Setup.{parts}
use Rattle.notation.specs.Fen.{fen_parts}

-- the parts of a setup that was read, or the fault
abbrev pub setup_parts : Result Setup NotationFault → Result Parts NotationFault
setup_parts (Ok s) = Ok (parts s)
setup_parts (Err e) = Err e

-- the parts of a position that was read, or the fault
abbrev pub start_parts : Result Position SheetFault → Result Parts SheetFault
start_parts (Ok p) = Ok (position_parts p)
start_parts (Err e) = Err e

-- a game starts with a clock of at most 999 and a move number of 1 to 5,000
abbrev pub start_counters : ℕ → ℕ → Bool
start_counters clock number = nat_le clock 999 && nat_le 1 number && nat_le number 5000

-- parts that were judged: a law of chess that they break comes before their counters
abbrev pub started : Result Parts Breach → Result Parts SheetFault
started (Err law) = Err (breach_fault law)
started (Ok p) = cond (start_counters p.clock p.number) (Ok p) (Err Counters)

-- the start that a text says: it is FEN, it obeys the laws, and its counters are in the range of a start
abbrev pub start_of : Option Parts → Result Parts SheetFault
start_of None = Err (InLaws (InNotation NotFen))
start_of (Some p) = started (judged p)

unfoldable pub start_answer : List ℕ → Result Parts SheetFault
start_answer t = start_of (fen_parts t)

-- a text written in front of a buffer: its length, unless the buffer is too short
abbrev pub write_answer : List ℕ → List ℕ → Result ℕ SheetFault
write_answer text out = cond (nat_lt (length out) (length text)) (Err BufferShort) (Ok (length text))

-- the buffer after that, its rest as it was
abbrev pub written_over : List ℕ → List ℕ → List ℕ
written_over text out = cond (nat_lt (length out) (length text)) out (text ++ drop (length text) out)
