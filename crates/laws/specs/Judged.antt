-- Parts judged by the laws.
use Rattle.std.specs.Prelude.{Some, None, Ok, Err, Option, Result}
use Rattle.rules.specs.declared.breach.Breach.{Breach}
use Rattle.rules.specs.Parts.{Parts}
use Rattle.rules.specs.Lawful.{broken}

-- a breach, if there is one, as an error
abbrev pub unless : Option Breach → Result (Unit {0}) Breach
unless None = Ok tt
unless (Some law) = Err law

-- the first law that parts break, if they break one
abbrev pub obeyed : Parts → Result (Unit {0}) Breach
obeyed p = unless (broken p)
