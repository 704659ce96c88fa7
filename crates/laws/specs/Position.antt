-- The parts of a lawful position.
use Rattle.std.specs.Prelude.{Ok, Err, Result}
use Rattle.rules.specs.declared.breach.Breach.{Breach}
use Rattle.laws.specs.declared.position.Position.{Position}
use Rattle.rules.specs.Parts.{Parts}
use Rattle.laws.specs.Setup.{parts}

abbrev pub position_parts : Position → Parts
position_parts p = parts p.setup

-- the parts of a position that was made, or the law that they break
abbrev pub made_parts : Result Position Breach → Result Parts Breach
made_parts (Ok p) = Ok (position_parts p)
made_parts (Err b) = Err b
