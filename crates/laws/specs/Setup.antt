-- The parts that a setup of the code holds.
use Rattle.std.specs.Prelude.{ℕ}
use Rattle.std.specs.Option.{option_map}
use Rattle.board.specs.declared.square.Square.{Square}
use Rattle.laws.specs.declared.setup.Setup.{Setup}
use Rattle.rules.specs.Parts.{Parts}

abbrev pub square_number : Square → ℕ
square_number s = s.number

abbrev pub parts : Setup → Parts
parts s = record {
  codes = s.codes;
  side = s.side;
  rights = s.rights;
  en_passant = option_map square_number s.en_passant;
  clock = s.clock;
  number = s.number;
}
