-- What a trial leaves as it was.
use Rattle.std.specs.Prelude.{◌≡◌}
use Rattle.moves.specs.declared.table.Table.{Table}

-- a table keeps its position and its board
abbrev pub Keeps : {B : _} {g : _} → Table B g → Table B g → Type 0
Keeps old new = (new.setup ≡ old.setup) × (new.board.ghost_name ≡ old.board.ghost_name)
