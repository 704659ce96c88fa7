use Rattle.std.proofs.Common.{◌≡◌, map, vec_items}
use Rattle.laws.specs.Position.{position_parts}
use Rattle.moves.specs.Action.{plain}
use Rattle.moves.proofs.TrialLaws.{legal_below}
use Rattle.moves.proofs.legal.legal_moves.Given as goal

abbrev pub invariant-loop-number : goal.invariant-loop-number
invariant-loop-number g l = record {
  setup : l.table.setup ≡ l.initial.table.setup;
  board : l.table.board.ghost_name ≡ l.initial.table.board.ghost_name;
  moves : map plain (vec_items l.moves) ≡ legal_below (position_parts l.position) l.number;
}
