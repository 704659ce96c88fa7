use Rattle.std.proofs.Common.{◌≡◌, ℕ, ◌<◌, false}
use Rattle.rules.specs.Move.{numbered_move}
use Rattle.rules.specs.Legal.{legal}
use Rattle.laws.specs.Setup.{parts}
use Rattle.moves.proofs.table.Table.can_move.Given as goal

abbrev pub invariant-loop-number : goal.invariant-loop-number
invariant-loop-number g l = record {
  setup : l.self.setup ≡ l.initial.self.setup;
  board : l.self.board.ghost_name ≡ l.initial.self.board.ghost_name;
  none : (k : ℕ) → k < l.number → legal (parts l.initial.self.setup.now) (numbered_move k) ≡ false;
}
