use Rattle.std.proofs.Common.{◌≡◌, ℕ, ◌<◌, false, length, get_or}
use Rattle.board.specs.Piece.{number}
use Rattle.rules.specs.Legal.{source}
use Rattle.laws.specs.Position.{position_parts}
use Rattle.moves.specs.Action.{promotion_number}
use Rattle.moves.proofs.source.sources.Given as goal

abbrev pub invariant-loop-number : goal.invariant-loop-number
invariant-loop-number g l = record {
  setup : l.table.setup ≡ l.initial.table.setup;
  board : l.table.board.ghost_name ≡ l.initial.table.board.ghost_name;
  size : length l.found ≡ 64;
  found : (s : ℕ) → s < l.number → get_or l.found s false ≡ source (position_parts l.position) (number l.kind) l.to.number (promotion_number l.promotion) s;
}
