use Rattle.std.proofs.Common.{◌≡◌, ℕ, ◌<◌, false, length, get_or}
use Rattle.laws.specs.Position.{position_parts}
use Rattle.moves.specs.Action.{plain}
use Rattle.san.specs.Said.{rival_on}
use Rattle.movetext.proofs.write.rivals.Given as goal

abbrev pub invariant-loop-number : goal.invariant-loop-number
invariant-loop-number g l = record {
  list : g.B.Board.codes l.board ≡ l.position.setup.codes;
  size : length l.found ≡ 64;
  found : (s : ℕ) → s < l.number → get_or l.found s false ≡ rival_on (position_parts l.position) (plain l.m) s;
}
