use Rattle.std.proofs.Common.{◌≡◌, ℕ, ◌-◌, ◌<◌, ◌≤◌, false, get_or}
use Rattle.board.specs.Attack.{attacks}
use Rattle.board.proofs.check.in_check.Given as goal

abbrev pub invariant-loop-square : goal.invariant-loop-square
invariant-loop-square g l =
    (l.from ≤ 64)
    × ((k : ℕ) → k < l.from → get_or (g.B.Board.codes l.board) k 0 ≡ l.king → attacks l.enemy (g.B.Board.codes l.board) k ≡ false)

abbrev pub decreases-loop-square : goal.decreases-loop-square
decreases-loop-square g l = 64 - l.from
