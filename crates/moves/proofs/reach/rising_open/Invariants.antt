use Rattle.std.proofs.Common.{◌≡◌, ℕ, ◌+◌, ◌*◌, ◌<◌, ◌≤◌, get_or}
use Rattle.moves.proofs.reach.rising_open.Given as goal

-- so many squares beyond the lower one are passed, all of them empty
abbrev pub invariant-loop-at : goal.invariant-loop-at
invariant-loop-at l =
    (k : ℕ) × (l.at ≡ l.fn.low.number + l.step * (k + 1)) × ((j : ℕ) → 0 < j → j ≤ k → get_or l.codes (l.fn.low.number + l.step * j) 0 ≡ 0)
