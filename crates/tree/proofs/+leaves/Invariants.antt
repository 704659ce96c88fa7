use Rattle.std.proofs.Common.{◌≡◌, ◌-◌, ◌^◌, min, take, sum_by}
use Rattle.laws.specs.Position.{position_parts}
use Rattle.tree.proofs.Sums.{leaves_by}
use Rattle.tree.proofs.+leaves.Given as goal

abbrev pub decreases-leaves : goal.decreases-leaves
decreases-leaves g l = l.depth

abbrev pub invariant-loop-m : goal.invariant-loop-m
invariant-loop-m g l = l.total ≡ min (sum_by (leaves_by (position_parts l.position) (l.depth - 1)) (take l.m-index l.m-items)) (2 ^ 64 - 1)
