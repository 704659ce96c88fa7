use Rattle.std.proofs.Common.{◌≡◌, ◌-◌, ◌++◌, vec_items}
use Rattle.drawing.specs.Drawing.{ranks_drawn}
use Rattle.drawing.proofs.draw.ranks.Given as goal

abbrev pub invariant-loop-index : goal.invariant-loop-index
invariant-loop-index l = vec_items l.out ≡ vec_items l.initial.out ++ ranks_drawn l.codes (8 - l.index)
