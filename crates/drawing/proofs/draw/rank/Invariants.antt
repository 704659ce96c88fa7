use Rattle.std.proofs.Common.{◌≡◌, ◌++◌, vec_items}
use Rattle.drawing.specs.Drawing.{squares_drawn}
use Rattle.drawing.proofs.draw.rank.Given as goal

abbrev pub invariant-loop-code : goal.invariant-loop-code
invariant-loop-code l = vec_items l.out ≡ vec_items l.initial.out ++ squares_drawn l.codes l.rank l.code-index
