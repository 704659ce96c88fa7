use Rattle.std.proofs.Common.{◌≡◌, ◌++◌, map, drop, vec_items}
use Rattle.laws.specs.Position.{position_parts}
use Rattle.moves.specs.Action.{plain}
use Rattle.san.specs.Written.{san}
use Rattle.drawing.specs.Drawing.{spaced}
use Rattle.drawing.proofs.play.add_spaced.Given as goal

abbrev pub invariant-loop-m : goal.invariant-loop-m
invariant-loop-m g l =
    vec_items l.out ++ spaced (map (λ m. san (position_parts l.position) (plain m)) (drop l.m-index l.moves))
    ≡ vec_items l.initial.out ++ spaced (map (λ m. san (position_parts l.position) (plain m)) l.moves)
