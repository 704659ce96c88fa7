use Rattle.std.proofs.Common.{refl}
use Rattle.laws.specs.Position.{position_parts}
use Rattle.moves.specs.Action.{plain}
use Rattle.san.specs.Written.{san}
use Rattle.drawing.proofs.Spaces.{spaced_more, spaced_all}
use Rattle.drawing.proofs.play.add_spaced.Goals as goal

pub loop-m-init : goal.loop-m-init
loop-m-init g c = refl

pub loop-m-preserved : goal.loop-m-preserved
loop-m-preserved g c =
    spaced_more (λ m. san (position_parts c.args.position.now) (plain m)) c.args.moves.now c.loop-m.m-index c.m-item.result _ _ _ _ c.loop-m-test.true c.m-item.is
    c.loop-m.invariant c.in_ok-push.ensures.items c.in_ok-add_san.ensures

pub returns : goal.returns
returns g c = spaced_all (λ m. san (position_parts c.args.position.now) (plain m)) c.args.moves.now c.loop-m.m-index _ _ c.loop-m-test.false c.loop-m.invariant
