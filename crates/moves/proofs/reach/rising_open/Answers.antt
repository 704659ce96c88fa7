use Rattle.std.proofs.Common.{◌+◌, refl, arith}
use Rattle.moves.proofs.PathLaws.{walk_on, walk_emptied, walk_ended}
use Rattle.moves.proofs.reach.rising_open.Goals as goal

pub loop-at-preserved : goal.loop-at-preserved
loop-at-preserved c =
    let k = c.loop-at.invariant.0 in
    let e = c.loop-at.invariant.1 in
    (k + 1, walk_on _ _ _ k e, walk_emptied c.args.codes.now _ _ _ k e c.if-codes-at-ne0.false c.loop-at.invariant.2)

pub returns-else-codes-at-ne0 : goal.returns-else-codes-at-ne0
returns-else-codes-at-ne0 c = λ l on.
    let k = c.loop-at.invariant.0 in
    let e = c.loop-at.invariant.1 in (
      λ _. walk_ended c.args.codes.now _ _ _ _ _ c.requires c.args.high.on_board c.step_between-step.ensures.step (walk_on _ _ _ k e) l on (omega arith)
          (walk_emptied c.args.codes.now _ _ _ k e c.if-codes-at-ne0.false c.loop-at.invariant.2),
      λ _. refl,
    )

pub returns : goal.returns
returns c = λ l on. (
  λ _. walk_ended c.args.codes.now _ _ _ _ _ c.requires c.args.high.on_board c.step_between-step.ensures.step c.loop-at.invariant.1 l on (omega arith) c.loop-at.invariant.2,
  λ _. refl,
)
