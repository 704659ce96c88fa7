use Rattle.std.proofs.Common.{◌∙◌}
use Rattle.laws.specs.Setup.{parts}
use Rattle.moves.specs.Action.{plain}
use Rattle.moves.proofs.ChangeLaws.{changed_short, changed_long, changed_other}
use Rattle.moves.proofs.trial.changed.Goals as goal

pub returns-then-not-moves_rook_too : goal.returns-then-not-moves_rook_too
returns-then-not-moves_rook_too c =
    changed_other (parts c.args.setup.now) (plain c.args.m) _ _ c.number-from.ensures c.number-to.ensures _ c.moves_rook_too.ensures
    c.if-not-moves_rook_too.true _ _ c.other.ensures c.ahead-beside.ensures.square

pub returns-then-from-to : goal.returns-then-from-to
returns-then-from-to c =
    changed_short (parts c.args.setup.now) (plain c.args.m) _ _ c.number-from.ensures c.number-to.ensures _ c.moves_rook_too.ensures
    c.if-not-moves_rook_too.false c.if-from-to.true _ (c.number.ensures ∙ c.of-home.ensures.kingside_rook)

pub returns-else-from-to : goal.returns-else-from-to
returns-else-from-to c =
    changed_long (parts c.args.setup.now) (plain c.args.m) _ _ c.number-from.ensures c.number-to.ensures _ c.moves_rook_too.ensures
    c.if-not-moves_rook_too.false c.if-from-to.false _ _ (c.number-else-from-to.ensures ∙ c.of-home.ensures.queenside_rook) c.saturating_sub.ensures
