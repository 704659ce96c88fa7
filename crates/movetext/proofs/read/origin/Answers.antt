use Rattle.moves.specs.Action.{promotion_number}
use Rattle.movetext.proofs.Reading.{origin_is}
use Rattle.movetext.proofs.read.origin.Goals as goal

pub returns : goal.returns
returns c =
    origin_is _ _ _ _ _ _ c.in_ok-kind.kind c.args.to.number (promotion_number c.args.promotion) c.without_last.ensures
    c.last_mark-rank.ensures.says c.last_mark-rank.ensures.rest c.last_mark-file.ensures.says c.last_mark-file.ensures.rest c.in_ok-kind.ensures
