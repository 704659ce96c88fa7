use Rattle.std.proofs.Common.{◌∙◌, arith}
use Rattle.notation.proofs.Laying.{rights_none, rights_some}
use Rattle.notation.proofs.fen.lay.rights.Goals as goal

pub returns-then-len-front-clause-items : goal.returns-then-len-front-clause-items
returns-then-len-front-clause-items c =
    c.push.ensures.items
    ∙ rights_none c.args.rights _ _ _ _ _ c.right.ensures.items c.right-2.ensures.items c.right-3.ensures.items c.right-4.ensures.items (omega arith)

pub returns-else-len-front-clause-items : goal.returns-else-len-front-clause-items
returns-else-len-front-clause-items c =
    rights_some c.args.rights _ _ _ _ _ c.right.ensures.items c.right-2.ensures.items c.right-3.ensures.items c.right-4.ensures.items (λ e. c.if-len-front.false (omega arith))
