use Rattle.std.proofs.Common.{rules}
use Rattle.notation.specs.Fields.{read_rights}
use Rattle.notation.proofs.fen.fields.rights.Goals as goal

pub returns-in_err-past : goal.returns-in_err-past
unfolding read_rights
returns-in_err-past c = search rules

pub returns-in_ok-past : goal.returns-in_ok-past
unfolding read_rights
returns-in_ok-past c = search rules

pub returns-else-none : goal.returns-else-none
unfolding read_rights
returns-else-none c = search rules
