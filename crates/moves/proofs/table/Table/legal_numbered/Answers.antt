use Rattle.std.proofs.Common.{ap, ◌∙◌}
use Rattle.std.specs.Option.{option_map}
use Rattle.laws.specs.Setup.{parts}
use Rattle.moves.specs.Action.{plain}
use Rattle.moves.proofs.TrialLaws.{none_numbered}
use Rattle.moves.proofs.table.Table.legal_numbered.Goals as goal

pub returns-in_err-m-clause-answer : goal.returns-in_err-m-clause-answer
returns-in_err-m-clause-answer g c =
    ap (option_map plain) c.from_residual.ensures ∙ none_numbered (parts c.args.self.now.setup.now) c.args.number c.requires c.in_err-m.ensures
