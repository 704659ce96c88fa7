use Rattle.std.proofs.Common.{refl, sym, ◌∙◌}
use Rattle.laws.specs.Position.{position_parts}
use Rattle.moves.proofs.TrialLaws.{all_below}
use Rattle.moves.proofs.PromotionLaws.{all_without}
use Rattle.moves.proofs.legal.numbers.Goals as goal

pub returns-then-may_promote-clause-all : goal.returns-then-may_promote-clause-all
returns-then-may_promote-clause-all c = all_below (position_parts c.args.position.now) 24576 refl

pub returns-else-may_promote-clause-all : goal.returns-else-may_promote-clause-all
returns-else-may_promote-clause-all c = all_without (position_parts c.args.position.now) c.args.position.now.ok (sym c.may_promote.ensures ∙ c.if-may_promote.false)
