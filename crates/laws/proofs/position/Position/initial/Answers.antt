use Rattle.std.proofs.Common.{refl}
use Rattle.rules.specs.Opened.{rules_open}
use Rattle.laws.proofs.position.Position.initial.Goals as goal

pub invariant_of-result : goal.invariant_of-result
unfolding rules_open
invariant_of-result c = record { ok = refl }
