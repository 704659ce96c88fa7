use Rattle.std.proofs.Common.{sym, ◌∙◌, rules}
use Rattle.rays.proofs.LineLaws.{among_first, among_off}
use Rattle.rays.proofs.first_among.Goals as goal

pub returns-then-meet : goal.returns-then-meet
returns-then-meet c =
    among_first c.args.occupied c.args.direction c.args.square c.args.set c.is_some_and.result c.blocker.result _ c.blocker.ensures c.is_some_and.ensures
    (λ s k. search rules)

pub returns-else-meet : goal.returns-else-meet
returns-else-meet c =
    c.if-meet.false
    ∙ sym (among_off c.args.occupied c.args.direction c.args.square c.args.set c.ray.result c.ray.ensures (sym c.meet.ensures ∙ c.if-meet.false))
