use Rattle.std.proofs.Common.{◌&&◌, ap, ◌∙◌}
use Rattle.rays.specs.Sets.{has}
use Rattle.rays.proofs.SetLaws.{has_and}
use Rattle.rays.proofs.LineLaws.{lowest_first, highest_first}
use Rattle.rays.proofs.blocker.Goals as goal

pub returns-then-direction-lt4 : goal.returns-then-direction-lt4
returns-then-direction-lt4 c =
    let occupied = c.args.occupied in
    c.lowest.ensures
    ∙ lowest_first occupied c.args.direction c.args.square _
    (λ s l. has_and c.ray.result occupied s ∙ ap (λ b. b && has occupied s) (c.ray.ensures s l)) c.if-direction-lt4.true

pub returns-else-direction-lt4 : goal.returns-else-direction-lt4
returns-else-direction-lt4 c =
    let occupied = c.args.occupied in
    c.highest.ensures
    ∙ highest_first occupied c.args.direction c.args.square _
    (λ s l. has_and c.ray.result occupied s ∙ ap (λ b. b && has occupied s) (c.ray.ensures s l)) c.if-direction-lt4.false
