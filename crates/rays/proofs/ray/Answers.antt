use Rattle.std.proofs.Common.{sym, refl, ◌∙◌, inl, inr, ⊎_elim, arith}
use Rattle.board.specs.Below.{all_below}
use Rattle.board.specs.Geometry.{direction, beyond}
use Rattle.rays.specs.Sets.{bit, has}
use Rattle.rays.proofs.SetLaws.{has_zero}
use Rattle.rays.proofs.TableLaws.{right_table, word_is}
use Rattle.rays.proofs.LineLaws.{lies_within, lies_nowhere}
use Rattle.rays.proofs.ray.Goals as goal

pub returns-then-direction-gt7 : goal.returns-then-direction-gt7
returns-then-direction-gt7 c s l = has_zero s ∙ sym (lies_nowhere _ _ s (⊎_elim inl (λ h. inr h.1) c.then-direction-gt7.either))

pub returns : goal.returns
unfolding right_table all_below has bit
returns c s l =
    word_is (λ d t u. beyond (direction d) t u) _ c.entry.result c.args.direction c.args.square c.entry.ensures 8 refl refl (omega arith) (omega arith) s l
    ∙ sym (lies_within c.args.direction c.args.square s (omega arith) (omega arith))
