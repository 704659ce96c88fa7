use Rattle.std.proofs.Common.{◌&&◌, sym, refl, ap, ◌∙◌, arith}
use Rattle.std.proofs.lemmas.Bool.{and_left, lt-ltb, le-ltb}
use Rattle.board.specs.Below.{all_below}
use Rattle.board.specs.Geometry.{knight_step, king_step}
use Rattle.board.specs.Attack.{pawn_attack}
use Rattle.rays.specs.Sets.{bit, has}
use Rattle.rays.specs.Lines.{leap}
use Rattle.rays.proofs.SetLaws.{has_zero}
use Rattle.rays.proofs.TableLaws.{right_table, word_is}
use Rattle.rays.proofs.leaps.Goals as goal

pub returns-then-square-gt63 : goal.returns-then-square-gt63
returns-then-square-gt63 c s l = has_zero s ∙ sym (and_left _ (leap c.args.row c.args.square s) (le-ltb c.args.square 64 (omega arith)))

pub returns : goal.returns
unfolding right_table all_below has bit pawn_attack knight_step king_step
returns c s l =
    word_is leap _ c.entry.result c.args.row c.args.square c.entry.ensures 4 refl refl c.requires (omega arith) s l
    ∙ sym (ap (λ b. b && leap c.args.row c.args.square s) (lt-ltb c.args.square 64 (omega arith)))
