use Rattle.std.proofs.Common.{refl}
use Rattle.worked.proofs.Opened.{all_open}
use Rattle.worked.proofs.move_counts.Goals as goal

pub returns : goal.returns
unfolding all_open
returns c = record {
  the_initial_position = refl;
  both_sides_may_castle = refl;
  pins_along_the_rank = refl;
  in_check_with_promotions_near = refl;
  the_same_mirrored = refl;
  a_pawn_about_to_promote = refl;
  a_quiet_middle_game = refl;
}
