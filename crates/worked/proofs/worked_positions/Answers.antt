use Rattle.std.proofs.Common.{refl}
use Rattle.worked.proofs.Opened.{all_open}
use Rattle.worked.proofs.worked_positions.Goals as goal

pub returns : goal.returns
unfolding all_open
returns c = record {
  twenty_moves_at_first = refl;
  en_passant_square_after_a_double_step = refl;
  a_pinned_piece_is_no_rival = refl;
  a_pinned_piece_does_not_move = refl;
  rivals_on_other_files = refl;
  rivals_on_other_files_too = refl;
  an_unmarked_text_matches_both = refl;
  marked_by_file = refl;
  marked_by_rank = refl;
  marked_by_both = refl;
  en_passant_that_exposes_the_king = refl;
  castling_where_only_the_rook_is_passed = refl;
  black_mates = refl;
}
