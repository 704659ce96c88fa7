-- For proofs by computing: opens every definition of the laws and of the board below.
use Rattle.std.specs.Prelude.{ℕ}
use Rattle.board.specs.Below.{some_below, all_below, least_below}
use Rattle.board.specs.Geometry.{knight_step, king_step}
use Rattle.board.specs.Attack.{pawn_attack, slides, clear_between, attacks_along, attacks_from, attacks, in_check}
use Rattle.rules.specs.After.{moved, rook_moved, codes_after, after}
use Rattle.rules.specs.Legal.{pawn_advance, pawn_capture, castles_kingside, castles_queenside, castles, goes, legal, keep, legal_moves, can_move, checkmate, stalemate}
use Rattle.rules.specs.Lawful.{is_board, count, one_king_each, edges_free, rights_stand, en_passant_stands, counters_stand, broken, lawful}

unfoldable pub rules_open : ℕ
unfolding some_below all_below least_below knight_step king_step pawn_attack slides clear_between attacks_along attacks_from attacks in_check is_board count one_king_each edges_free rights_stand en_passant_stands counters_stand broken lawful moved rook_moved codes_after after pawn_advance pawn_capture castles_kingside castles_queenside castles goes legal keep legal_moves can_move checkmate stalemate
rules_open = 0
