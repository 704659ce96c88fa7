-- How many legal moves well-known positions have: published counts of leaves at depth 1.
use Rattle.std.specs.Prelude.{◌≡◌, length}
use Rattle.rules.specs.Legal.{legal_moves}
use Rattle.worked.specs.Examples.{position}

pub record MoveCounts : Type 0 where
  pub the_initial_position : length (legal_moves (position "rnbqkbnr/pppppppp/8/8/8/8/PPPPPPPP/RNBQKBNR w KQkq - 0 1")) ≡ 20
  pub both_sides_may_castle : length (legal_moves (position "r3k2r/p1ppqpb1/bn2pnp1/3PN3/1p2P3/2N2Q1p/PPPBBPPP/R3K2R w KQkq - 0 1")) ≡ 48
  pub pins_along_the_rank : length (legal_moves (position "8/2p5/3p4/KP5r/1R3p1k/8/4P1P1/8 w - - 0 1")) ≡ 14
  pub in_check_with_promotions_near : length (legal_moves (position "r3k2r/Pppp1ppp/1b3nbN/nP6/BBP1P3/q4N2/Pp1P2PP/R2Q1RK1 w kq - 0 1")) ≡ 6
  pub the_same_mirrored : length (legal_moves (position "r2q1rk1/pP1p2pp/Q4n2/bbp1p3/Np6/1B3NBn/pPPP1PPP/R3K2R b KQ - 0 1")) ≡ 6
  pub a_pawn_about_to_promote : length (legal_moves (position "rnbq1k1r/pp1Pbppp/2p5/8/2B5/8/PPP1NnPP/RNBQK2R w KQ - 1 8")) ≡ 44
  pub a_quiet_middle_game : length (legal_moves (position "r4rk1/1pp1qppp/p1np1n2/2b1p1B1/2B1P1b1/P1NP1N2/1PP1QPPP/R4RK1 w - - 0 10")) ≡ 46
