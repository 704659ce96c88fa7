-- Worked positions: what each shows is its field's name.
use Rattle.std.specs.Prelude.{◌≡◌, true, [], ◌∷◌, length, Some, Ok, Err, codes as bytes}
use Rattle.std.specs.Option.{option_map}
use Rattle.faults.specs.declared.LawsFault.TheVariants.{NoMatch, SeveralMatch}
use Rattle.rules.specs.Parts.{Parts, initial_parts}
use Rattle.rules.specs.After.{after}
use Rattle.rules.specs.Legal.{legal_moves, checkmate}
use Rattle.notation.specs.Fen.{fen}
use Rattle.san.specs.Written.{san}
use Rattle.san.specs.Text.{move_answer}
use Rattle.worked.specs.Examples.{position, move, played}

-- the knight on c3 is pinned; without the bishop it is not
abbrev pub pinned_knight : Parts
pinned_knight = position "4k3/8/8/8/1b6/2N5/8/4K1N1 w - - 0 1"

abbrev pub free_knight : Parts
free_knight = position "4k3/8/8/8/8/2N5/8/4K1N1 w - - 0 1"

-- three queens that reach e1
abbrev pub three_queens : Parts
three_queens = position "8/k7/8/8/4Q2Q/8/8/K6Q w - - 0 1"

-- to take en passant would open the rank to the king
abbrev pub pinned_en_passant : Parts
pinned_en_passant = position "8/8/8/KPp4r/8/8/8/4k3 w - c6 0 2"

-- only the rook crosses the attacked square b1
abbrev pub attacked_rook_way : Parts
attacked_rook_way = position "1r2k3/8/8/8/8/8/8/R3K3 w Q - 0 1"

pub record WorkedPositions : Type 0 where
  pub twenty_moves_at_first : length (legal_moves initial_parts) ≡ 20
  pub en_passant_square_after_a_double_step :
      fen (after initial_parts (move 12 28)) ≡ bytes "rnbqkbnr/pppppppp/8/8/4P3/8/PPPP1PPP/RNBQKBNR b KQkq e3 0 1"
  pub a_pinned_piece_is_no_rival : san pinned_knight (move 6 12) ≡ bytes "Ne2"
  pub a_pinned_piece_does_not_move : move_answer pinned_knight (bytes "Nce2") ≡ Err NoMatch
  pub rivals_on_other_files : san free_knight (move 18 12) ≡ bytes "Nce2"
  pub rivals_on_other_files_too : san free_knight (move 6 12) ≡ bytes "Nge2"
  pub an_unmarked_text_matches_both : move_answer free_knight (bytes "Ne2") ≡ Err SeveralMatch
  pub marked_by_file : san three_queens (move 28 4) ≡ bytes "Qee1"
  pub marked_by_rank : san three_queens (move 7 4) ≡ bytes "Q1e1"
  pub marked_by_both : san three_queens (move 31 4) ≡ bytes "Qh4e1"
  pub en_passant_that_exposes_the_king : move_answer pinned_en_passant (bytes "bxc6") ≡ Err NoMatch
  pub castling_where_only_the_rook_is_passed : move_answer attacked_rook_way (bytes "O-O-O") ≡ Ok (move 4 2)
  pub black_mates : option_map checkmate (played initial_parts ("f3" ∷ "e5" ∷ "g4" ∷ "Qh4#" ∷ [])) ≡ Some true
