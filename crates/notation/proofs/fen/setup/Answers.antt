use Rattle.std.proofs.Common.{rules}
use Rattle.notation.specs.Fen.{fen_parts}
use Rattle.notation.proofs.Readers.{read_as_behind, at_end_by_length}
use Rattle.notation.proofs.fen.setup.Goals as goal

pub returns-in_err-codes : goal.returns-in_err-codes
unfolding fen_parts
returns-in_err-codes c = search rules

pub returns-in_err-side : goal.returns-in_err-side
unfolding fen_parts
returns-in_err-side c = search rules

pub returns-in_err-rights : goal.returns-in_err-rights
unfolding fen_parts
returns-in_err-rights c = search rules

pub returns-in_err-en_passant : goal.returns-in_err-en_passant
unfolding fen_parts
returns-in_err-en_passant c = search (rules, read_as_behind)

pub returns-in_err-clock : goal.returns-in_err-clock
unfolding fen_parts
returns-in_err-clock c = search (rules, read_as_behind)

pub returns-in_err-number : goal.returns-in_err-number
unfolding fen_parts
returns-in_err-number c = search (rules, read_as_behind)

pub returns : goal.returns
unfolding fen_parts
returns c = search (rules, read_as_behind, at_end_by_length)
