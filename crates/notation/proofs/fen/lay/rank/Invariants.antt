use Rattle.notation.proofs.Laying.{LaidRank}
use Rattle.notation.proofs.fen.lay.rank.Given as goal

abbrev pub invariant-loop-code : goal.invariant-loop-code
invariant-loop-code l = LaidRank l.initial.text.items l.squares l.text.items l.empty l.code-index
