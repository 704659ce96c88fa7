use Rattle.std.proofs.Common.{◌≡◌, ◌++◌, length}
use Rattle.game.specs.Words.{spaced, words, kept}
use Rattle.sheet.proofs.word.keep.Given as goal

abbrev pub invariant-loop-word : goal.invariant-loop-word
invariant-loop-word l = l.store.items ++ spaced (words l.rest) ≡ l.fn.store.items ++ kept l.text

abbrev pub decreases-loop-word : goal.decreases-loop-word
decreases-loop-word l = length l.rest
