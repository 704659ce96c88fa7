use Rattle.std.proofs.Common.{◌≡◌, ◌+◌, ◌*◌, ◌≤◌, length}
use Rattle.game.specs.Words.{spaced, words, kept}
use Rattle.sheet.proofs.word.kept_len.Given as goal

abbrev pub invariant-loop-word : goal.invariant-loop-word
invariant-loop-word l = record {
  all : l.len + length (spaced (words l.rest)) ≡ length (kept l.text);
  few : l.len + 2 * length l.rest ≤ 2 * length l.text;
}

abbrev pub decreases-loop-word : goal.decreases-loop-word
decreases-loop-word l = length l.rest
