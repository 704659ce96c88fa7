use Rattle.std.proofs.Common.{◌≡◌, ℕ, ◌<◌, length}
use Rattle.mailbox.specs.Cells.{Bordered, at_square}
use Rattle.mailbox.proofs.cleared.Given as goal

abbrev pub invariant-loop-square : goal.invariant-loop-square
invariant-loop-square l =
    record {
      long : length l.cells ≡ 120;
      border : Bordered l.cells;
      zero : (s : ℕ) → s < l.square-iterator.iter.start → at_square l.cells s ≡ 0;
      end : l.square-iterator.iter.end ≡ 64;
    }
