use Rattle.std.proofs.Common.{◌≡◌, ℕ, ◌+◌, ◌<◌, set, refl, ap, ◌∙◌, arith, below_more, rules}
use Rattle.std.proofs.lemmas.List.{length-set, get_or-replicate}
use Rattle.mailbox.specs.Cells.{cell_of, at_square}
use Rattle.mailbox.specs.CellLists.{border_kept, at_same, at_other}
use Rattle.mailbox.proofs.SquareRuns.{Turn, turn}
use Rattle.mailbox.proofs.cleared.Goals as goal
use Rattle.mailbox.proofs.cleared.Goals.{After-next}

-- the squares come in the order of their numbers
next_one : (c : After-next) → Turn c.loop-square.square-iterator.iter c.next.result c.next.new.self.iter
next_one c =
    let steps = c.next.ensures.steps in
    turn (λ p x o q k. search rules) c.loop-square.square-iterator.iter c.next.new.self.iter _ _ steps.0 steps.1 c.next.result _ _ c.loop-square.invariant.end
    steps.3 steps.4 steps.5

pub loop-square-init : goal.loop-square-init
loop-square-init c =
    let is = ap (λ it. it.iter) c.into_iter-square-iterator.ensures.into_iter_gives ∙ c.filter_map-square-items.ensures.source in
    let start = ap (λ it. it.start) is in
    record {
      long = refl;
      border = λ k h e. get_or-replicate 120 k 255 0 h;
      zero = λ s h. absurd (omega arith);
      end = ap (λ it. it.end) is;
    }

pub loop-square-preserved : goal.loop-square-preserved
loop-square-preserved c =
    let square = c.in-Some.square in
    let s = square.number in
    let cells = c.loop-square.cells in
    let was = c.loop-square.invariant in
    let t = rw c.in-Some.is at (next_one (goal.at.loop-square-preserved c).After-next) in
    let now = set cells (cell_of s) 0 in
    let upto : (u : ℕ) → u < s + 1 → at_square now u ≡ 0 = below_more (λ u. at_square now u ≡ 0) s
    (λ u h. let l = square.on_board in at_other cells s 0 l u (omega arith) (omega arith) ∙ was.zero u (omega (arith, h, t.1.0)))
    (at_same cells s 0 square.on_board was.long) in
    rw c.cell.ensures.place
    record {
      long = length-set cells (cell_of s) 0 ∙ was.long;
      border = border_kept cells s 0 square.on_board was.border;
      zero = λ u h. upto u (omega (arith, h, t.1.0, t.1.1));
      end = t.0;
    }

pub returns-clause-zero : goal.returns-clause-zero
returns-clause-zero c s h =
    let t = rw c.in-None.is at (next_one (goal.at.returns-clause-zero c).After-next) in
    c.loop-square.invariant.zero s (omega (arith, t.1))
