use Rattle.std.proofs.Common.{sym, ◌∙◌, arith}
use Rattle.mailbox.specs.CellFacts.{cell_low, cell_high}
use Rattle.mailbox.proofs.Lines.{start, walk_more, walk_first, walk_end}
use Rattle.mailbox.proofs.Walk.{steps_le}
use Rattle.mailbox.proofs.Mailbox.line.Goals as goal

pub loop-init : goal.loop-init
loop-init c = start _ _ _ _ c.args.square.on_board c.cell-at.ensures.place

pub overflow_add-at : goal.overflow_add-at
overflow_add-at c =
    let h = cell_high _ c.loop.invariant.on in
    let s = steps_le c.args.direction c.requires in
    let i = c.loop.invariant.here in
    record { fits = omega arith }

pub overflow_sub-at : goal.overflow_sub-at
overflow_sub-at c =
    let h = cell_low c.loop.invariant.square in
    let i = c.loop.invariant.here in
    omega arith

pub bounds-self-at : goal.bounds-self-at
bounds-self-at c =
    let h = cell_high _ c.loop.invariant.on in
    let s = steps_le c.args.direction c.requires in
    let i = c.loop.invariant.here in
    omega arith

pub returns-then-found-ne0 : goal.returns-then-found-ne0
returns-then-found-ne0 c =
    let m = c.args.self.now in
    let w = c.loop.invariant in
    c.line_piece.ensures ∙ walk_first c.args.by m.cells m.border _ _ _ _ c.requires w _ c.from-step.ensures c.if-found-ne0.true

pub loop-preserved : goal.loop-preserved
loop-preserved c =
    let m = c.args.self.now in
    let w = c.loop.invariant in
    walk_more c.args.by m.cells m.border _ _ _ _ c.requires w _ c.from-step.ensures c.if-found-ne0.false

pub returns : goal.returns
returns c =
    let m = c.args.self.now in
    let w = c.loop.invariant in
    sym (walk_end c.args.by m.cells m.border _ _ c.loop.counter _ c.requires w (omega arith))
