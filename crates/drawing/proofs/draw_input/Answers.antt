use Rattle.std.proofs.Common.{vec_items, arith}
use Rattle.drawing.proofs.Lines.{goes_on, all_drawn}
use Rattle.drawing.proofs.draw_input.Goals as goal

pub loop-rest-preserved : goal.loop-rest-preserved
loop-rest-preserved g c =
    goes_on c.args.input.now (vec_items c.loop-rest.out) (vec_items c.draw_line.new.out) c.loop-rest.rest.now c.first_line.result.0.now c.first_line.result.1.now
    c.loop-rest.line c.loop-rest.invariant (grind arith) c.first_line.ensures.line c.first_line.ensures.behind c.in_ok-draw_line.ensures

pub returns : goal.returns
returns g c = all_drawn c.args.input.now (vec_items c.loop-rest.out) c.loop-rest.rest.now c.loop-rest.line c.loop-rest.invariant (grind arith)
