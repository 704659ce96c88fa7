use Rattle.std.proofs.Common.{get_or, ap, ◌∙◌, arith}
use Rattle.board.specs.Meaning.{put_list}
use Rattle.moves.proofs.ChangeLaws.{put_turn, put_end}
use Rattle.moves.proofs.trial.redraw.Goals as goal

pub loop-square-preserved : goal.loop-square-preserved
loop-square-preserved g c =
    put_turn c.args.squares.now (g.B.Board.codes c.loop-square.board) _ c.args.picture.now c.loop-square.square-index (omega arith)
    (g.met.B.Board.size c.loop-square.board) c.requires.shown
    (c.put.ensures.list ∙ ap (put_list (g.B.Board.codes c.loop-square.board) _) (c.code_on.ensures ∙ ap (λ k. get_or c.args.picture.now k 0) c.from.ensures)) c.loop-square.invariant

pub returns : goal.returns
returns g c =
    put_end c.args.squares.now (g.B.Board.codes c.loop-square.board) c.args.picture.now c.loop-square.square-index (omega arith)
    (g.met.B.Board.size c.loop-square.board) c.requires.shown c.loop-square.invariant
