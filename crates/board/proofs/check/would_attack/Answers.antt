use Rattle.board.proofs.PutLaws.{put_back}
use Rattle.board.proofs.check.would_attack.Goals as goal

pub returns : goal.returns
returns g c =
    let b = put_back (g.B.Board.codes c.args.board.now) c.args.on c.args.code (g.met.B.Board.small c.args.board.now) in
    record { answer = cc; list = cc }
