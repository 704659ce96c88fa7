use Rattle.std.proofs.Common.{sym, ◌∙◌, inl, inr}
use Rattle.board.proofs.PutLaws.{put_done, put_refused}
use Rattle.bitboard.specs.Codes.{codes_of}
use Rattle.board.proofs.SquareLaws.{is_square, no_square}
use Rattle.bitboard.proofs.BitboardBoard.put.Goals as goal

pub returns-in-Some : goal.returns-in-Some
returns-in-Some c =
    let q = is_square c.args.square c.in-Some.square c.in-Some.ensures in
    let done = put_done (codes_of c.args.self.now.words) c.args.square c.args.code q.0 c.if-code-le12.true in
    record { answer = rw q.1 at c.write.ensures.former ∙ sym done.1; list = rw q.1 at c.write.ensures.list ∙ sym done.0 }

pub returns-in_default : goal.returns-in_default
returns-in_default c =
    let no = put_refused (codes_of c.args.self.now.words) c.args.square c.args.code (inr c.if-code-le12.false) in
    record { answer = sym no.1; list = sym no.0 }

pub returns-in_default-2 : goal.returns-in_default-2
returns-in_default-2 c =
    let no = put_refused (codes_of c.args.self.now.words) c.args.square c.args.code (inl (no_square c.args.square c.in_default.ensures)) in
    record { answer = sym no.1; list = sym no.0 }
