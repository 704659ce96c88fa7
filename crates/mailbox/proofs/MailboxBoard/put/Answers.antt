use Rattle.std.proofs.Common.{◌≡◌, length, sym, ◌∙◌, inl, inr, rules}
use Rattle.board.proofs.PutLaws.{put_done, put_refused}
use Rattle.mailbox.specs.Cells.{codes_of}
use Rattle.mailbox.specs.CellLists.{codes_at, codes_set, border_kept, coded_kept}
use Rattle.board.proofs.SquareLaws.{is_square, no_square}
use Rattle.mailbox.proofs.MailboxBoard.put.Goals as goal

pub returns-in-Some : goal.returns-in-Some
returns-in-Some c =
    let square = c.in-Some.square in
    let s = square.number in
    let cells = c.args.self.now.cells in
    let len : length cells ≡ 120 = search rules in
    let q = is_square c.args.square square c.in-Some.ensures in
    let done = put_done (codes_of cells) s c.args.code square.on_board c.if-code-le12.true in
    rw (c.cell-at.ensures.place, sym q.1)
    record {
      answer = sym (done.1 ∙ codes_at cells s square.on_board);
      list = codes_set cells s c.args.code square.on_board len ∙ sym done.0;
    }

pub returns-in_default : goal.returns-in_default
returns-in_default c =
    let no = put_refused (codes_of c.args.self.now.cells) c.args.square c.args.code (inr c.if-code-le12.false) in
    record { answer = sym no.1; list = sym no.0 }

pub returns-in_default-2 : goal.returns-in_default-2
returns-in_default-2 c =
    let no = put_refused (codes_of c.args.self.now.cells) c.args.square c.args.code (inl (no_square c.args.square c.in_default.ensures)) in
    record { answer = sym no.1; list = sym no.0 }

pub invariant_of-self : goal.invariant_of-self
invariant_of-self c =
    let square = c.in-Some.square in
    let m = c.args.self.now in
    let len : length m.cells ≡ 120 = search rules in
    rw c.cell-at.ensures.place
    record {
      border = border_kept m.cells square.number c.args.code square.on_board m.border;
      coded = coded_kept m.cells square.number c.args.code square.on_board len c.if-code-le12.true m.coded;
    }
