use Rattle.std.proofs.Common.{◌≡◌, set, sym, ◌∙◌, arith}
use Rattle.bitboard.specs.Codes.{codes_of, Apart}
use Rattle.bitboard.specs.CodeLaws.{codes_at, code_le}
use Rattle.bitboard.proofs.ChangeLaws.{written}
use Rattle.bitboard.proofs.Bitboard.write.Goals as goal
use Rattle.bitboard.proofs.Bitboard.write.Goals.{After-change-2}

pub change-requires-clause-small : goal.change-requires-clause-small
change-requires-clause-small c = let e = c.holder-former.ensures in let l = code_le c.args.self.now.words c.args.square.number in omega arith

both : (c : After-change-2) → Apart c.change-2.new.words × (codes_of c.change-2.new.words ≡ set (codes_of c.args.self.now.words) c.args.square.number c.args.code)
both c =
    let m = c.args.self.now in
    let square = c.args.square in
    written m.words c.change.new.words c.change-2.new.words square.number c.holder-former.result c.args.code square.on_board c.requires m.apart
    c.holder-former.ensures c.change.ensures.chosen c.change.ensures.others c.change-2.ensures.chosen c.change-2.ensures.others

pub invariant_of-self : goal.invariant_of-self
invariant_of-self c = record { apart = (both c).0 }

pub returns : goal.returns
returns c =
    record {
      former = c.holder-former.ensures ∙ sym (codes_at c.args.self.now.words c.args.square.number c.args.square.on_board);
      list = (both (goal.at.returns c).After-change-2).1;
    }
