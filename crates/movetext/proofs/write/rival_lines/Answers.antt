use Rattle.std.proofs.Common.{false, eqb, get_or, refl, rules}
use borrow.Author.Tests.{tests}
use Rattle.board.specs.Below.{◌and_then◌}
use Rattle.board.specs.Geometry.{file, rank}
use Rattle.board.proofs.ChainLaws.{some_from_any}
use Rattle.laws.specs.Position.{position_parts}
use Rattle.moves.specs.Action.{plain}
use Rattle.movetext.proofs.Writing.{rival_any, rival_file, rival_rank}
use Rattle.movetext.proofs.write.rival_lines.Goals as goal

pub returns : goal.returns
returns g c =
    let p = position_parts c.args.position.now in
    let m = plain c.args.m in
    let found = c.rivals-rivals.result in
    let e = c.rivals-rivals.ensures.answer in
    record {
      any = rival_any p m found e _ (some_from_any _ (λ s. get_or found s false) 64 _ _ c.any-any.result refl c.any-any.ensures.ran (λ x b q k. search (rules, tests)));
      file = rival_file p m found e _ (some_from_any _ (λ s. eqb (file s) (file m.from) and_then get_or found s false) 64 _ _ c.any-on_file.result refl c.any-on_file.ensures.ran (λ x b q k. search (rules, tests)));
      rank = rival_rank p m found e _ (some_from_any _ (λ s. eqb (rank s) (rank m.from) and_then get_or found s false) 64 _ _ c.any-on_rank.result refl c.any-on_rank.ensures.ran (λ x b q k. search (rules, tests)));
      list = c.rivals-rivals.ensures.list;
    }
