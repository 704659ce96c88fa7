use Rattle.std.proofs.Common.{rules, sym, ◌∙◌}
use Rattle.std.proofs.lemmas.Iterator.{YieldsList-from_slice}
use Rattle.std.proofs.lemmas.Iterator.Search.{position_from_yields_List}
use Rattle.drawing.proofs.Lines.{ends_line, line_found, line_not_found}
use Rattle.drawing.proofs.first_line.Goals as goal

pub returns-in-Some : goal.returns-in-Some
returns-in-Some c =
    let p = position_from_yields_List ends_line _ _ c.position.result c.position.ensures.ran (YieldsList-from_slice c.args.input.now cc) (λ x b q k. search rules) in
    let found = line_found c.args.input.now c.in-Some.at (sym c.in-Some.is ∙ p) in
    record { line = found.0; behind = found.1 }

pub returns-in-None : goal.returns-in-None
returns-in-None c =
    let p = position_from_yields_List ends_line _ _ c.position.result c.position.ensures.ran (YieldsList-from_slice c.args.input.now cc) (λ x b q k. search rules) in
    let found = line_not_found c.args.input.now (sym c.in-None.is ∙ p) in
    record { line = found.0; behind = found.1 }
