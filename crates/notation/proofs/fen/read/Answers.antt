use Rattle.std.proofs.Common.{◌≡◌, true, false, cond, Ok, Err, sym, ap, ◌∙◌, arith}
use Rattle.std.proofs.lemmas.Result.{err_from_is_err_and}
use Rattle.std.proofs.lemmas.Bool.Decides.{nat_tests}
use Rattle.faults.specs.declared.SheetFault.TheVariants.{Counters}
use Rattle.laws.specs.Position.{position_parts}
use Rattle.laws.specs.Setup.{parts}
use Rattle.notation.specs.Answers.{start_parts, start_counters}
use Rattle.notation.proofs.FenLaws.{only_fen}
use Rattle.notation.proofs.StartLaws.{start_none, start_broken, start_made, counters_low}
use Rattle.notation.proofs.fen.read.Goals as goal

pub returns-in_err-setup-clause-answer : goal.returns-in_err-setup-clause-answer
returns-in_err-setup-clause-answer g c =
    let p = err_from_is_err_and c.from_residual.result c.from_residual.ensures.1 in
    ap start_parts p.1 ∙ ap (λ x. Err x) p.2 ∙ sym (start_none c.args.text.now c.in_err-setup.field-0.0 c.in_err-setup.ensures.value)

pub returns-in_err-position-clause-answer : goal.returns-in_err-position-clause-answer
returns-in_err-position-clause-answer g c =
    let p = err_from_is_err_and c.from_residual-in_err-position.result c.from_residual-in_err-position.ensures.1 in
    ap start_parts p.1 ∙ ap (λ x. Err x) p.2
    ∙ sym (start_broken c.args.text.now (parts c.in_ok-setup.setup) c.in_err-position.field-0.0 c.in_ok-setup.ensures.value c.in_err-position.ensures.answer)

pub returns-then-setup-gt999-clause-answer : goal.returns-then-setup-gt999-clause-answer
returns-then-setup-gt999-clause-answer g c =
    let s = start_made c.args.text.now (parts c.in_ok-setup.setup) (position_parts c.in_ok-position.position) c.in_ok-setup.ensures.value c.in_ok-position.ensures.answer in
    let t : start_counters c.in_ok-setup.setup.clock c.in_ok-setup.setup.number ≡ false = grind (arith, nat_tests, c.then-setup-gt999.branch) in
    sym (s.answer ∙ ap (λ x. cond x (Ok (position_parts c.in_ok-position.position)) (Err Counters)) t)

pub returns-clause-answer : goal.returns-clause-answer
returns-clause-answer g c =
    let s = start_made c.args.text.now (parts c.in_ok-setup.setup) (position_parts c.in_ok-position.position) c.in_ok-setup.ensures.value c.in_ok-position.ensures.answer in
    let t : start_counters c.in_ok-setup.setup.clock c.in_ok-setup.setup.number ≡ true = grind (arith, nat_tests, c.contains.ensures.cases) in
    sym (s.answer ∙ ap (λ x. cond x (Ok (position_parts c.in_ok-position.position)) (Err Counters)) t)

pub returns-clause-exact : goal.returns-clause-exact
returns-clause-exact g c =
    let s = start_made c.args.text.now (parts c.in_ok-setup.setup) (position_parts c.in_ok-position.position) c.in_ok-setup.ensures.value c.in_ok-position.ensures.answer in
    let t : start_counters c.in_ok-setup.setup.clock c.in_ok-setup.setup.number ≡ true = grind (arith, nat_tests, c.contains.ensures.cases) in
    let low = counters_low c.in_ok-setup.setup.clock c.in_ok-setup.setup.number t in
    let clock = ap (λ x. x.clock) s.same in
    let number = ap (λ x. x.number) s.same in
    only_fen c.args.text.now (position_parts c.in_ok-position.position) s.read (omega arith) (omega arith)
