use Rattle.std.proofs.Common.{ap, get_or, sym, ◌∙◌, arith}
use Rattle.std.proofs.lemmas.Bool.{eqb-false}
use Rattle.laws.specs.Setup.{parts}
use Rattle.moves.proofs.TrialLaws.{not_own, not_pawn, not_last}
use Rattle.moves.proofs.trial.worth_trying.Goals as goal

pub returns-then-not-is_own : goal.returns-then-not-is_own
returns-then-not-is_own c = λ _. not_own (parts c.args.setup.now) c.args.number _ (c.code_on-found.ensures ∙ ap (λ k. get_or c.args.setup.now.codes k 0) c.from.ensures) (sym c.if-not-is_own.ensures)

pub returns-then-found-code : goal.returns-then-found-code
returns-then-found-code c = λ _.
    not_pawn (parts c.args.setup.now) c.args.number _ (c.code_on-found.ensures ∙ ap (λ k. get_or c.args.setup.now.codes k 0) c.from.ensures) (omega arith) (λ e. c.if-found-code.true (e ∙ sym c.code.ensures))

pub returns : goal.returns
returns c = λ e. not_last (parts c.args.setup.now) c.args.number _ (c.code_on-found.ensures ∙ ap (λ k. get_or c.args.setup.now.codes k 0) c.from.ensures) (omega arith) (λ q. eqb-false _ _ e (q ∙ sym c.of.ensures.last_rank))
