use Rattle.std.proofs.Common.{sym, ◌∙◌, arith}
use Rattle.std.proofs.lemmas.Grind.{common_steps}
use Rattle.notation.proofs.RankSteps.{filled_none, filled_all, filled_end, filled_other, filled_twice, filled_gap, filled_piece}
use Rattle.notation.proofs.fen.placement.rank.Goals as goal

pub loop-file-init : goal.loop-file-init
loop-file-init c = filled_none c.args.text.now

pub returns-in_err-byte : goal.returns-in_err-byte
returns-in_err-byte c = let r = c.from_residual.ensures in rw r (filled_end c.loop-file.invariant c.loop-file-test.true c.in_err-byte.ensures.cases)

pub returns-then-after_gap : goal.returns-then-after_gap
returns-then-after_gap c =
    filled_twice c.loop-file.invariant c.loop-file-test.true _ _ c.in_ok-byte.ensures.cases.0 (sym c.is_gap-gap.ensures ∙ c.if-gap.true) c.if-after_gap.true

pub returns-in_err-codes : goal.returns-in_err-codes
returns-in_err-codes c =
    let r = c.from_residual-in_err-codes.ensures in
    rw r (filled_other c.loop-file.invariant c.loop-file-test.true _ _ c.in_ok-byte.ensures.cases.0 (sym c.is_gap-gap.ensures ∙ c.if-gap.false) (sym c.in_err-codes.ensures))

pub loop-file-preserved-else-after_gap : goal.loop-file-preserved-else-after_gap
loop-file-preserved-else-after_gap c =
    simp (c.from.ensures, c.if-gap.true)
    (filled_gap c.loop-file.invariant c.loop-file-test.true _ _ c.in_ok-byte.ensures.cases.0 (sym c.is_gap-gap.ensures ∙ c.if-gap.true) c.if-after_gap.false)

pub loop-file-preserved : goal.loop-file-preserved
loop-file-preserved c =
    simp c.if-gap.false
    (filled_piece c.loop-file.invariant c.loop-file-test.true _ _ c.in_ok-byte.ensures.cases.0 _ (sym c.is_gap-gap.ensures ∙ c.if-gap.false) (sym c.in_ok-codes.ensures))

pub returns : goal.returns
returns c =
    let whole = filled_all c.loop-file.invariant in
    let wide = c.loop-file.invariant.wide in
    let past = c.loop-file-test.false in
    let some = c.then_some.ensures in
    grind (arith, common_steps)
