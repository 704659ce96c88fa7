use Rattle.std.proofs.Common.{length, sym, ap, ◌∙◌, arith}
use Rattle.std.proofs.lemmas.List.{length-take, length-drop}
use Rattle.notation.specs.Reader.{past}
use Rattle.notation.proofs.RankLaws.{rank_only}
use Rattle.notation.proofs.RankSteps.{ranked_none, ranked_all, ranked_broken, ranked_unended, ranked_more}
use Rattle.notation.proofs.fen.placement.placement.Goals as goal

pub loop-row-init : goal.loop-row-init
loop-row-init c = ranked_none c.args.text.now

pub returns-in_err-squares : goal.returns-in_err-squares
returns-in_err-squares c = let r = c.from_residual.ensures in rw r (ranked_broken c.loop-row.invariant (omega arith) c.in_err-squares.ensures)

pub copy_from_slice-requires : goal.copy_from_slice-requires
copy_from_slice-requires c =
    let eight = (rank_only _ _ _ (sym c.in_ok-squares.ensures)).0 in
    let size = c.loop-row.invariant.size in
    simp (length-take, length-drop) (omega arith)

pub returns-in_err-rest : goal.returns-in_err-rest
returns-in_err-rest c =
    let r = c.from_residual-in_err-rest.ensures in
    rw r (ranked_unended c.loop-row.invariant (omega arith) c.in_ok-squares.ensures (c.in_err-rest.ensures ∙ ap (λ b. past b c.in_ok-squares.behind.now) c.rank_end.ensures))

pub loop-row-preserved : goal.loop-row-preserved
loop-row-preserved c =
    let eight = (rank_only _ _ _ (sym c.in_ok-squares.ensures)).0 in
    let same = c.copy_from_slice.ensures.after in
    ranked_more c.loop-row.invariant (omega arith) c.in_ok-squares.ensures _ _ same (ap length same ∙ eight)
    (c.in_ok-rest.ensures ∙ ap (λ b. past b c.in_ok-squares.behind.now) c.rank_end.ensures)

pub returns : goal.returns
returns c = ranked_all c.loop-row.invariant c.loop-row-test.false
