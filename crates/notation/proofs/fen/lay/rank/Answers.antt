use Rattle.std.proofs.Common.{[], ◌∷◌, ◌++◌, ap, ◌∙◌, arith}
use Rattle.notation.specs.Fields.{gap_text}
use Rattle.notation.proofs.Laying.{laid_none, laid_empty, laid_piece, laid_end}
use Rattle.notation.proofs.fen.lay.rank.Goals as goal
use Rattle.notation.proofs.fen.lay.rank.Goals.{then-code-eq0, else-code-eq0}

pub loop-code-init : goal.loop-code-init
loop-code-init c = laid_none c.args.text.now.items c.args.squares.now

pub loop-code-preserved : goal.loop-code-preserved
loop-code-preserved c =
    elim c.if-code-eq0.branch [
      | then-code-eq0 w ↦ simp (w.text-is, w.empty-is) (laid_empty c.loop-code.invariant (omega arith) w.if-code-eq0.true)
      | else-code-eq0 w ↦
          simp (w.text-is, w.empty-is)
          (laid_piece c.loop-code.invariant w.push.new.self.items (omega arith) w.if-code-eq0.false
          (w.push.ensures.items ∙ ap (λ x. x ++ (w.letter.result ∷ [])) w.gap.ensures.items ∙ ap (λ x. (c.loop-code.text.items ++ gap_text c.loop-code.empty) ++ (x ∷ [])) w.letter.ensures)
          (omega (arith, w.push.ensures.len, w.gap.ensures.len)))
    ]

pub returns : goal.returns
returns c =
    let s = c.loop-code.invariant.size in
    record { items = c.gap-2.ensures.items ∙ laid_end c.loop-code.invariant (omega (arith, c.loop-code-test.false)); len = omega (arith, c.gap-2.ensures.len) }
