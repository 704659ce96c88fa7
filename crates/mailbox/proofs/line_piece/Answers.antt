use Rattle.std.proofs.Common.{◌≡◌, ℕ, ◌%◌, Bool, cond, ◌||◌, eqb, sym, ap, ◌∙◌}
use Rattle.std.proofs.lemmas.Bool.{eq-eqb, ne_eqb, or_left, cond-true, cond-false}
use Rattle.board.specs.declared.side.Side.{Side}
use Rattle.board.specs.declared.piece.Kind.TheVariants.{Bishop, Rook, Queen}
use Rattle.board.specs.Piece.{code}
use Rattle.board.specs.Attack.{slides}
use Rattle.mailbox.proofs.line_piece.Goals as goal
use Rattle.mailbox.proofs.line_piece.Goals.{then-direction-eq0, else-direction-eq0}

pub returns-then-found-code : goal.returns-then-found-code
unfolding slides
returns-then-found-code c =
    eq-eqb _ _ c.if-found-code.true ∙ sym (or_left _ _ (eq-eqb _ _ (c.if-found-code.true ∙ c.code.ensures)))

-- no queen: the other line piece of the direction
other_piece : (side : Side) (d found q r : ℕ) → (found ≡ q → ⊥) → q ≡ code side Queen → r ≡ cond (eqb (d % 2) 0) (code side Rook) (code side Bishop)
    → eqb found r ≡ slides side d found
unfolding slides
other_piece side d found q r n e k = rw k (sym (ap (λ (b : Bool). b || eqb found (cond (eqb (d % 2) 0) (code side Rook) (code side Bishop))) (ne_eqb _ _ (λ p. n (p ∙ sym e)))))

pub returns-else-found-code : goal.returns-else-found-code
returns-else-found-code c =
    let is : c.code-else-found-code.result ≡ cond (eqb (c.args.direction % 2) 0) (code c.args.by Rook) (code c.args.by Bishop) = c.code-else-found-code.ensures
    ∙ elim c.if-direction-eq0.branch [
      | then-direction-eq0 w ↦ ap (code c.args.by) w.kind-is ∙ sym (cond-true _ _ _ (eq-eqb _ _ w.if-direction-eq0.true))
      | else-direction-eq0 w ↦ ap (code c.args.by) w.kind-is ∙ sym (cond-false _ _ _ (ne_eqb _ _ w.if-direction-eq0.false))
    ] in
    other_piece c.args.by c.args.direction c.args.found c.code.result _ c.if-found-code.false c.code.ensures is
