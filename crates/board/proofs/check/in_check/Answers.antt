use Rattle.std.proofs.Common.{◌≡◌, ◌<◌, ◌≤◌, true, false, sym, ap, ◌∙◌, ⊎_elim, arith, rules}
use Rattle.std.proofs.lemmas.Bool.{cases_lt, cases_eq}
use Rattle.std.proofs.lemmas.Bool.Decides.{Decides-at}
use Rattle.board.specs.Piece.{other}
use Rattle.board.specs.Attack.{attacks}
use Rattle.board.proofs.AttackLaws.{check_found, check_missed}
use Rattle.board.proofs.NextLaws.{next_some, next_none}
use Rattle.board.proofs.RuleLaws.{check_rule}
use Rattle.board.proofs.check.in_check.Goals as goal

pub returns-then-attacked : goal.returns-then-attacked
returns-then-attacked g c =
    let codes = g.B.Board.codes c.args.board.now in
    let n = next_some codes c.loop-square.from c.code-king.result c.in-Some.square (sym c.in-Some.ensures) in
    let a : attacks (other c.args.side) codes c.in-Some.square ≡ true =
    ap (λ x. attacks x codes c.in-Some.square) (sym c.other-enemy.ensures) ∙ sym c.if-attacked.ensures in
    let e = check_found c.args.side codes c.in-Some.square n.1 (n.2 ∙ c.code-king.ensures) a in
    record { answer = sym e; rule = Decides-at true _ (sym e) (check_rule c.args.side codes) }

pub overflow_add-from : goal.overflow_add-from
overflow_add-from g c =
    let n = next_some (g.B.Board.codes c.args.board.now) c.loop-square.from c.code-king.result c.in-Some.square (sym c.in-Some.ensures) in
    let l = n.1 in
    search rules

pub loop-square-smaller : goal.loop-square-smaller
loop-square-smaller g c =
    let n = next_some (g.B.Board.codes c.args.board.now) c.loop-square.from c.code-king.result c.in-Some.square (sym c.in-Some.ensures) in
    let l = n.0 in
    let m = n.1 in
    omega arith

pub loop-square-preserved : goal.loop-square-preserved
loop-square-preserved g c =
    let codes = g.B.Board.codes c.args.board.now in
    let square = c.in-Some.square in
    let n = next_some codes c.loop-square.from c.code-king.result square (sym c.in-Some.ensures) in
    let m = n.1 in (
      omega arith,
      λ k h e.
          ⊎_elim
          (λ (q : k ≡ square). rw q (sym c.if-attacked.ensures))
          (λ (d : k ≡ square → ⊥). ⊎_elim
          (λ (l : k < c.loop-square.from). c.loop-square.invariant.1 k l e)
          (λ (l : c.loop-square.from ≤ k). absurd (n.3 k l (omega arith) e))
          (cases_lt k c.loop-square.from))
          (cases_eq k square),
    )

pub returns : goal.returns
returns g c =
    let codes = g.B.Board.codes c.args.board.now in
    let side = c.args.side in
    let e = check_missed side codes (λ k h q.
    ⊎_elim
    (λ (l : k < c.loop-square.from).
    ap (λ x. attacks x codes k) (sym c.other-enemy.ensures) ∙ c.loop-square.invariant.1 k l (q ∙ sym c.code-king.ensures))
    (λ (l : c.loop-square.from ≤ k).
    absurd (next_none codes c.loop-square.from c.code-king.result (sym c.in_default.ensures) k l h (q ∙ sym c.code-king.ensures)))
    (cases_lt k c.loop-square.from)) in
    record { answer = sym e; rule = Decides-at false _ (sym e) (check_rule side codes) }
