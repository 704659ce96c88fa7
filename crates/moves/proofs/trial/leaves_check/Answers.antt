use Rattle.std.proofs.Common.{ℕ, List, sym, subst, subst₂}
use Rattle.board.specs.Meaning.{Shown}
use Rattle.laws.specs.Setup.{parts}
use Rattle.moves.specs.Action.{plain}
use Rattle.moves.specs.Change.{SameBut}
use Rattle.moves.proofs.ActionLaws.{promotion_most}
use Rattle.moves.proofs.PlayLaws.{shown_after}
use Rattle.moves.proofs.trial.leaves_check.Goals as goal

pub redraw-requires : goal.redraw-requires
redraw-requires g c =
    let start = c.args.board.now in
    let setup = c.args.setup.now in
    let former : Shown setup.codes = subst Shown c.requires (g.met.B.Board.size start, g.met.B.Board.small start) in
    let made = shown_after (parts setup) (plain c.args.m) former (promotion_most c.args.m.promotion) in record {
      shown = subst Shown (sym c.codes_after-next.ensures) made;
      same = subst₂ (λ (x y : List ℕ). SameBut c.changed-squares.result x y) (sym c.requires) (sym c.codes_after-next.ensures) c.changed-squares.ensures;
    }
