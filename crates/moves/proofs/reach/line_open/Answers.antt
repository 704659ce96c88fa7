use Rattle.moves.proofs.PathLaws.{free_turned, on_turned}
use Rattle.moves.proofs.reach.line_open.Goals as goal

pub returns-then-number-2 : goal.returns-then-number-2
returns-then-number-2 c = λ l ne on.
    let from = c.args.from.number in
    let to = c.args.to.number in
    let codes = c.args.codes.now in
    let turned = c.rising_open-then-number-2.ensures l (on_turned l from to on) in
    (λ e. free_turned l codes to from (turned.0 e), λ f. turned.1 (free_turned l codes from to f))
