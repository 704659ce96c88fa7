use Rattle.std.proofs.Common.{◌≡◌, suc, ◌-◌, not, eqb, get_or, sym, ap, ◌∙◌, arith}
use Rattle.std.proofs.Math.Bool.{not-not}
use Rattle.std.proofs.lemmas.Bool.{ne_eqb}
use Rattle.rays.proofs.SetLaws.{has_zero, has_not}
use Rattle.bitboard.specs.Codes.{codes_of}
use Rattle.bitboard.specs.CodeLaws.{codes_in, codes_small}
use Rattle.bitboard.proofs.Bitboard.squares.Goals as goal

pub returns-in-0 : goal.returns-in-0
returns-in-0 c s l =
    has_not c.occupied.result s c.occupied.type_inv l ∙ ap not (c.occupied.ensures s l) ∙ not-not _
    ∙ ap (eqb (get_or (codes_of c.args.self.now.words) s 0)) (sym c.in-0.is)

pub returns-in-1-to-12 : goal.returns-in-1-to-12
returns-in-1-to-12 c s l =
    let m = c.args.self.now in
    let place = c.from.result - 1 in
    let e : suc place ≡ c.args.code = omega arith in
    codes_in m.words m.apart place s (omega arith) l ∙ ap (eqb (get_or (codes_of m.words) s 0)) e

pub returns-in_default : goal.returns-in_default
returns-in_default c s l =
    has_zero s ∙ sym (ne_eqb _ _ (λ e. let h = codes_small c.args.self.now.words s in omega arith))
