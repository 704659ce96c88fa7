use Rattle.std.proofs.Common.{sym, ◌∙◌, subst}
use Rattle.std.proofs.lemmas.Bool.{both_ways}
use Rattle.board.proofs.AttackLaws.{pawn_attacks, knight_attacks, king_attacks, line_attacks}
use Rattle.moves.specs.Path.{Slides}
use Rattle.moves.proofs.ReachLaws.{lines_open, lines_shut}
use Rattle.moves.proofs.reach.reaches.Goals as goal

pub returns-then-found-code : goal.returns-then-found-code
returns-then-found-code c =
    let s = c.args.setup.now in
    c.pawn_reaches.ensures ∙ sym (pawn_attacks s.side s.codes c.args.from.number c.args.to.number (sym c.code_on-found.ensures ∙ c.if-found-code.true ∙ c.code.ensures))

pub returns-then-found-code-2 : goal.returns-then-found-code-2
returns-then-found-code-2 c =
    let s = c.args.setup.now in
    c.knight_reaches.ensures ∙ sym (knight_attacks s.side s.codes c.args.from.number c.args.to.number (sym c.code_on-found.ensures ∙ c.if-found-code-2.true ∙ c.code-2.ensures))

pub returns-then-found-code-3 : goal.returns-then-found-code-3
returns-then-found-code-3 c =
    let s = c.args.setup.now in
    c.king_reaches.ensures ∙ sym (king_attacks s.side s.codes c.args.from.number c.args.to.number (sym c.code_on-found.ensures ∙ c.if-found-code-3.true ∙ c.code-3.ensures))

pub returns-then-slides_to : goal.returns-then-slides_to
returns-then-slides_to c =
    let s = c.args.setup.now in
    let from = c.args.from.number in
    let to = c.args.to.number in
    let on = c.code_on-found.ensures in
    lines_open s.side s.codes from to _ (subst (λ x. Slides s.side x from to) on (c.slides_to.ensures.0 c.if-slides_to.true)) c.line_open.ensures
    ∙ sym (line_attacks s.side s.codes from to (λ e. c.if-found-code.false (on ∙ e ∙ sym c.code.ensures)) (λ e. c.if-found-code-2.false (on ∙ e ∙ sym c.code-2.ensures))
    (λ e. c.if-found-code-3.false (on ∙ e ∙ sym c.code-3.ensures)))

pub returns-else-slides_to : goal.returns-else-slides_to
returns-else-slides_to c =
    let s = c.args.setup.now in
    let from = c.args.from.number in
    let to = c.args.to.number in
    let on = c.code_on-found.ensures in
    c.if-slides_to.false
    ∙ sym (line_attacks s.side s.codes from to (λ e. c.if-found-code.false (on ∙ e ∙ sym c.code.ensures)) (λ e. c.if-found-code-2.false (on ∙ e ∙ sym c.code-2.ensures))
    (λ e. c.if-found-code-3.false (on ∙ e ∙ sym c.code-3.ensures))
    ∙ lines_shut s.side s.codes from to (λ slides. both_ways _ c.if-slides_to.false (c.slides_to.ensures.1 (subst (λ x. Slides s.side x from to) (sym on) slides))))
