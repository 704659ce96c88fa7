use Rattle.std.proofs.Common.{◌≡◌, ◌≤◌, ap, sym, ◌∙◌, refl, arith}
use Rattle.std.specs.Option.{option_map, option_to_list}
use Rattle.board.specs.declared.piece.Kind.{Kind}
use Rattle.board.specs.declared.piece.Kind.TheVariants.{Pawn, Knight, Bishop, Rook, Queen, King}
use Rattle.board.specs.Piece.{number}
use Rattle.board.proofs.SquareLaws.{is_square}
use Rattle.rules.specs.Legal.{keep, going_from}
use Rattle.laws.specs.Position.{position_parts}
use Rattle.moves.specs.Action.{plain, promotion_number}
use Rattle.moves.proofs.ActionLaws.{promotion_most}
use Rattle.san.proofs.SourceLaws.{by_source}
use Rattle.san.specs.Said.{only}
use Rattle.movetext.specs.Found.{found, marks_agree}
use Rattle.movetext.proofs.Finding.{fits_there, goes_not, agrees_not, both_passed, turn_found, second, ended}
use Rattle.movetext.proofs.find.piece.Goals as goal
use Rattle.movetext.proofs.find.piece.Goals.{then-goes+then-agrees+else-is_some, else-goes, else-goes-via-then-goes+else-agrees, else-goes-via-else-goes}

low : (k : Kind) → 1 ≤ number k
low Pawn = omega arith
low Knight = omega arith
low Bishop = omega arith
low Rook = omega arith
low Queen = omega arith
low King = omega arith

high : (k : Kind) → number k ≤ 6
high Pawn = omega arith
high Knight = omega arith
high Bishop = omega arith
high Rook = omega arith
high Queen = omega arith
high King = omega arith

pub loop-number-init : goal.loop-number-init
unfolding keep
loop-number-init g c = refl

pub loop-number-preserved : goal.loop-number-preserved
loop-number-preserved g c =
    let p = position_parts c.args.position.now in
    let text = c.args.text.now in
    let k = number text.kind in
    let t = text.to.number in
    let q = promotion_number text.promotion in
    let l = low text.kind in
    let h = high text.kind in
    let n = c.loop-number.number in
    let square = is_square n c.in-Some.from c.in-Some.ensures in
    let i = c.loop-number.invariant in
    let goes = c.sources-goes.result in
    elim c.if-goes.branch [
      | then-goes+then-agrees+else-is_some w ↦
          let fits = fits_there p k text.file text.rank t q l h goes n c.sources-goes.ensures.answer square.0 w.agrees.result w.if-goes.true
          (w.agrees.ensures ∙ ap (marks_agree text) square.1) w.if-agrees.true in
          ap (λ o. option_to_list (option_map plain o)) w.one-is
          ∙ turn_found p k text.file text.rank t q l h plain c.loop-number.one (record { from = c.in-Some.from; to = text.to; promotion = text.promotion }) n i (sym w.is_some.ensures ∙ w.if-is_some.false) (ap (going_from t q) square.1) fits
      | else-goes w ↦ elim w.else-goes.branch [
        | else-goes-via-then-goes+else-agrees v ↦
            ap (λ o. option_to_list (option_map plain o)) w.one-is ∙ i
            ∙ sym (both_passed p k text.file text.rank t q l h n
            (agrees_not p k text.file text.rank t q l h n v.agrees.result (v.agrees.ensures ∙ ap (marks_agree text) square.1) v.if-agrees.false))
        | else-goes-via-else-goes v ↦
            ap (λ o. option_to_list (option_map plain o)) w.one-is ∙ i
            ∙ sym (both_passed p k text.file text.rank t q l h n
            (goes_not p k text.file text.rank t q l h goes n c.sources-goes.ensures.answer square.0 v.if-goes.false))
      ]
    ]

pub returns-then-is_some-clause-answer : goal.returns-then-is_some-clause-answer
returns-then-is_some-clause-answer g c =
    let p = position_parts c.args.position.now in
    let text = c.args.text.now in
    let k = number text.kind in
    let t = text.to.number in
    let q = promotion_number text.promotion in
    let l = low text.kind in
    let h = high text.kind in
    let n = c.loop-number.number in
    let square = is_square n c.in-Some.from c.in-Some.ensures in
    let fits = fits_there p k text.file text.rank t q l h c.sources-goes.result n c.sources-goes.ensures.answer square.0 c.agrees.result c.if-goes.true
    (c.agrees.ensures ∙ ap (marks_agree text) square.1) c.if-agrees.true in
    second p k text.file text.rank t q l h plain c.loop-number.one n c.loop-number.invariant (sym c.is_some.ensures ∙ c.if-is_some.true) fits square.0
    ∙ sym (ap only (by_source p k text.file text.rank t q text.to.on_board (promotion_most text.promotion)))

pub returns-clause-answer : goal.returns-clause-answer
returns-clause-answer g c =
    let p = position_parts c.args.position.now in
    let text = c.args.text.now in
    let k = number text.kind in
    let q = promotion_number text.promotion in
    let e : c.loop-number.number ≡ 64 = omega arith in
    let i = rw e at c.loop-number.invariant in
    ended p k text.file text.rank text.to.number q (low text.kind) (high text.kind) plain c.loop-number.one c.ok_or.result found (λ m. refl) (λ f. refl) i c.ok_or.ensures.value
    ∙ sym (ap only (by_source p k text.file text.rank text.to.number q text.to.on_board (promotion_most text.promotion)))
