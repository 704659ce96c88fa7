use Rattle.std.proofs.Common.{◌≡◌, ℕ, map, vec_items, sym, ap, ◌∙◌, refl, rules}
use Rattle.rules.specs.Parts.{Parts}
use Rattle.rules.specs.Legal.{legal_moves}
use Rattle.laws.specs.Position.{position_parts}
use Rattle.moves.specs.Action.{plain}
use Rattle.moves.proofs.TrialLaws.{none_below, legal_below, turn_found, turn_none}
use Rattle.moves.proofs.legal.legal_moves.Goals as goal
use Rattle.moves.proofs.legal.legal_moves.Goals.{in-Some+in_ok-push, in_default}

pub loop-number-init : goal.loop-number-init
loop-number-init g c = record { setup = refl; board = refl; moves = ap (map plain) c.new-moves.ensures.items ∙ sym (none_below (position_parts c.args.position.now)) }

pub loop-number-preserved : goal.loop-number-preserved
loop-number-preserved g c = record {
  setup = c.legal_numbered.ensures.kept.0 ∙ c.loop-number.invariant.setup;
  board = c.legal_numbered.ensures.kept.1 ∙ c.loop-number.invariant.board;
  moves = elim c.match-legal_numbered.branch [
    | in-Some+in_ok-push w ↦
        ap (λ v. map plain (vec_items v)) w.moves-is
        ∙ turn_found (position_parts c.args.position.now) c.loop-number.number plain _ c.loop-number.invariant.moves w.in-Some.m _
        (rw c.loop-number.invariant.setup at w.in-Some.ensures.answer) w.in_ok-push.ensures.items
    | in_default w ↦
        ap (λ v. map plain (vec_items v)) w.moves-is
        ∙ turn_none (position_parts c.args.position.now) c.loop-number.number plain _ c.loop-number.invariant.moves
        (rw c.loop-number.invariant.setup at w.in_default.ensures.answer)
  ];
}

-- moves below a bound are all of the legal ones where those below an equal number are
tried : (p : Parts) (last most : ℕ) → legal_below p most ≡ legal_moves p → last ≡ most → legal_below p last ≡ legal_moves p
tried p last most all same = ap (legal_below p) same ∙ all

pub returns-clause-answer : goal.returns-clause-answer
returns-clause-answer g c = c.loop-number.invariant.moves ∙ search (rules, tried)
